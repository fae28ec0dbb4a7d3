-- What one task puts into a channel is what another takes out, and what is in it at the end.
-- By the law of channels, and since each of the two tasks did nothing else.
use Rattle.std.proofs.Common.{◌≡◌, ◌≢◌, ℕ, zero, suc, ◌<◌, ◌≤◌, ℤ, List, [], ◌∷◌, ◌++◌, All, Bool, cond, sym, refl, ap, ◌∙◌, subst, arith, append_assoc, ne_eqb}
use Rattle.std.proofs.lemmas.List.Elements.{All-nil, All-cons, All-head, All-tail}
use Rattle.dpl_history.specs.declared.cell.CellState.{CellState}
use Rattle.dpl_history.specs.declared.cell.CellState.TheVariants.{Empty}
use Rattle.dpl_history.specs.declared.cell.CellOp.{CellOp}
use Rattle.dpl_history.specs.declared.cell.CellOp.TheVariants.{ReadFE, WriteEF}
use Rattle.dpl_history.specs.declared.cell.Reply.{Reply}
use Rattle.dpl_history.specs.declared.cell.Reply.TheVariants.{Value, Done}
use Rattle.dpl_history.specs.declared.history.Event.{Event}
use Rattle.dpl_history.specs.Histories.{event, cell_at, legal, of_task, AllUpTo}
use Rattle.dpl_history.specs.Values.{content, put_by, taken_by, values_in, values_out, IsOfChannel}
use Rattle.dpl_history.proofs.Values.{HandsOn-channel, values_in-empty, All-of_task, values_in-of_task, values_out-of_task}
use Rattle.dpl_cell.specs.Seats.{BoardValue, SeatValue, Has, fresh_seat}
use Rattle.dpl_cell.specs.Calls.{KeepsNumbers, DidAfter, Joined}
use Rattle.dpl_cell_tests.specs.Passing.{sends, receives, HasDone}
use Rattle.dpl_cell.proofs.Numbers.{Has-head, Has-append_left, Has-append_right}
use Rattle.dpl_cell.proofs.Telling.{DidAfter-mine}

All-sends : (P : Event → Type 0) (k : ℕ) → ((v : ℤ) → P (event k 0 (WriteEF v) Done)) → (vs : List ℤ) → All P (sends k vs)
All-sends P k h [] = All-nil P
All-sends P k h (v ∷ vs) = All-cons P (event k 0 (WriteEF v) Done) (sends k vs) (h v) (All-sends P k h vs)

All-receives : (P : Event → Type 0) (k : ℕ) → ((v : ℤ) → P (event k 0 ReadFE (Value v))) → (vs : List ℤ) → All P (receives k vs)
All-receives P k h [] = All-nil P
All-receives P k h (v ∷ vs) = All-cons P (event k 0 ReadFE (Value v)) (receives k vs) (h v) (All-receives P k h vs)

values_in-sends : (k : ℕ) (vs : List ℤ) → values_in 0 (sends k vs) ≡ vs
values_in-sends k [] = refl
values_in-sends k (v ∷ vs) = ap (λ l. v ∷ l) (values_in-sends k vs)

values_out-receives : (k : ℕ) (vs : List ℤ) → values_out 0 (receives k vs) ≡ vs
values_out-receives k [] = refl
values_out-receives k (v ∷ vs) = ap (λ l. v ∷ l) (values_out-receives k vs)

of_task-beyond : (n k : ℕ) (es : List Event) → AllUpTo n es → n < k → of_task k es ≡ []
of_task-beyond n k [] a h = refl
of_task-beyond n k (e ∷ es) a h = let low : e.task ≤ n = All-head (λ (x : Event). x.task ≤ n) e es a in
    ap (λ (b : Bool). cond b (e ∷ of_task k es) (of_task k es)) (ne_eqb e.task k (λ (q : e.task ≡ k). omega arith))
    ∙ of_task-beyond n k es (All-tail (λ (x : Event). x.task ≤ n) e es a) h

-- the events of a sender 0 and a receiver 1, and no others
module _ (es : List Event) (vs got : List ℤ) (ours : AllUpTo 2 es) (sent : of_task 0 es ≡ sends 0 vs) (received : of_task 1 es ≡ receives 1 got) (none : of_task 2 es ≡ []) where
  All-both : (P : Event → Type 0) → ((v : ℤ) → P (event 0 0 (WriteEF v) Done)) → ((v : ℤ) → P (event 1 0 ReadFE (Value v))) → All P es
  All-both P s r = All-of_task P es each
    where
      nothing : (k : ℕ) → of_task k es ≡ [] → All P (of_task k es)
      nothing k e = subst (All P) (sym e) (All-nil P)

      each : (k : ℕ) → All P (of_task k es)
      each zero = subst (All P) (sym sent) (All-sends P 0 s vs)
      each (suc zero) = subst (All P) (sym received) (All-receives P 1 r got)
      each (suc (suc zero)) = nothing 2 none
      each (suc (suc (suc k))) = nothing (suc (suc (suc k))) (of_task-beyond 2 (suc (suc (suc k))) es ours (omega arith))

  pub passed_on : (cs left : List CellState) → legal cs es left → cell_at cs 0 ≡ Empty → vs ≡ got ++ content (cell_at left 0)
  passed_on cs left law empty =
      let channel = All-both (λ (e : Event). e.cell ≡ 0 → IsOfChannel e.op) (λ v _. tt) (λ v _. tt) in
      let put : values_in 0 (of_task 0 es) ≡ values_in 0 es = values_in-of_task 0 0 es
      (All-both (λ (e : Event). e.task ≢ 0 → e.cell ≡ 0 → put_by e.op ≡ []) (λ v ne _. absurd (ne refl)) (λ v _ _. refl)) in
      let taken : values_out 0 (of_task 1 es) ≡ values_out 0 es = values_out-of_task 0 1 es
      (All-both (λ (e : Event). e.task ≢ 1 → e.cell ≡ 0 → taken_by e.op e.reply ≡ []) (λ v _ _. refl) (λ v ne _. absurd (ne refl))) in
      let goes_in : vs ≡ values_in 0 es = sym (values_in-sends 0 vs) ∙ (ap (values_in 0) (sym sent) ∙ put) in
      let comes_out : got ≡ values_out 0 es = sym (values_out-receives 1 got) ∙ (ap (values_out 0) (sym received) ∙ taken) in
      goes_in ∙ (values_in-empty cs 0 es empty (HandsOn-channel cs 0 es law.0 channel)
      ∙ (λ i. sym comes_out i ++ content (cell_at (sym law.1 i) 0)))

-- one operation more of the seat's number
pub HasDone-push : (n : ℕ) (v u w : SeatValue) (es : List Event) (op : CellOp) (r q : Reply) → v.numbers ≡ v.number ∷ [] → KeepsNumbers v u → HasDone es v u
    → DidAfter n u 0 op r w → r ≡ q → HasDone (es ++ event v.number 0 op q ∷ []) v w
HasDone-push n v u w es op r q alone keeps done did is =
    let k : ℕ = v.number in let new : List Event = event k 0 op q ∷ [] in
    let has : Has k v.numbers = subst (λ (ns : List ℕ). Has k ns) (sym alone) (Has-head k []) in
    let has_u : Has u.number u.numbers = subst (λ (z : ℕ × List ℕ). Has z.0 z.1) (λ i. (sym keeps.0 i, sym keeps.1 i)) has in
    let last = subst (λ (z : ℕ × Reply). of_task z.0 w.history ≡ of_task z.0 u.history ++ event z.0 0 op z.1 ∷ []) (λ i. (keeps.0 i, is i)) (DidAfter-mine n u w 0 op r has_u did) in
    last ∙ (ap (λ (l : List Event). l ++ new) done ∙ append_assoc (of_task k v.history) es new)

pub sends-push : (k : ℕ) (vs : List ℤ) (v : ℤ) → sends k (vs ++ v ∷ []) ≡ sends k vs ++ event k 0 (WriteEF v) Done ∷ []
sends-push k [] v = refl
sends-push k (x ∷ xs) v = ap (λ l. event k 0 (WriteEF x) Done ∷ l) (sends-push k xs v)

pub receives-push : (k : ℕ) (vs : List ℤ) (v : ℤ) → receives k (vs ++ v ∷ []) ≡ receives k vs ++ event k 0 ReadFE (Value v) ∷ []
receives-push k [] v = refl
receives-push k (x ∷ xs) v = ap (λ l. event k 0 ReadFE (Value x) ∷ l) (receives-push k xs v)

-- the seats of both tasks joined to the gatherer's: it knows what both did, and that it did nothing itself
pub both_joined : (b : BoardValue) (g s t u w : SeatValue) → g ≡ fresh_seat b 2 → s.numbers ≡ 0 ∷ [] → t.numbers ≡ 1 ∷ [] → Joined g s u → Joined u t w
    → (of_task 0 w.history ≡ of_task 0 s.history) × (of_task 1 w.history ≡ of_task 1 t.history) × (of_task 2 w.history ≡ [])
both_joined b g s t u w fresh zero_is one_is first second =
    let has_s : Has 0 s.numbers = subst (λ (ns : List ℕ). Has 0 ns) (sym zero_is) (Has-head 0 []) in
    let has_t : Has 1 t.numbers = subst (λ (ns : List ℕ). Has 1 ns) (sym one_is) (Has-head 1 []) in
    let has_g : Has 2 g.numbers = subst (λ (x : SeatValue). Has 2 x.numbers) (sym fresh) (Has-head 2 []) in
    let s_in_u : Has 0 u.numbers = subst (λ (ns : List ℕ). Has 0 ns) (sym first.numbers) (Has-append_right 0 g.numbers s.numbers has_s) in
    let g_in_u : Has 2 u.numbers = subst (λ (ns : List ℕ). Has 2 ns) (sym first.numbers) (Has-append_left 2 g.numbers s.numbers has_g) in (
      second.mine 0 s_in_u ∙ first.theirs 0 has_s,
      second.theirs 1 has_t,
      second.mine 2 g_in_u ∙ (first.mine 2 has_g ∙ ap (λ (x : SeatValue). of_task 2 x.history) fresh),
    )
