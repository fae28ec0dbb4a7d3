-- Histories as plain lists: what an event more does, and how the beginnings of one history compare.
-- Nothing here knows of words or threads.
use Rattle.std.proofs.Common.{◌≡◌, ◌≢◌, ℕ, suc, ◌+◌, ◌<◌, ◌≤◌, List, [], ◌∷◌, ◌++◌, length, drop, All, Bool, cond, Some, sym, refl, ap, ◌∙◌, subst, inl, inr, ⊎_elim, arith, append_assoc, length-append, length-set, get_or-set_other, get_or-set_same, eq-eqb, ne_eqb}
use Rattle.std.specs.Prelude.{Any}
use Rattle.std.proofs.lemmas.List.{take-append-le, drop-append-le, get_or_append_left, get_or_push}
use Rattle.std.proofs.lemmas.List.Elements.{filter-append, All-push, All-nil, All-cons, All-head, All-tail}
use mathlib.Core.List.{append-nil}
use Rattle.dpl_history.specs.declared.cell.CellState.{CellState}
use Rattle.dpl_history.specs.declared.cell.CellState.TheVariants.{Empty}
use Rattle.dpl_history.specs.declared.cell.CellOp.{CellOp}
use Rattle.dpl_history.specs.declared.cell.Reply.{Reply}
use Rattle.dpl_history.specs.declared.history.Event.{Event}
use Rattle.dpl_history.specs.declared.history.Miss.{Miss}
use Rattle.dpl_history.specs.Cells.{effect}
use Rattle.dpl_history.specs.Histories.{event, cell_at, left_by, after_event, after, Happens, Legal, of_task, AllUpTo, StartsWith}
use Rattle.dpl_history.specs.Looks.{state_word, Agrees}

-- Lists of any kind

module _ {X : Type 0} (P : X → Type 0) where
  pub Any-append_left : (xs ys : List X) → Any P xs → Any P (xs ++ ys)
  Any-append_left xs ys a = (a.0, a.1, omega (arith, a.2, length-append xs ys), get_or_append_left xs ys a.1 a.0 a.2 ∙ a.3, a.4)

  pub Any-push : (xs : List X) (x : X) → P x → Any P (xs ++ x ∷ [])
  Any-push xs x p = (length xs, x, omega (arith, length-append xs (x ∷ [])), get_or_push xs x x (length xs) refl, p)

  pub All-append_left : (xs ys : List X) → All P (xs ++ ys) → All P xs
  All-append_left [] ys h = All-nil P
  All-append_left (x ∷ xs) ys h = All-cons P x xs (All-head P x (xs ++ ys) h) (All-append_left xs ys (All-tail P x (xs ++ ys) h))

  pub All-middle : (xs : List X) (x : X) (ys : List X) → All P (xs ++ x ∷ ys) → P x
  All-middle [] x ys h = All-head P x ys h
  All-middle (z ∷ zs) x ys h = All-middle zs x ys (All-tail P z (zs ++ x ∷ ys) h)

nil_of_length : {X : Type 0} (xs : List X) → length xs ≡ 0 → xs ≡ []
nil_of_length [] h = refl
nil_of_length (x ∷ xs) h = absurd (omega arith)

-- Beginnings

pub StartsWith-same : (es : List Event) → StartsWith es es
StartsWith-same es = ([], sym (append-nil es))

pub StartsWith-append : (es fs front : List Event) → StartsWith es front → StartsWith (es ++ fs) front
StartsWith-append es fs front s = (s.0 ++ fs, ap (λ l. l ++ fs) s.1 ∙ append_assoc front s.0 fs)

pub StartsWith-trans : (es fs gs : List Event) → StartsWith fs es → StartsWith gs fs → StartsWith gs es
StartsWith-trans es fs gs a b = (a.0 ++ b.0, b.1 ∙ (ap (λ l. l ++ b.0) a.1 ∙ append_assoc es a.0 b.0))

pub StartsWith-length : (es fs : List Event) → StartsWith fs es → length es ≤ length fs
StartsWith-length es fs a = let e : length fs ≡ length es + length a.0 = ap length a.1 ∙ length-append es a.0 in omega arith

suc-le : (a b : ℕ) → suc a ≤ suc b → a ≤ b
suc-le a b h = omega arith

pub head_same : (a b : Event) (x y : List Event) → a ∷ x ≡ b ∷ y → a ≡ b
head_same a b x y e = cc

pub tail_same : (a b : Event) (x y : List Event) → a ∷ x ≡ b ∷ y → x ≡ y
tail_same a b x y e = cc

-- of two beginnings of one history, the longer begins with the shorter
pub StartsWith-between : (log es fs : List Event) → StartsWith log es → StartsWith log fs → length es ≤ length fs → StartsWith fs es
StartsWith-between log [] fs a b h = (fs, refl)
StartsWith-between log (e ∷ es) [] a b h = absurd (omega arith)
StartsWith-between log (e ∷ es) (f ∷ fs) a b h =
    let same : e ∷ (es ++ a.0) ≡ f ∷ (fs ++ b.0) = sym a.1 ∙ b.1 in
    let s = StartsWith-between (es ++ a.0) es fs (a.0, refl) (b.0, tail_same e f (es ++ a.0) (fs ++ b.0) same) (suc-le _ _ h) in
    (s.0, λ i. sym (head_same e f (es ++ a.0) (fs ++ b.0) same) i ∷ s.1 i)

-- Cells after a history

pub length-after_event : (cs : List CellState) (e : Event) → length (after_event cs e) ≡ length cs
length-after_event cs e = length-set cs e.cell _

pub length-after : (cs : List CellState) (es : List Event) → length (after cs es) ≡ length cs
length-after cs [] = refl
length-after cs (e ∷ es) = length-after (after_event cs e) es ∙ length-after_event cs e

pub after-append : (cs : List CellState) (es fs : List Event) → after cs (es ++ fs) ≡ after (after cs es) fs
after-append cs [] fs = refl
after-append cs (e ∷ es) fs = after-append (after_event cs e) es fs

pub Legal-append : (cs : List CellState) (es fs : List Event) → Legal cs es → Legal (after cs es) fs → Legal cs (es ++ fs)
Legal-append cs [] fs p q = q
Legal-append cs (e ∷ es) fs p q = (p.0, Legal-append (after_event cs e) es fs p.1 q)

pub Legal-append_left : (cs : List CellState) (es fs : List Event) → Legal cs (es ++ fs) → Legal cs es
Legal-append_left cs [] fs p = tt
Legal-append_left cs (e ∷ es) fs p = (p.0, Legal-append_left (after_event cs e) es fs p.1)

-- the last event of a legal history happens on the cells that those before it leave
pub Legal-last : (cs : List CellState) (es : List Event) (e : Event) → Legal cs (es ++ e ∷ []) → Happens (after cs es) e
Legal-last cs [] e p = p.0
Legal-last cs (x ∷ es) e p = Legal-last (after_event cs x) es e p.1

-- one event more, which has its effect on the cell that the history leaves
module _ (cs : List CellState) (es : List Event) (k c : ℕ) (op : CellOp) (x y : CellState) (r : Reply) where
  abbrev new : Event
  new = event k c op r

  pub Legal-push : Legal cs es → c < length cs → cell_at (after cs es) c ≡ x → effect op x ≡ Some (y, r) → Legal cs (es ++ new ∷ [])
  Legal-push p inside is does = Legal-append cs es (new ∷ []) p
      ((subst (λ n. c < n) (sym (length-after cs es)) inside, (y, ap (effect op) is ∙ does)), tt)

  pub cell_at-push_same : c < length cs → cell_at (after cs es) c ≡ x → effect op x ≡ Some (y, r) → cell_at (after cs (es ++ new ∷ [])) c ≡ y
  cell_at-push_same inside is does = ap (λ l. cell_at l c) (after-append cs es (new ∷ []))
      ∙ (get_or-set_same (after cs es) c _ Empty (subst (λ n. c < n) (sym (length-after cs es)) inside) ∙ ap (left_by (cell_at (after cs es) c)) (ap (effect op) is ∙ does))

  pub cell_at-push_other : (d : ℕ) → d ≢ c → cell_at (after cs (es ++ new ∷ [])) d ≡ cell_at (after cs es) d
  cell_at-push_other d other = ap (λ l. cell_at l d) (after-append cs es (new ∷ [])) ∙ get_or-set_other (after cs es) c d _ Empty other

-- Events of one task

pub of_task-push_same : (k : ℕ) (es : List Event) (c : ℕ) (op : CellOp) (r : Reply) → of_task k (es ++ event k c op r ∷ []) ≡ of_task k es ++ event k c op r ∷ []
of_task-push_same k es c op r = filter-append _ es (event k c op r ∷ []) ∙ ap (λ (b : Bool). of_task k es ++ cond b (event k c op r ∷ []) []) (eq-eqb k k refl)

pub of_task-push_other : (j k : ℕ) (es : List Event) (c : ℕ) (op : CellOp) (r : Reply) → j ≢ k → of_task j (es ++ event k c op r ∷ []) ≡ of_task j es
of_task-push_other j k es c op r other = filter-append _ es (event k c op r ∷ []) ∙ (ap (λ (b : Bool). of_task j es ++ cond b (event k c op r ∷ []) []) (ne_eqb k j (λ e. other (sym e))) ∙ append-nil (of_task j es))

-- where the shorter of two beginnings has all events of a task that the log has, the longer has them too
pub of_task-between : (k : ℕ) (es fs log : List Event) → StartsWith fs es → StartsWith log fs → of_task k es ≡ of_task k log → of_task k fs ≡ of_task k log
of_task-between k es fs log a b is =
    let x : List Event = a.0 in let y : List Event = b.0 in
    let one : of_task k fs ≡ of_task k es ++ of_task k x = ap (of_task k) a.1 ∙ filter-append _ es x in
    let two : of_task k log ≡ of_task k fs ++ of_task k y = ap (of_task k) b.1 ∙ filter-append _ fs y in
    let p : length (of_task k fs) ≡ length (of_task k es) + length (of_task k x) = ap length one ∙ length-append (of_task k es) (of_task k x) in
    let q : length (of_task k log) ≡ length (of_task k fs) + length (of_task k y) = ap length two ∙ length-append (of_task k fs) (of_task k y) in
    let r : length (of_task k es) ≡ length (of_task k log) = ap length is in
    let none_left : of_task k y ≡ [] = nil_of_length (of_task k y) (nothing_left _ _ _ _ _ p q r) in
    sym (two ∙ (ap (λ z. of_task k fs ++ z) none_left ∙ append-nil (of_task k fs)))
  where
    nothing_left : (a b c d e : ℕ) → b ≡ a + c → d ≡ b + e → a ≡ d → e ≡ 0
    nothing_left a b c d e p q r = omega arith

whole_by : (n : ℕ) (es log rest : List Event) → log ≡ es ++ rest → AllUpTo n log → ((k : ℕ) → k ≤ n → of_task k es ≡ of_task k log) → log ≡ es
whole_by n es log [] s all same = s ∙ append-nil es
whole_by n es log (e ∷ rest) s all same =
    let k : ℕ = e.task in
    let ours : k ≤ n = All-middle (λ (x : Event). x.task ≤ n) es e rest (subst (AllUpTo n) s all) in
    let two : of_task k log ≡ of_task k es ++ of_task k (e ∷ rest) = ap (of_task k) s ∙ filter-append _ es (e ∷ rest) in
    let one : of_task k (e ∷ rest) ≡ e ∷ of_task k rest = ap (λ (b : Bool). cond b (e ∷ of_task k rest) (of_task k rest)) (eq-eqb k k refl) in
    let p : length (of_task k log) ≡ length (of_task k es) + length (of_task k (e ∷ rest)) = ap length two ∙ length-append (of_task k es) (of_task k (e ∷ rest)) in
    let q : length (of_task k (e ∷ rest)) ≡ suc (length (of_task k rest)) = ap length one in
    let r : length (of_task k es) ≡ length (of_task k log) = ap length (same k ours) in
    absurd (too_many _ _ _ _ p q r)
  where
    too_many : (a b c d : ℕ) → b ≡ a + c → c ≡ suc d → a ≡ b → ⊥
    too_many a b c d p q r = omega arith

-- a beginning that has all events of all tasks is the whole log
pub whole : (n : ℕ) (es log : List Event) → StartsWith log es → AllUpTo n log → ((k : ℕ) → k ≤ n → of_task k es ≡ of_task k log) → log ≡ es
whole n es log s all same = whole_by n es log s.0 s.1 all same

pub AllUpTo-push : (n k : ℕ) (es : List Event) (c : ℕ) (op : CellOp) (r : Reply) → AllUpTo n es → k ≤ n → AllUpTo n (es ++ event k c op r ∷ [])
AllUpTo-push n k es c op r all small = All-push (λ (e : Event). e.task ≤ n) es (event k c op r) all small

-- Looks

pub Agrees-append : (cs : List CellState) (es fs : List Event) (m : Miss) → Agrees cs es m → Agrees cs (es ++ fs) m
Agrees-append cs es fs m a = (
  (let h = a.0 in omega (arith, length-append es fs)),
  ⊎_elim (λ is. inl (ap (λ l. state_word (cell_at (after cs l) m.cell)) (take-append-le m.place es fs a.0) ∙ is))
      (λ (t : (m.word ≡ 2) × Any (λ e. e.cell ≡ m.cell) (drop m.place es)).
      inr (t.0, subst (Any (λ e. e.cell ≡ m.cell)) (sym (drop-append-le m.place es fs a.0)) (Any-append_left (λ (e : Event). e.cell ≡ m.cell) (drop m.place es) fs t.1)))
      a.1,
)

-- a look at a busy cell agrees once an event of that cell follows
pub Agrees-push : (cs : List CellState) (es : List Event) (e : Event) (m : Miss) → m.word ≡ 2 → m.place ≤ length es → e.cell ≡ m.cell → Agrees cs (es ++ e ∷ []) m
Agrees-push cs es e m busy inside same = (
  omega (arith, length-append es (e ∷ [])),
  inr (busy, subst (Any (λ x. x.cell ≡ m.cell)) (sym (drop-append-le m.place es (e ∷ []) inside)) (Any-push (λ (x : Event). x.cell ≡ m.cell) (drop m.place es) e same)),
)
