-- A channel hands its values on: what goes in comes out once, in order, or is still there.
-- By induction over the history, event by event.
use Rattle.std.proofs.Common.{◌≡◌, ◌≢◌, ℕ, ◌<◌, ℤ, List, [], ◌∷◌, ◌++◌, length, All, refl, eqb, Bool, cond, Some, sym, ap, ◌∙◌, subst, append_assoc, eq-eqb, ne_eqb, eqb-true, true, false, get_or-set_same, get_or-set_other}
use Rattle.std.proofs.lemmas.List.Elements.{All-nil, All-cons, All-head, All-tail}
use mathlib.Core.List.{append-nil}
use mathlib.Core.Logic.{dite}
use native.Mathlib.Decide.{ℕ_discrete}
use Rattle.dpl_history.proofs.Replies.{no_effect, same_effect}
use Rattle.dpl_history.specs.declared.cell.CellState.{CellState}
use Rattle.dpl_history.specs.declared.cell.CellState.TheVariants.{Empty, Full}
use Rattle.dpl_history.specs.declared.cell.CellOp.{CellOp}
use Rattle.dpl_history.specs.declared.cell.CellOp.TheVariants.{ReadFE, ReadFF, WriteEF, WriteFF, WriteXF, Reset}
use Rattle.dpl_history.specs.declared.cell.Reply.{Reply}
use Rattle.dpl_history.specs.declared.cell.Reply.TheVariants.{Value, Done}
use Rattle.dpl_history.specs.declared.history.Event.{Event}
use Rattle.dpl_history.specs.Cells.{effect}
use Rattle.dpl_history.specs.Histories.{cell_at, left_by, after_event, after, Legal, of_task}
use Rattle.dpl_history.specs.Values.{content, put_by, taken_by, values_in, values_out, IsOfChannel, IsChannel, HandsOn}

-- one operation of a channel: what was in and what it puts in are what it takes out and what it leaves
hands_on_once : (op : CellOp) (x y : CellState) (r : Reply) → IsOfChannel op → effect op x ≡ Some (y, r) → content x ++ put_by op ≡ taken_by op r ++ content y
hands_on_once ReadFE Empty y r p e = absurd (no_effect (y, r) e)
hands_on_once ReadFE (Full v) y r p e = ap (λ (t : CellState × Reply). taken_by ReadFE t.1 ++ content t.0) (same_effect (Empty, Value v) (y, r) e)
hands_on_once ReadFF Empty y r p e = absurd (no_effect (y, r) e)
hands_on_once ReadFF (Full v) y r p e = ap (λ (t : CellState × Reply). content t.0) (same_effect (Full v, Value v) (y, r) e)
hands_on_once (WriteEF v) Empty y r p e = ap (λ (t : CellState × Reply). content t.0) (same_effect (Full v, Done) (y, r) e)
hands_on_once (WriteEF v) (Full u) y r p e = absurd (no_effect (y, r) e)
hands_on_once (WriteFF v) x y r p e = absurd p
hands_on_once (WriteXF v) x y r p e = absurd p
hands_on_once Reset x y r p e = absurd p

-- the law for one event more at the cell
hands_on_more : (xs ps ins ts ys outs ds : List ℤ) → xs ++ ps ≡ ts ++ ys → ys ++ ins ≡ outs ++ ds → xs ++ (ps ++ ins) ≡ (ts ++ outs) ++ ds
hands_on_more xs ps ins ts ys outs ds one more =
    sym (append_assoc xs ps ins) ∙ (ap (λ l. l ++ ins) one ∙ (append_assoc ts ys ins ∙ (ap (λ l. ts ++ l) more ∙ sym (append_assoc ts outs ds))))

pub HandsOn-channel : (cs : List CellState) (c : ℕ) (es : List Event) → Legal cs es → IsChannel c es → HandsOn cs c es
HandsOn-channel cs c [] p q = append-nil (content (cell_at cs c))
HandsOn-channel cs c (e ∷ es) p q =
    let inside : e.cell < length cs = p.0.0 in let y : CellState = p.0.1.0 in
    let is : effect e.op (cell_at cs e.cell) ≡ Some (y, e.reply) = p.0.1.1 in
    let cs2 : List CellState = after_event cs e in
    let left : CellState = left_by (cell_at cs e.cell) (effect e.op (cell_at cs e.cell)) in
    let P : Event → Type 0 = λ (x : Event). x.cell ≡ c → IsOfChannel x.op in
    let more : HandsOn cs2 c es = HandsOn-channel cs2 c es p.1 (All-tail P e es q) in
    let xs : List ℤ = content (cell_at cs c) in let ins : List ℤ = values_in c es in
    let outs : List ℤ = values_out c es in let ds : List ℤ = content (cell_at (after cs2 es) c) in
    dite (ℕ_discrete e.cell c)
    (λ same.
    let was : effect e.op (cell_at cs c) ≡ Some (y, e.reply) = subst (λ (d : ℕ). effect e.op (cell_at cs d) ≡ Some (y, e.reply)) same is in
    let now : cell_at cs2 c ≡ y = subst (λ (d : ℕ). cell_at cs2 d ≡ y) same (get_or-set_same cs e.cell left Empty inside ∙ ap (left_by (cell_at cs e.cell)) is) in
    let one = hands_on_once e.op (cell_at cs c) y e.reply (All-head P e es q same) was in
    let both = hands_on_more xs (put_by e.op) ins (taken_by e.op e.reply) (content y) outs ds one (ap (λ (s : CellState). content s ++ ins) (sym now) ∙ more) in
    ap (λ (b : Bool). xs ++ (cond b (put_by e.op) [] ++ ins)) (eq-eqb e.cell c same)
    ∙ (both ∙ ap (λ (b : Bool). (cond b (taken_by e.op e.reply) [] ++ outs) ++ ds) (sym (eq-eqb e.cell c same))))
    (λ other.
    let now : cell_at cs2 c ≡ cell_at cs c = get_or-set_other cs e.cell c left Empty (λ (s : c ≡ e.cell). other (sym s)) in
    ap (λ (b : Bool). xs ++ (cond b (put_by e.op) [] ++ ins)) (ne_eqb e.cell c other)
    ∙ (ap (λ (s : CellState). content s ++ ins) (sym now) ∙ (more ∙ ap (λ (b : Bool). (cond b (taken_by e.op e.reply) [] ++ outs) ++ ds) (sym (ne_eqb e.cell c other)))))

-- of a channel that was empty at first, what comes out is the first part of what is put in
pub values_in-empty : (cs : List CellState) (c : ℕ) (es : List Event) → cell_at cs c ≡ Empty → HandsOn cs c es → values_in c es ≡ values_out c es ++ content (cell_at (after cs es) c)
values_in-empty cs c es empty law = ap (λ (s : CellState). content s ++ values_in c es) (sym empty) ∙ law

-- and all of it, where the channel is empty at the end
pub values_in-both_empty : (cs : List CellState) (c : ℕ) (es : List Event) → cell_at cs c ≡ Empty → cell_at (after cs es) c ≡ Empty → HandsOn cs c es → values_in c es ≡ values_out c es
values_in-both_empty cs c es empty left law =
    values_in-empty cs c es empty law ∙ (ap (λ (s : CellState). values_out c es ++ content s) left ∙ append-nil (values_out c es))

-- Of one task

-- what holds of the events of each task holds of all events
pub All-of_task : (P : Event → Type 0) (es : List Event) → ((k : ℕ) → All P (of_task k es)) → All P es
All-of_task P [] h = All-nil P
All-of_task P (e ∷ es) h = All-cons P e es
    (All-head P e (of_task e.task es) (subst (λ (b : Bool). All P (cond b (e ∷ of_task e.task es) (of_task e.task es))) (eq-eqb e.task e.task refl) (h e.task)))
    (All-of_task P es (λ k. rest k (eqb e.task k) (h k)))
  where
    rest : (k : ℕ) (b : Bool) → All P (cond b (e ∷ of_task k es) (of_task k es)) → All P (of_task k es)
    rest k true a = All-tail P e (of_task k es) a
    rest k false a = a

-- where one task alone puts values into a cell, they are what its own events put in
pub values_in-of_task : (c k : ℕ) (es : List Event) → All (λ (e : Event). e.task ≢ k → e.cell ≡ c → put_by e.op ≡ []) es → values_in c (of_task k es) ≡ values_in c es
values_in-of_task c k [] others = refl
values_in-of_task c k (e ∷ es) others =
    let P : Event → Type 0 = λ (x : Event). x.task ≢ k → x.cell ≡ c → put_by x.op ≡ [] in
    let more = values_in-of_task c k es (All-tail P e es others) in
    let here : Bool → List ℤ = λ b. cond b (put_by e.op) [] in
    dite (ℕ_discrete e.task k)
    (λ same. ap (λ (b : Bool). values_in c (cond b (e ∷ of_task k es) (of_task k es))) (eq-eqb e.task k same) ∙ ap (λ l. here (eqb e.cell c) ++ l) more)
    (λ other. ap (λ (b : Bool). values_in c (cond b (e ∷ of_task k es) (of_task k es))) (ne_eqb e.task k other)
    ∙ (more ∙ ap (λ l. l ++ values_in c es) (sym (puts_nothing (eqb e.cell c) refl other))))
  where
    puts_nothing : (b : Bool) → eqb e.cell c ≡ b → e.task ≢ k → cond b (put_by e.op) [] ≡ []
    puts_nothing true at other = All-head (λ (x : Event). x.task ≢ k → x.cell ≡ c → put_by x.op ≡ []) e es others other (eqb-true e.cell c at)
    puts_nothing false at other = refl

-- where one task alone takes values out of a cell, they are what its own events take out
pub values_out-of_task : (c k : ℕ) (es : List Event) → All (λ (e : Event). e.task ≢ k → e.cell ≡ c → taken_by e.op e.reply ≡ []) es → values_out c (of_task k es) ≡ values_out c es
values_out-of_task c k [] others = refl
values_out-of_task c k (e ∷ es) others =
    let P : Event → Type 0 = λ (x : Event). x.task ≢ k → x.cell ≡ c → taken_by x.op x.reply ≡ [] in
    let more = values_out-of_task c k es (All-tail P e es others) in
    let here : Bool → List ℤ = λ b. cond b (taken_by e.op e.reply) [] in
    dite (ℕ_discrete e.task k)
    (λ same. ap (λ (b : Bool). values_out c (cond b (e ∷ of_task k es) (of_task k es))) (eq-eqb e.task k same) ∙ ap (λ l. here (eqb e.cell c) ++ l) more)
    (λ other. ap (λ (b : Bool). values_out c (cond b (e ∷ of_task k es) (of_task k es))) (ne_eqb e.task k other)
    ∙ (more ∙ ap (λ l. l ++ values_out c es) (sym (takes_nothing (eqb e.cell c) refl other))))
  where
    takes_nothing : (b : Bool) → eqb e.cell c ≡ b → e.task ≢ k → cond b (taken_by e.op e.reply) [] ≡ []
    takes_nothing true at other = All-head (λ (x : Event). x.task ≢ k → x.cell ≡ c → taken_by x.op x.reply ≡ []) e es others other (eqb-true e.cell c at)
    takes_nothing false at other = refl
