-- A script that is played is its run by itself, given the replies that it got.
-- Whatever replies come behind those, the run begins with what was done so far and goes on with the deeds that are left.
use Rattle.std.proofs.Common.{◌≡◌, ℕ, suc, ◌+◌, ℤ, pos, List, [], ◌∷◌, ◌++◌, map, Result, Ok, Err, refl, sym, ap, ◌∙◌, subst, arith, append_assoc, append-nil}
use Rattle.std.proofs.lemmas.List.{map-append}
use Rattle.dpl_syntax.specs.declared.place.Place.{Place}
use Rattle.dpl_history.specs.declared.cell.CellOp.{CellOp}
use Rattle.dpl_history.specs.declared.cell.Reply.{Reply}
use Rattle.dpl_history.specs.declared.history.Event.{Event}
use Rattle.dpl_history.specs.Histories.{event, of_task}
use Rattle.dpl_language.specs.Values.{Fault}
use Rattle.dpl_language.specs.Outcome.{Operation, Solo, TaskEnd, Faulted, Waiting}
use Rattle.dpl_language.specs.Together.{operation_of}
use Rattle.dpl_cell.specs.Seats.{BoardValue, SeatValue, Has, fresh_seat}
use Rattle.dpl_cell.specs.Calls.{KeepsNumbers, DidAfter, Waited}
use Rattle.dpl_cell.proofs.Numbers.{Has-head}
use Rattle.dpl_cell.proofs.Telling.{DidAfter-mine}
use Rattle.dpl_task_tests.specs.declared.scripts.Deed.{Deed}
use Rattle.dpl_task.specs.Together.{AllFrom}
use Rattle.dpl_task_tests.specs.Scripts.{called, read_by, deed_run, run_of, script_of}

-- some operations, and then a run
abbrev pub behind : List Operation → Solo → Solo
behind os t = record { operations = os ++ t.operations; end = t.end }

abbrev pub replied : List Event → List Reply
replied es = map {A = Event} {B = Reply} (λ e. e.reply) es

abbrev pub operated : List Event → List Operation
operated es = map {A = Event} {B = Operation} operation_of es

-- after these events the script goes on with the deeds that are left, where this value was read last
abbrev pub GoesOn : ℕ → List Deed → List Event → List Deed → ℤ → Type 0
GoesOn cells script es left v = (rest : List Reply) → run_of cells script (pos 0) (replied es ++ rest) ≡ behind (operated es) (run_of cells left v rest)

pub goes_on-start : (cells : ℕ) (script : List Deed) → GoesOn cells script [] script (pos 0)
goes_on-start cells script rest = refl

-- one deed more
pub goes_on-more : (cells : ℕ) (script : List Deed) (es : List Event) (d : Deed) (left : List Deed) (v : ℤ) (k : ℕ) (at : Place) (c : ℕ) (op : CellOp) (r : Reply) → called cells d v ≡ Ok (at, c, op)
    → GoesOn cells script es (d ∷ left) v → GoesOn cells script (es ++ event k c op r ∷ []) left (read_by v r)
goes_on-more cells script es d left v k at c op r does goes rest =
    let e : Event = event k c op r in
    let t : Solo = run_of cells left (read_by v r) rest in
    ap (λ rs. run_of cells script (pos 0) (rs ++ rest)) (map-append (λ (x : Event). x.reply) es (e ∷ []))
    ∙ ap (run_of cells script (pos 0)) (append_assoc (replied es) (r ∷ []) rest)
    ∙ goes (r ∷ rest)
    ∙ ap (λ x. behind (operated es) (deed_run x v (r ∷ rest) (run_of cells left))) does
    ∙ ap (λ os. record { operations = os; end = t.end }) (sym (append_assoc (operated es) (operation_of e ∷ []) t.operations))
    ∙ ap (λ os. record { operations = os ++ t.operations; end = t.end }) (sym (map-append operation_of es (e ∷ [])))

-- the run's end, where the deeds that are left end so without a reply
pub goes_on-end : (cells : ℕ) (script : List Deed) (es : List Event) (left : List Deed) (v : ℤ) (end : TaskEnd) → run_of cells left v [] ≡ record { operations = []; end = end }
    → GoesOn cells script es left v → run_of cells script (pos 0) (replied es) ≡ record { operations = operated es; end = end }
goes_on-end cells script es left v end ends goes =
    ap (run_of cells script (pos 0)) (sym (append-nil (replied es))) ∙ goes [] ∙ ap (behind (operated es)) ends
    ∙ ap (λ os. record { operations = os; end = end }) (append-nil (operated es))

-- what a deed calls, over so many cells
pub called-over : (n cells : ℕ) (d : Deed) (v : ℤ) (r : Result (Place × ℕ × CellOp) Fault) → n ≡ cells → called n d v ≡ r → called cells d v ≡ r
called-over n cells d v r same is = ap (λ (m : ℕ). called m d v) (sym same) ∙ is

-- a deed that is a fault
pub ends-faulted : (cells : ℕ) (script : List Deed) (es : List Event) (d : Deed) (left : List Deed) (v : ℤ) (f : Fault) → called cells d v ≡ Err f
    → GoesOn cells script es (d ∷ left) v → run_of cells script (pos 0) (replied es) ≡ record { operations = operated es; end = Faulted f }
ends-faulted cells script es d left v f does = goes_on-end cells script es (d ∷ left) v (Faulted f) (ap (λ x. deed_run x v [] (run_of cells left)) does)

-- a deed whose operation gets no reply
pub ends-waiting : (cells : ℕ) (script : List Deed) (es : List Event) (d : Deed) (left : List Deed) (v : ℤ) (at : Place) (c : ℕ) (op : CellOp) → called cells d v ≡ Ok (at, c, op)
    → GoesOn cells script es (d ∷ left) v → run_of cells script (pos 0) (replied es) ≡ record { operations = operated es; end = Waiting at c op }
ends-waiting cells script es d left v at c op does = goes_on-end cells script es (d ∷ left) v (Waiting at c op) (ap (λ x. deed_run x v [] (run_of cells left)) does)

-- Of a seat that acts for itself alone

pub acts-alone : (b : BoardValue) (v w : SeatValue) → v ≡ fresh_seat b v.number → KeepsNumbers v w → Has w.number w.numbers
acts-alone b v w fresh keeps =
    subst (λ (t : ℕ × List ℕ). Has t.0 t.1) (λ i. (sym keeps.0 i, (sym (ap (λ (s : SeatValue). s.numbers) fresh) ∙ sym keeps.1) i)) (Has-head v.number [])

-- its number's events after an operation
pub did-one : (n : ℕ) (b : BoardValue) (v u w : SeatValue) (c : ℕ) (op : CellOp) (r : Reply) → v ≡ fresh_seat b v.number → KeepsNumbers v u → DidAfter n u c op r w
    → of_task v.number w.history ≡ of_task v.number u.history ++ event v.number c op r ∷ []
did-one n b v u w c op r fresh keeps did =
    subst (λ (k : ℕ). of_task k w.history ≡ of_task k u.history ++ event k c op r ∷ []) keeps.0 (DidAfter-mine n u w c op r (acts-alone b v u fresh keeps) did)

-- and after it has waited
pub did-none : (n : ℕ) (b : BoardValue) (v u w : SeatValue) (c : ℕ) (op : CellOp) → v ≡ fresh_seat b v.number → KeepsNumbers v u → Waited n u c op w
    → of_task v.number w.history ≡ of_task v.number u.history
did-none n b v u w c op fresh keeps waited =
    subst (λ (k : ℕ). of_task k w.history ≡ of_task k u.history) keeps.0 (waited.quiet u.number (acts-alone b v u fresh keeps))

-- where each task has its script as its frame, that is the script of its number
scripts-from : (P : Type 0) → P → (ys : List (List Deed)) (j : ℕ) (xs : List (List Deed)) → ((i : ℕ) → script_of xs i ≡ script_of ys (j + i)) → AllFrom (λ k x. P × (x ≡ script_of ys k)) j xs
scripts-from P p ys j [] same = tt
scripts-from P p ys j (x ∷ xs) same =
    let here : j + 0 ≡ j = omega arith in
    ((p, same 0 ∙ ap (script_of ys) here), scripts-from P p ys (j + 1) xs (λ i. let next : j + suc i ≡ (j + 1) + i = omega arith in same (suc i) ∙ ap (script_of ys) next))

pub each-its-own : (P : Type 0) → P → (ys : List (List Deed)) → AllFrom (λ k x. P × (x ≡ script_of ys k)) 0 ys
each-its-own P p ys = scripts-from P p ys 0 ys (λ i. let first : i ≡ 0 + i = omega arith in ap (script_of ys) first)
