-- Who answers an operation: in a task whoever has the reply, whatever cells there are; outside of tasks the cell itself.
use Rattle.std.proofs.Common.{◌≡◌, ℕ, List, [], ◌∷◌, length, Option, Some, None, refl, sym, ap, ◌∙◌}
use Rattle.dpl_history.specs.declared.cell.CellState.{CellState}
use Rattle.dpl_history.specs.declared.cell.CellOp.{CellOp}
use Rattle.dpl_history.specs.declared.cell.Reply.{Reply}
use Rattle.dpl_history.specs.Cells.{effect}
use Rattle.dpl_language.specs.Tree.{Placed}
use Rattle.dpl_language.specs.Values.{Value}
use Rattle.dpl_language.specs.Outcome.{Deeds, Waits, Run}
use Rattle.dpl_language.specs.Environment.{Limits, Replied, Unanswered}
use Rattle.dpl_language.specs.Assignments.{answered, called}
use Rattle.dpl_language.specs.Values.{cell_kind}
use Rattle.dpl_memory.specs.Memory.{Variable, Coming, Memory, with_cell, cell_at, called_by, effect_in, value_in, in_memory}
use Rattle.dpl_coming.specs.Taken.{with_coming, before, behind_replies}
use Rattle.dpl_coming.specs.Noting.{Note, noting}
use Rattle.dpl_coming.specs.Walks.{Outside, InTask, Known, IsComing, IsMade, IsOver}
use Rattle.dpl_coming.specs.Calls.{one_operation, Answers}

-- IN A TASK: the next reply is the one that was got, and the frame stays as it is
next-reply : (n slot : ℕ) (op : CellOp) (r : Reply) (rest : Coming) (s : Memory) (rs : List Reply) → rest.replies ≡ Some rs
    → called_by n slot op (with_coming (record { replies = behind_replies (r ∷ []) rest.replies; histories = rest.histories }) s) (behind_replies (r ∷ []) rest.replies) ≡ Replied n r (with_coming rest s)
next-reply n slot op r rest s rs is =
    ap (λ o. called_by n slot op (with_coming (record { replies = behind_replies (r ∷ []) rest.replies; histories = rest.histories }) s) (behind_replies (r ∷ []) o)) is
    ∙ ap (λ o. Replied n r (with_coming (record { replies = o; histories = rest.histories }) s)) (sym is)

pub answers-in-task : (old new : Known) (s : Memory) (x : Variable) (op : CellOp) (r : Reply) → IsMade InTask old (one_operation (length x.cells) op r) new → Answers InTask old new s s x op r
answers-in-task old new s x op r known = record { known = known; replied = λ rest is. next-reply (length x.cells) x.slot op r rest s is.0 is.1 }

-- where no reply is left it waits
pub stuck-in-task : (s : Memory) (x : Variable) (op : CellOp) (rest : Coming) → IsComing InTask rest → IsOver rest.replies → in_memory.call x op (with_coming rest s) ≡ Unanswered (length x.cells)
stuck-in-task s x op rest is over = by-replies rest.replies is.1 over
  where
    by-replies : (o : Option (List Reply)) → o ≡ Some is.0 → IsOver o → called_by (length x.cells) x.slot op (with_coming rest s) o ≡ Unanswered (length x.cells)
    by-replies None e over = absurd cc
    by-replies (Some []) e over = refl
    by-replies (Some (r ∷ rs)) e over = absurd over

-- OUTSIDE OF TASKS: the effect on the cell in the slot
pub answers-outside : (old new : Known) (s : Memory) (x : Variable) (op : CellOp) (r : Reply) (c : CellState) → IsMade Outside old (one_operation (length x.cells) op r) new → effect op (cell_at x.slot s) ≡ Some (c, r)
    → Answers Outside old new s (with_cell x.slot c s) x op r
answers-outside old new s x op r c known does = record {
  known = known;
  replied = λ rest is.
      ap (λ o. called_by (length x.cells) x.slot op (with_coming (before (one_operation (length x.cells) op r) rest) s) (behind_replies (r ∷ []) o)) is
      ∙ ap (effect_in (length x.cells) x.slot (with_coming (before (one_operation (length x.cells) op r) rest) s)) does
      ∙ ap (λ o. Replied (length x.cells) r (with_cell x.slot c (with_coming (record { replies = behind_replies (r ∷ []) o; histories = rest.histories }) s))) is
      ∙ ap (λ o. Replied (length x.cells) r (with_cell x.slot c (with_coming (record { replies = o; histories = rest.histories }) s))) (sym is);
}

-- and where it has none the run waits at the cell's name
pub waits-outside : (limits : Limits) (note : Note) (s : Memory) (p : Placed Variable) (op : CellOp) (go : Value → Run Memory) (rest : Coming) (done : Deeds) → IsComing Outside rest → effect op (cell_at p.name.slot s) ≡ None
    → called limits (noting note) p op go (with_coming rest s) done ≡ Waits p.at (length p.name.cells) op done
waits-outside limits note s p op go rest done is none =
    ap (λ o. answered limits (noting note) p op (cell_kind (value_in p.name.kind p.name.slot (with_coming rest s))) go (called_by (length p.name.cells) p.name.slot op (with_coming rest s) o) done) is
    ∙ ap (λ e. answered limits (noting note) p op (cell_kind (value_in p.name.kind p.name.slot (with_coming rest s))) go (effect_in (length p.name.cells) p.name.slot (with_coming rest s) e) done) none
