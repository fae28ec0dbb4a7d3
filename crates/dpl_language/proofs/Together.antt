-- Tasks of sample programs ran together with the histories that they took; and what a program leaves.
-- The meaning runs each task by itself; these are runs of them all.
use Rattle.std.proofs.Common.{◌≡◌, pos, List, [], ◌∷◌, refl, arith, inl}
use Rattle.std.specs.Prelude.{codes, Some}
use Rattle.std.specs.Int.{int_wrap}
use Rattle.std.specs.Fmt.{digits}
use Rattle.dpl_sets.specs.Members.{members}
use Rattle.dpl_sets.specs.Indices.{indices}
use Rattle.dpl_history.specs.declared.cell.CellState.TheVariants.{Empty}
use Rattle.dpl_history.specs.declared.cell.CellOp.TheVariants.{WriteEF}
use Rattle.dpl_history.specs.declared.cell.Reply.TheVariants.{Done}
use Rattle.dpl_history.specs.Histories.{Legal, event}
use Rattle.dpl_language.specs.Tree.{IntKind}
use Rattle.dpl_language.specs.Outcome.{Entered}
use Rattle.dpl_language.specs.Environment.{CellOf}
use Rattle.dpl_language.specs.Program.{meaning, deeds_of, left}
use Rattle.dpl_language.specs.Together.{AllHaveRun, AllTogether}
use Rattle.dpl_language.proofs.Says.{limits, one_history}
use Rattle.dpl_language.proofs.TasksSamples.{three_values_sent, task_that_waits, hidden_cell}

-- the first coforall that was entered
abbrev first_entered : List Entered → Entered
first_entered [] = record { cells = []; tasks = []; history = [] }
first_entered (e ∷ es) = e

-- the coforall of three_values_sent, in which task 0 sends task 1 three values
abbrev sent : Entered
sent = first_entered (deeds_of (meaning three_values_sent [] (limits 16777216 1) (one_history ∷ []))).entered

-- the events of each task are the operations of its run by itself
sent_by_its_tasks : AllHaveRun sent.cells sent.history 0 sent.tasks
unfolding int_wrap digits members indices
sent_by_its_tasks = (record { operations = refl; end = tt }, (record { operations = refl; end = tt }, tt))

-- and they happen one after another
sent_in_order : Legal sent.cells sent.history
unfolding int_wrap digits members indices
sent_in_order = (
  (omega arith, (_, refl)),
  (
    (omega arith, (_, refl)),
    (
      (omega arith, (_, refl)),
      (
        (omega arith, (_, refl)),
        ((omega arith, (_, refl)), ((omega arith, (_, refl)), ((omega arith, (_, refl)), tt))),
      ),
    ),
  ),
)

-- a task that waits: it found its cell empty, and the history has no event
stuck : List Entered
stuck = (deeds_of (meaning task_that_waits [] (limits 1 1) ([] ∷ []))).entered

stuck_together : AllTogether stuck
unfolding stuck int_wrap digits members indices
stuck_together = (
  record {
    is_legal = (tt, refl);
    of_its_tasks = λ i x b. absurd (omega (arith, b));
    each = (
      record {
        operations = refl;
        end = record { place = 0; word = 0; after_its_last = refl; agrees = (omega arith, inl refl); unfit = λ e. absurd (omega (arith, e)) };
      },
      tt,
    );
  },
  tt,
)

-- what three_values_sent leaves: both cells empty again, and no name of a task
three_values_sent_leaves :
    left (meaning three_values_sent [] (limits 16777216 1) (one_history ∷ []))
    ≡ Some (record { name = codes "c"; content = CellOf IntKind Empty } ∷ record { name = codes "t"; content = CellOf IntKind Empty } ∷ [])
unfolding int_wrap digits members indices
three_values_sent_leaves = refl

-- the inner cell has the number 1, behind the outer one that it hides
abbrev hidden : Entered
hidden = first_entered
    (deeds_of (meaning hidden_cell [] (limits 16777216 1) ((event 0 1 (WriteEF (pos 5)) Done ∷ []) ∷ []))).entered

hidden_by_its_task : AllHaveRun hidden.cells hidden.history 0 hidden.tasks
unfolding int_wrap digits members indices
hidden_by_its_task = (record { operations = refl; end = tt }, tt)
