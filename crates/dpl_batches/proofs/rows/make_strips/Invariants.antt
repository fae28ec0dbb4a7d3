use Rattle.std.proofs.Common.{◌≡◌, ◌≤◌, ◌-◌, length}
use Rattle.dpl_array.specs.Elements.{behind}
use Rattle.dpl_standing.specs.Standing.{Standing}
use Rattle.dpl_loop.specs.Runs.{AreDone}
use Rattle.dpl_readings.specs.Readings.{steps_in}
use Rattle.dpl_elements.specs.Turns.{index_turn}
use Rattle.dpl_batches.proofs.rows.make_strips.Given as goal

-- the turns so far are done, and the row here is the rest of the whole one
abbrev pub invariant-loop-all : goal.invariant-loop-all
invariant-loop-all g l = record {
  within : l.all ≤ l.most;
  few : length l.stores ≤ 4;
  here : l.here ≡ record { first = behind l.all l.fn.row; step = l.fn.row.step };
  done : (w : Standing) → AreDone (index_turn l.fn.frame.limits l.names (steps_in w l.body)) l.fn.row l.all l.fn.frame.memory l.frame.memory;
  limits : l.frame.limits ≡ l.fn.frame.limits;
}

abbrev pub decreases-loop-all : goal.decreases-loop-all
decreases-loop-all g l = l.most - l.all
