use Rattle.std.proofs.Common.{◌≡◌, ◌≤◌, ◌-◌}
use Rattle.dpl_array.specs.Elements.{behind}
use Rattle.dpl_loop.specs.Runs.{AreDone}
use Rattle.dpl_elements.specs.Wholes.{whole_turn}
use Rattle.dpl_elements.proofs.whole.WholeTurnsTurns.make_row.Given as goal

-- the turns so far are done, and the row here is the rest of the whole one
abbrev pub invariant-loop-made : goal.invariant-loop-made
invariant-loop-made g l = record {
  within : l.made ≤ l.most;
  here : l.here ≡ record { first = behind l.made l.fn.row; step = l.fn.row.step };
  done : AreDone (whole_turn l.self l.fn.frame.limits) l.fn.row l.made l.fn.frame.memory l.frame.memory;
  limits : l.frame.limits ≡ l.fn.frame.limits;
}

abbrev pub decreases-loop-made : goal.decreases-loop-made
decreases-loop-made g l = l.most - l.made
