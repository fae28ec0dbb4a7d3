-- What is left to look through, from here, is all.
use Rattle.std.proofs.Common.{◌≡◌, drop, map}
use Rattle.dpl_frame.specs.Frames.{held_in}
use Rattle.dpl_outcome.specs.Leaving.{in_frame, entry_kept}
use Rattle.dpl_outcome.proofs.left.find_in.Given as goal

abbrev pub invariant-loop-variable : goal.invariant-loop-variable
invariant-loop-variable l =
    in_frame l.name (map (entry_kept (map held_in l.arrays)) (drop l.variable-index l.variables)) ≡ in_frame l.name (map (entry_kept (map held_in l.arrays)) l.variables)
