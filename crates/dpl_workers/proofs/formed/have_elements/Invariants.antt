-- All arrays have elements, if those have that are left.
use Rattle.std.proofs.Common.{drop}
use Rattle.std.specs.List.{AllByRecursion}
use Rattle.dpl_workers.specs.Formed.{HasPiece}
use Rattle.dpl_workers.proofs.formed.have_elements.Given as goal

abbrev pub invariant-loop-slot : goal.invariant-loop-slot
invariant-loop-slot l = AllByRecursion (HasPiece l.frame.memory) (drop l.slot-index l.slots) → AllByRecursion (HasPiece l.frame.memory) l.slots
