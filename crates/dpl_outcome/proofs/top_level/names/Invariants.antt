-- The variables so far, and those that the marks left declare, are all.
use Rattle.std.proofs.Common.{◌≡◌, ◌++◌, map, drop}
use Rattle.dpl_outcome.specs.Leaving.{entry_kept, held_frame}
use Rattle.dpl_outcome.specs.Names.{marked_names}
use Rattle.dpl_outcome.proofs.top_level.names.Given as goal

abbrev pub invariant-loop-mark : goal.invariant-loop-mark
invariant-loop-mark l =
    map (entry_kept l.frame.memory.arrays) l.variables.items ++ held_frame l.scopes l.frame.memory (marked_names (drop l.mark-index l.marks)) ≡ held_frame l.scopes l.frame.memory (marked_names l.marks)
