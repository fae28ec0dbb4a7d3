-- Of the indices that are left the array still has the given value.
-- This is what the loop of `DArray::copied` keeps.
use Rattle.std.proofs.Common.{◌≡◌, length}
use Rattle.dpl_sets.specs.Indices.{indices}
use Rattle.dpl_array.proofs.WalkLemmas.{AreTaken}
use Rattle.dpl_array.proofs.array.DArray.copied.Given as goal

abbrev pub invariant-loop-index : goal.invariant-loop-index
invariant-loop-index g l =
    (l.array.domain ≡ l.fn.domain)
    × (l.array.map ≡ l.fn.self.map)
    × AreTaken (indices l.fn.domain) l.fn.self.elements l.array.elements l.fn.value l.indices

abbrev pub decreases-loop-index : goal.decreases-loop-index
decreases-loop-index g l = length l.indices
