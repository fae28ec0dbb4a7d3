-- The indices that are gone over are looked at.
-- This is what the loop of `lend` keeps.
use Rattle.std.proofs.Common.{◌≡◌, ◌++◌, List, ℤ, length}
use Rattle.dpl_sets.specs.Indices.{indices}
use Rattle.dpl_halo.specs.Gathering.{IsGathered, every}
use Rattle.dpl_halo.proofs.loan.lend.Given as goal

abbrev pub invariant-loop-index : goal.invariant-loop-index
invariant-loop-index g l =
    (l.gathered.domain ≡ l.fn.gathered.domain)
    × ((gone : List (List ℤ)) × (indices l.domain ≡ gone ++ l.left)
    × ((seen : List (List ℤ)) → IsGathered l.array every seen l.fn.gathered → IsGathered l.array every (seen ++ gone) l.gathered))

abbrev pub decreases-loop-index : goal.decreases-loop-index
decreases-loop-index g l = length l.left
