-- The turns that are gone over are looked at.
-- This is what the loop of `read_each` keeps.
use Rattle.std.proofs.Common.{◌≡◌, ◌++◌, List, ℤ, map, length}
use Rattle.dpl_sets.specs.Indices.{indices}
use Rattle.dpl_halo.specs.Gathering.{IsGathered}
use Rattle.dpl_halo.specs.Halos.{is_foreign}
use Rattle.dpl_halo.specs.Shifts.{shifted}
use Rattle.dpl_halo.proofs.halo.read_each.Given as goal

abbrev pub invariant-loop-turn : goal.invariant-loop-turn
invariant-loop-turn g l =
    (l.gathered.domain ≡ l.fn.gathered.domain)
    × ((gone : List (List ℤ)) × (indices l.turns ≡ gone ++ l.left)
    × ((seen : List (List ℤ)) → IsGathered l.array (is_foreign l.array.map l.locale) seen l.fn.gathered → IsGathered l.array (is_foreign l.array.map l.locale) (seen ++ map (shifted l.shift) gone) l.gathered))

abbrev pub decreases-loop-turn : goal.decreases-loop-turn
decreases-loop-turn g l = length l.left
