-- The domains so far are read.
-- This is what the loop of `read_parts` keeps.
use Rattle.std.proofs.Common.{◌≡◌, ◌++◌, List, ℤ, take}
use Rattle.std.specs.List.{flat_map}
use Rattle.dpl_sets.specs.Indices.{indices}
use Rattle.dpl_halo.specs.Gathering.{IsGathered}
use Rattle.dpl_halo.specs.Halos.{is_foreign}
use Rattle.dpl_halo.specs.Shifts.{reads}
use Rattle.dpl_halo.proofs.halo.read_parts.Given as goal

abbrev pub invariant-loop-turns : goal.invariant-loop-turns
invariant-loop-turns g l =
    (l.gathered.domain ≡ l.fn.gathered.domain)
    × ((seen : List (List ℤ)) → IsGathered l.array (is_foreign l.array.map l.locale) seen l.fn.gathered → IsGathered l.array (is_foreign l.array.map l.locale) (seen ++ flat_map (λ d. reads l.shifts (indices d)) (take l.turns-index l.parts)) l.gathered)
