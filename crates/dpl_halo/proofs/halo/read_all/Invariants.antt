-- The shifts so far are read.
-- This is what the loop of `read_all` keeps.
use Rattle.std.proofs.Common.{◌≡◌, ◌++◌, List, ℤ, take}
use Rattle.dpl_sets.specs.Indices.{indices}
use Rattle.dpl_halo.specs.Gathering.{IsGathered}
use Rattle.dpl_halo.specs.Halos.{is_foreign}
use Rattle.dpl_halo.specs.Shifts.{reads}
use Rattle.dpl_halo.proofs.halo.read_all.Given as goal

abbrev pub invariant-loop-shift : goal.invariant-loop-shift
invariant-loop-shift g l =
    (l.gathered.domain ≡ l.fn.gathered.domain)
    × ((seen : List (List ℤ)) → IsGathered l.array (is_foreign l.array.map l.locale) seen l.fn.gathered → IsGathered l.array (is_foreign l.array.map l.locale) (seen ++ reads (take l.shift-index l.shifts) (indices l.turns)) l.gathered)
