-- The domains so far are lent.
-- This is what the loop of `Loan::collect` keeps.
use Rattle.std.proofs.Common.{◌≡◌, take}
use Rattle.std.specs.List.{flat_map}
use Rattle.dpl_sets.specs.Indices.{indices}
use Rattle.dpl_halo.specs.Gathering.{IsGathered, every}
use Rattle.dpl_halo.proofs.loan.Loan.collect.Given as goal

abbrev pub invariant-loop-domain : goal.invariant-loop-domain
invariant-loop-domain g l =
    (l.gathered.domain ≡ l.array.domain)
    × IsGathered l.array every (flat_map indices (take l.domain-index l.domains)) l.gathered
