-- Slices have no more members than what they are slices of, so their product is small enough.
use Rattle.std.proofs.Common.{length, arith, subst}
use Rattle.dpl_sets.specs.Indices.{IsSmall}
use Rattle.dpl_domain.specs.Ranks.{last_of}
use Rattle.dpl_domain.proofs.PlaceLemmas.{fewer-one, fewer-two, fewer-three}
use Rattle.dpl_domain.proofs.product.Domain.slice.Goals as goal
use Rattle.dpl_domain.proofs.product.Domain.slice.Goals.{After-ranges-outer}

small : (c : After-ranges-outer) → IsSmall (last_of (length c.args.self.now) c.ranges-outer.result.0 c.ranges-outer.result.1 c.ranges-outer.result.2)
small c = subst IsSmall c.ranges-outer.ensures.ranges c.ranges-outer.ensures.small

pub last_of-requires-clause-small : goal.last_of-requires-clause-small
last_of-requires-clause-small c =
    fewer-one (length c.args.self.now) c.ranges-outer.result.0 c.ranges-outer.result.1 c.ranges-outer.result.2 c.slice_of.result (omega arith) c.ranges-outer.ensures.unused
    (small (goal.at.last_of-requires-clause-small c).After-ranges-outer) c.slice_of.ensures.fewer

pub last_of-requires-in-len2-clause-small : goal.last_of-requires-in-len2-clause-small
last_of-requires-in-len2-clause-small c =
    fewer-two (length c.args.self.now) c.ranges-outer.result.0 c.ranges-outer.result.1 c.ranges-outer.result.2 c.slice_of-in-len2.result c.slice_of-in-len2-2.result (omega arith) c.ranges-outer.ensures.unused
    (small (goal.at.last_of-requires-in-len2-clause-small c).After-ranges-outer) c.slice_of-in-len2.ensures.fewer c.slice_of-in-len2-2.ensures.fewer

pub last_of-requires-in-len3-clause-small : goal.last_of-requires-in-len3-clause-small
last_of-requires-in-len3-clause-small c =
    fewer-three (length c.args.self.now) c.ranges-outer.result.0 c.ranges-outer.result.1 c.ranges-outer.result.2 c.slice_of-in-len3.result c.slice_of-in-len3-2.result c.slice_of-in-len3-3.result (omega arith) c.ranges-outer.ensures.unused
    (small (goal.at.last_of-requires-in-len3-clause-small c).After-ranges-outer) c.slice_of-in-len3.ensures.fewer c.slice_of-in-len3-2.ensures.fewer c.slice_of-in-len3-3.ensures.fewer
