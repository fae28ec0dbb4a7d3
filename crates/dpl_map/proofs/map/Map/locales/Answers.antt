-- Every tuple is owned by a locale.
use Rattle.std.proofs.Common.{length, refl}
use Rattle.dpl_map.specs.Maps.{owner}
use Rattle.dpl_map.proofs.LawLemmas.{owner-below, parts-apart, parts-together}
use Rattle.dpl_map.proofs.OwnerLemmas.{locales-padded}
use Rattle.dpl_map.proofs.FewLemmas.{All-axes}
use Rattle.dpl_map.proofs.map.Map.locales.Goals as goal

pub returns-clause-locales : goal.returns-clause-locales
returns-clause-locales c =
    rw (c.axes-outer.ensures.axes, c.extent.ensures.extent, c.extent-2.ensures.extent, c.extent-3.ensures.extent, locales-padded (length c.args.self.now) c.axes-outer.result.0 c.axes-outer.result.1 c.axes-outer.result.2 c.axes-outer.ensures.limits)
    refl

pub returns-clause-owners : goal.returns-clause-owners
returns-clause-owners c =
    rw (c.axes-outer.ensures.axes, c.extent.ensures.extent, c.extent-2.ensures.extent, c.extent-3.ensures.extent)
    (λ t. owner-below c.axes-outer.result.0 c.axes-outer.result.1 c.axes-outer.result.2 (length c.args.self.now) t c.axes-outer.ensures.limits)

pub returns-clause-apart : goal.returns-clause-apart
returns-clause-apart c = λ ranges t j k. parts-apart ranges c.args.self.now t j k

pub returns-clause-together : goal.returns-clause-together
returns-clause-together c =
    let below = returns-clause-owners c in
    λ ranges t member. (owner c.args.self.now t, below t, parts-together ranges c.args.self.now t member)

pub returns-clause-limits : goal.returns-clause-limits
returns-clause-limits c =
    rw c.axes-outer.ensures.axes (All-axes (length c.args.self.now) c.axes-outer.result.0 c.axes-outer.result.1 c.axes-outer.result.2 c.axes-outer.ensures.limits)
