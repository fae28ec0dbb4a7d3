-- A domain has at most 2^40 indices.
use Rattle.std.proofs.Common.{arith}
use Rattle.dpl_contents.proofs.Sizes.{size_in-text_ranges}
use Rattle.dpl_contents.proofs.domain.DomainWord.parts.Goals as goal

pub returns-in-1-clause-small : goal.returns-in-1-clause-small
returns-in-1-clause-small c =
    omega (arith, c.ranges-outer.ensures.small, size_in-text_ranges c.self.inside.domain c.self.inside.outer c.self.inside.middle c.self.inside.inner c.args.self.now c.self.invariant c.self.view_is)

pub returns-in-2-clause-small : goal.returns-in-2-clause-small
returns-in-2-clause-small c =
    omega (arith, c.ranges-outer.ensures.small, size_in-text_ranges c.self.inside.domain c.self.inside.outer c.self.inside.middle c.self.inside.inner c.args.self.now c.self.invariant c.self.view_is)

pub returns-in_default-clause-small : goal.returns-in_default-clause-small
returns-in_default-clause-small c =
    omega (arith, c.ranges-outer.ensures.small, size_in-text_ranges c.self.inside.domain c.self.inside.outer c.self.inside.middle c.self.inside.inner c.args.self.now c.self.invariant c.self.view_is)
