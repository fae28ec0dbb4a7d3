-- The number of the indices is the language's size.
use Rattle.std.proofs.Common.{sym, ◌∙◌, arith}
use Rattle.dpl_contents.proofs.Sizes.{size_in-text_ranges}
use Rattle.dpl_contents.proofs.domain.DomainWord.size.Goals as goal

pub returns-clause-size : goal.returns-clause-size
returns-clause-size c =
    c.size.ensures.size ∙ sym (size_in-text_ranges c.self.inside.domain c.self.inside.outer c.self.inside.middle c.self.inside.inner c.args.self.now c.self.invariant c.self.view_is)

pub returns-clause-small : goal.returns-clause-small
returns-clause-small c =
    omega (arith, c.size.ensures.small, size_in-text_ranges c.self.inside.domain c.self.inside.outer c.self.inside.middle c.self.inside.inner c.args.self.now c.self.invariant c.self.view_is)
