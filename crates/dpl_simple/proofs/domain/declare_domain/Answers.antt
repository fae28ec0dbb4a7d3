-- A domain without an initial value, by its rank.
use Rattle.std.proofs.Common.{ap, ◌∙◌}
use Rattle.dpl_language.specs.Statements.{exec}
use Rattle.dpl_memory.specs.Memory.{in_memory}
use Rattle.dpl_nodes.specs.Steps.{domain_declared}
use Rattle.dpl_simple.proofs.domain.declare_domain.Goals as goal

pub returns-in_ok-declare_empty-in-Empty-clause-ends : goal.returns-in_ok-declare_empty-in-Empty-clause-ends
returns-in_ok-declare_empty-in-Empty-clause-ends g c done =
    ap (λ b. exec c.args.frame.now.limits in_memory (domain_declared c.args.slot b c.args.placing.now) c.args.frame.now.memory done) c.in-Empty.is
    ∙ c.in_ok-declare_empty-in-Empty.ensures.ends done
