-- Where there is no element, nothing changes.
-- These are the answers to the goals of `Loan::set`.
use Rattle.std.proofs.Common.{sym, ap, ◌∙◌}
use Rattle.dpl_array.specs.Elements.{value_at}
use Rattle.dpl_array.proofs.ElementLemmas.{with_value-absent}
use Rattle.dpl_array.proofs.UnionLemmas.{absent}
use Rattle.dpl_halo.proofs.loan.Loan.set.Goals as goal

pub returns-clause-unchanged : goal.returns-clause-unchanged
returns-clause-unchanged g c = λ refused.
    let g0 = c.self.inside.gathered in
    let none = absent (value_at c.args.index g0.elements) (sym c.set.ensures.there ∙ refused) in
    ap (λ q. record { domain = q.domain; elements = q.elements }) (c.set.ensures.changes ∙ ap (λ es. record g0 { elements = es }) (with_value-absent c.args.index c.args.value g0.elements none)) ∙ c.self.view_is
