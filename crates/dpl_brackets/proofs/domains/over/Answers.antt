-- One domain, of whose ranges another one is created.
use Rattle.std.proofs.Common.{◌≡◌, Some, ap, subst, ◌∙◌}
use Rattle.dpl_language.specs.Tree.{DomainLiteral, One}
use Rattle.dpl_lowered.specs.Shapes.{nowhere}
use Rattle.dpl_nodes.specs.Typed.{items_one, domain_view}
use Rattle.dpl_typed.specs.declared.typed.Typed.TheVariants as typed
use Rattle.dpl_typed.specs.Stands.{AreItems}
use Rattle.dpl_typed.proofs.Standing.{if_ok, stands-same}
use Rattle.dpl_brackets.proofs.Parts.{list-one, domain-item}
use Rattle.dpl_brackets.proofs.domains.over.Goals as goal

pub returns-in-Domain-clause-node : goal.returns-in-Domain-clause-node
returns-in-Domain-clause-node c =
    let from = c.args.from in
    let a = c.part-item.result in
    let d = c.in-Domain in
    let one = list-one c.args.parts.now a c.in-len1.len_at_least c.in-len1.len_below c.part-item.is in
    let found : a.found ≡ Some (typed.Domain d.rank d.strided d.node) = c.in-Some.is ∙ ap Some d.is in
    if_ok c.created.result
    (λ r h. λ items seen near.
    let item = domain-item a d.rank d.strided d.node found items (subst (λ ps. AreItems ps items) one seen) in
    stands-same r (λ m. DomainLiteral from (items_one (One (domain_view d.node.now))) nowhere) (λ m. DomainLiteral from items nowhere)
    (λ m. ap (λ x. DomainLiteral from x nowhere) item.1) (h item.0 near))
    c.created.ensures.node
