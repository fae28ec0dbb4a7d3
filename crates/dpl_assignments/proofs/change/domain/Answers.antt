-- A domain is assigned a domain by `=`.
use Rattle.dpl_assignments.proofs.Domains.{domain-given}
use Rattle.dpl_assignments.proofs.change.domain.Goals as goal

pub returns-in-Set : goal.returns-in-Set
returns-in-Set c =
    let d = c.in-Domain in
    domain-given c.args.scopes.now c.args.at c.args.slot c.args.sign.op c.args.sign.at c.args.value d.rank d.strided d.node c.set_domain.result d.is c.in-Set.is c.set_domain.ensures
