-- What breaks no rule is an int.
use Rattle.std.proofs.Common.{ap}
use Rattle.dpl_tree.specs.View.{expr_view}
use Rattle.dpl_typed.proofs.Standing.{if_both}
use Rattle.dpl_mapped.proofs.Unbroken.{plain-made}
use Rattle.dpl_mapped.proofs.start.plain_start.Goals as goal

pub returns-clause-node : goal.returns-clause-node
returns-clause-node c =
    let ss = c.args.scopes.now in
    let e = expr_view c.args.e.now in
    let part = c.in-Ok.part in
    if_both c.int_start.result
    (λ r told made. λ none simple near.
    plain-made ss c.args.rank c.args.word part.at e part.found r c.args.first.now c.part.new.first c.int_start.new.first (ap (λ p. p.type) c.in-Ok.ensures.told.0) c.in-Ok.ensures.told.1 told none simple
    (c.in-Ok.ensures.node simple near) made)
    c.int_start.ensures.told c.int_start.ensures.node
