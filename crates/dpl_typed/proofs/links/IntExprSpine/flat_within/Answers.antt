-- What lies in it stands for the same, and so it does.
use Rattle.std.proofs.Common.{sym, ap, ◌∙◌}
use Rattle.dpl_nodes.specs.Typed.{int_view}
use Rattle.dpl_typed.proofs.Standing.{if_ok}
use Rattle.dpl_typed.proofs.links.IntExprSpine.flat_within.Goals as goal

pub returns-in-Ok : goal.returns-in-Ok
returns-in-Ok c =
    if_ok c.node.result
    (λ r same m. ap int_view same ∙ rw (c.in-Ok.ensures m) (sym (ap int_view c.in-OfRange.is)))
    c.node.ensures

pub returns-in-Ok-flat_node : goal.returns-in-Ok-flat_node
returns-in-Ok-flat_node c =
    if_ok c.node-in-OfDomain.result
    (λ r same m. ap int_view same ∙ rw (c.in-Ok-flat_node.ensures m) (sym (ap int_view c.in-OfDomain.is)))
    c.node-in-OfDomain.ensures
