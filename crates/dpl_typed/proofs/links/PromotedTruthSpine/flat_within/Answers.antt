-- What lies in it stands for the same, and so it does.
use Rattle.std.proofs.Common.{sym, ap, ◌∙◌}
use Rattle.dpl_nodes.specs.Typed.{promoted_truth}
use Rattle.dpl_typed.proofs.Standing.{if_ok}
use Rattle.dpl_typed.proofs.links.PromotedTruthSpine.flat_within.Goals as goal

pub returns-in-Ok : goal.returns-in-Ok
returns-in-Ok c =
    if_ok c.node.result
    (λ r same m. ap (promoted_truth m) same ∙ rw (c.in-Ok.ensures m) (sym (ap (promoted_truth m) c.in-Scalar.is)))
    c.node.ensures
