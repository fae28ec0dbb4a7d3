-- What lies in it stands for the same, and so it does.
use Rattle.std.proofs.Common.{sym, ap, ◌∙◌}
use Rattle.dpl_nodes.specs.Typed.{range_view}
use Rattle.dpl_typed.proofs.Standing.{if_ok}
use Rattle.dpl_typed.proofs.posts.RangeExprSpine.flat_within.Goals as goal

pub returns-in-Ok : goal.returns-in-Ok
returns-in-Ok c =
    if_ok c.node.result
    (λ r same m. ap range_view same ∙ rw (c.in-Ok.ensures m) (sym (ap range_view c.in-Dimension.is)))
    c.node.ensures
