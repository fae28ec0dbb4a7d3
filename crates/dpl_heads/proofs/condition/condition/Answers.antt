-- A condition that breaks no rule is a truth value.
use Rattle.dpl_tree.specs.View.{expr_view}
use Rattle.dpl_heads.proofs.Conditions.{condition-made}
use Rattle.dpl_heads.proofs.condition.condition.Goals as goal

pub returns-clause-node : goal.returns-clause-node
returns-clause-node c =
    condition-made c.args.scopes.now (expr_view c.args.e.now) c.in-Ok.found c.truth_of.result c.args.first.now c.wanted_expr.new.first c.in-Ok.ensures.told c.in-Ok.ensures.node c.truth_of.ensures
