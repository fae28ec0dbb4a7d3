use Rattle.std.proofs.Common.{ap}
use Rattle.dpl_language.specs.Tree.{Postfixed}
use Rattle.dpl_tree.specs.View.{expr_view}
use Rattle.dpl_tree.proofs.Rows.{posts_view-row}
use Rattle.dpl_tree.proofs.expression.Expr.postfixed.Goals as goal

pub returns : goal.returns
returns c = rw (c.in_ok-node.ensures, c.in_ok-postfixed.ensures) (ap (Postfixed (expr_view c.args.base.now)) (posts_view-row c.args.posts.now))
