use Rattle.std.proofs.Common.{◌∙◌, arith}
use Rattle.std.proofs.lemmas.Grind.{common_steps}
use Rattle.dpl_tree.specs.View.{expr_view}
use Rattle.dpl_expressions.proofs.Lists.{postfixed_nodes}
use Rattle.dpl_expressions.proofs.postfix.postfixed.Goals as goal

pub returns-clause-made : goal.returns-clause-made
returns-clause-made c = c.in_ok-postfixed.ensures ∙ postfixed_nodes (expr_view c.args.base.now) c.args.posts.now (λ e. grind (arith, common_steps))
