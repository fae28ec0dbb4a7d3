use Rattle.std.proofs.Common.{◌∙◌, arith}
use Rattle.std.proofs.lemmas.Grind.{common_steps}
use Rattle.dpl_tree.specs.View.{expr_view}
use Rattle.dpl_expressions.proofs.Lists.{chain_nodes}
use Rattle.dpl_expressions.proofs.chain.chained.Goals as goal

pub returns-clause-made : goal.returns-clause-made
returns-clause-made c = c.in_ok-chain.ensures ∙ chain_nodes (expr_view c.args.first.now) c.args.links.now (λ e. grind (arith, common_steps))
