use Rattle.std.proofs.Common.{ap, ◌∙◌}
use Rattle.dpl_language.specs.Tree.{Chain}
use Rattle.dpl_tree.specs.View.{expr_view, chain_view}
use Rattle.dpl_tree.specs.declared.expression.Chain.{rolls-Chain'}
use Rattle.dpl_tree.proofs.Rows.{links_view-row}
use Rattle.dpl_tree.proofs.expression.Expr.chain.Goals as goal

pub returns : goal.returns
returns c =
    ap expr_view c.in_ok-node.ensures
    ∙ ap chain_view (c.in_ok-chain.ensures ∙ rolls-Chain' (record { first = c.args.first; links = c.args.links }))
    ∙ ap (Chain (expr_view c.args.first.now)) (links_view-row c.args.links.now)
