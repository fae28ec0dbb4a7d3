-- Nodes that hold a list, by their fields: what code that walks a tree knows of them.
-- Each has the node's view on its left side.
use Rattle.std.proofs.Common.{◌≡◌, Bor, ap, ◌∙◌}
use Rattle.dpl_tree.specs.declared.expression.Expr.{Postfixed as PostfixedExpr}
use Rattle.dpl_tree.specs.declared.expression.Postfixed.{Postfixed as PostfixedNode}
use Rattle.dpl_tree.specs.declared.expression.Chain.{Chain as ChainNode, out-Chain, is-Chain'}
use Rattle.dpl_tree.specs.declared.expression.Items.{Items as ItemsNode, out-Items, is-Items'}
use Rattle.dpl_tree.specs.declared.expression.Exprs.{Exprs as ExprsNode, out-Exprs, is-Exprs'}
use Rattle.dpl_tree.specs.declared.expression.Contains.{Contains as ContainsNode, out-Contains, is-Contains'}
use Rattle.dpl_tree.specs.declared.expression.Method.{Contains as ContainsMethod}
use Rattle.dpl_language.specs.Tree.{Chain, Postfixed, Contains, FirstItem, FirstExpr}
use Rattle.dpl_tree.specs.View.{expr_view, chain_view, item_view, items_view, exprs_view, method_view, links_of, posts_of, more_items_of, more_exprs_of}
use Rattle.dpl_tree.proofs.Rows.{links_view-row, posts_view-row, more_items_view-row, more_exprs_view-row}

pub chain_view_fields : (v : ChainNode) → chain_view v ≡ Chain (expr_view (out-Chain v).first.now) (links_of (out-Chain v).links.now)
chain_view_fields v = ap chain_view (is-Chain' v) ∙ ap (Chain (expr_view (out-Chain v).first.now)) (links_view-row (out-Chain v).links.now)

pub items_view_fields : (v : ItemsNode) → items_view v ≡ FirstItem (item_view (out-Items v).first) (more_items_of (out-Items v).others.now)
items_view_fields v = ap items_view (is-Items' v) ∙ ap (FirstItem (item_view (out-Items v).first)) (more_items_view-row (out-Items v).others.now)

pub exprs_view_fields : (v : ExprsNode) → exprs_view v ≡ FirstExpr (expr_view (out-Exprs v).first.now) (more_exprs_of (out-Exprs v).others.now)
exprs_view_fields v = ap exprs_view (is-Exprs' v) ∙ ap (FirstExpr (expr_view (out-Exprs v).first.now)) (more_exprs_view-row (out-Exprs v).others.now)

pub expr_view_postfixed : (b : Bor PostfixedNode) → expr_view (PostfixedExpr b) ≡ Postfixed (expr_view b.now.base.now) (posts_of b.now.posts.now)
expr_view_postfixed b = ap (Postfixed (expr_view b.now.base.now)) (posts_view-row b.now.posts.now)

pub method_view_contains : (b : Bor ContainsNode) → let v = out-Contains b.now in method_view (ContainsMethod b) ≡ Contains v.at v.from (exprs_view v.exprs) v.upto
method_view_contains b = ap (λ v. method_view (ContainsMethod (record { ref_ptr = b.ref_ptr; now = v }))) (is-Contains' b.now)
