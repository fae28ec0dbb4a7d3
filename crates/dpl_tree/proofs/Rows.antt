-- Lists in memory, each a slice of a recursive type, and the plain lists that they stand for.
-- These lemmas alone name the rows in which such a list is kept.
use Rattle.std.proofs.Common.{◌≡◌, Bor, List, refl, sym, ap, ◌∙◌}
use Rattle.dpl_tree.specs.declared.expression.Expr.{Expr as ExprNode, Chain as ChainExpr, Row_of-Post, end_of-Post, more_of-Post, items-the_row-Post, items_hidden-the_row-Post-0}
use Rattle.dpl_tree.specs.declared.expression.Expr.TheBlock.{hidden-the_row-Post-0, hidden-the_row-Link-1, hidden-the_row-NextExpr-2, hidden-the_row-NextItem-3}
use Rattle.dpl_tree.specs.declared.expression.Chain.{Chain as ChainNode, out-Chain, is-Chain', Row_of-Link, end_of-Link, more_of-Link, items-the_row-Link, items_hidden-the_row-Link-1}
use Rattle.dpl_tree.specs.declared.expression.Exprs.{Row_of-NextExpr, end_of-NextExpr, more_of-NextExpr, items-the_row-NextExpr, items_hidden-the_row-NextExpr-2}
use Rattle.dpl_tree.specs.declared.expression.Items.{Row_of-NextItem, end_of-NextItem, more_of-NextItem, items-the_row-NextItem, items_hidden-the_row-NextItem-3}
use Rattle.dpl_tree.specs.declared.expression.Link.{Link as LinkNode}
use Rattle.dpl_tree.specs.declared.expression.Post.{Post as PostNode}
use Rattle.dpl_tree.specs.declared.expression.NextItem.{NextItem as NextItemNode}
use Rattle.dpl_tree.specs.declared.expression.NextExpr.{NextExpr as NextExprNode}
use Rattle.dpl_tree.specs.declared.statement.Body.TheBlock.{hidden-the_row-Stmt-0}
use Rattle.dpl_tree.specs.declared.statement.Stmt.{Stmt, Row_of-Stmt, end_of-Stmt, more_of-Stmt, items-the_row-Stmt, items_hidden-the_row-Stmt-0}
use Rattle.dpl_language.specs.Tree.{Chain, Link, Post, NextItem, NextExpr, Then}
use Rattle.dpl_tree.specs.View.{expr_view, chain_view, item_view, post_view, links_view, posts_view, more_items_view, more_exprs_view, links_of, posts_of, more_items_of, more_exprs_of}
use Rattle.dpl_tree.specs.Statements.{stmt_view, stmts_view, stmts_of}

links_row : {m : _} (row : Row_of-Link m) → links_view row ≡ links_of (items-the_row-Link m row)
links_row end_of-Link = refl
links_row (more_of-Link at op p e row) = ap (Link at op (expr_view e)) (links_row row)

pub links_view-row : (xs : List LinkNode) → links_view (hidden-the_row-Link-1 xs) ≡ links_of xs
links_view-row xs = links_row (hidden-the_row-Link-1 xs) ∙ ap links_of (items_hidden-the_row-Link-1 xs)

-- the plain tree of a chain, by what code knows of its parts
pub expr_view-chain : (e : ExprNode) (b : Bor ChainNode) (v : ChainNode) (links : List LinkNode) → e ≡ ChainExpr b → v ≡ b.now → links ≡ (out-Chain v).links.now → expr_view e ≡ Chain (expr_view (out-Chain v).first.now) (links_of links)
expr_view-chain e b v links he hv hl =
    ap expr_view he ∙ ap chain_view (sym hv) ∙ ap chain_view (is-Chain' v) ∙ ap (Chain (expr_view (out-Chain v).first.now)) (links_view-row (out-Chain v).links.now ∙ ap links_of (sym hl))

posts_row : {m : _} (row : Row_of-Post m) → posts_view row ≡ posts_of (items-the_row-Post m row)
posts_row end_of-Post = refl
posts_row (more_of-Post x row) = ap (Post (post_view x)) (posts_row row)

pub posts_view-row : (xs : List PostNode) → posts_view (hidden-the_row-Post-0 xs) ≡ posts_of xs
posts_view-row xs = posts_row (hidden-the_row-Post-0 xs) ∙ ap posts_of (items_hidden-the_row-Post-0 xs)

items_row : {m : _} (row : Row_of-NextItem m) → more_items_view row ≡ more_items_of (items-the_row-NextItem m row)
items_row end_of-NextItem = refl
items_row (more_of-NextItem comma x row) = ap (NextItem comma (item_view x)) (items_row row)

pub more_items_view-row : (xs : List NextItemNode) → more_items_view (hidden-the_row-NextItem-3 xs) ≡ more_items_of xs
more_items_view-row xs = items_row (hidden-the_row-NextItem-3 xs) ∙ ap more_items_of (items_hidden-the_row-NextItem-3 xs)

exprs_row : {m : _} (row : Row_of-NextExpr m) → more_exprs_view row ≡ more_exprs_of (items-the_row-NextExpr m row)
exprs_row end_of-NextExpr = refl
exprs_row (more_of-NextExpr comma p x row) = ap (NextExpr comma (expr_view x)) (exprs_row row)

pub more_exprs_view-row : (xs : List NextExprNode) → more_exprs_view (hidden-the_row-NextExpr-2 xs) ≡ more_exprs_of xs
more_exprs_view-row xs = exprs_row (hidden-the_row-NextExpr-2 xs) ∙ ap more_exprs_of (items_hidden-the_row-NextExpr-2 xs)

stmts_row : {m : _} (row : Row_of-Stmt m) → stmts_view row ≡ stmts_of (items-the_row-Stmt m row)
stmts_row end_of-Stmt = refl
stmts_row (more_of-Stmt s row) = ap (Then (stmt_view s)) (stmts_row row)

pub stmts_view-row : (xs : List Stmt) → stmts_view (hidden-the_row-Stmt-0 xs) ≡ stmts_of xs
stmts_view-row xs = stmts_row (hidden-the_row-Stmt-0 xs) ∙ ap stmts_of (items_hidden-the_row-Stmt-0 xs)
