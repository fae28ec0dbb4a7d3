-- Lists of nodes in memory, and the lists that the grammar's rules make of what they spell.
-- Each equation has the plain list of the nodes on its left side, and what the rule makes on its right.
use Rattle.std.proofs.Common.{◌≡◌, Bor, Bool, true, cond, ◌<◌, ◌≤◌, List, [], ◌∷◌, length, map, refl, sym, ap, ◌∙◌, arith}
use lib.ListN.{get_or}
use Rattle.dpl_tree.specs.declared.expression.Expr.{Expr as ExprNode, Chain as ChainExpr}
use Rattle.dpl_tree.specs.declared.expression.Chain.{Chain as ChainNode, out-Chain}
use Rattle.dpl_tree.proofs.Rows.{expr_view-chain}
use Rattle.dpl_grammar.specs.Rule.{Whole, Begun}
use Rattle.dpl_tree.specs.declared.expression.Link.{Link as LinkNode}
use Rattle.dpl_tree.specs.declared.expression.Post.{Post as PostNode}
use Rattle.dpl_tree.specs.declared.expression.NextItem.{NextItem as NextItemNode}
use Rattle.dpl_tree.specs.declared.expression.NextExpr.{NextExpr as NextExprNode}
use Rattle.dpl_language.specs.Tree.{Link, Post, NextItem, NextExpr, Chain, Postfixed, One}
use Rattle.dpl_tree.specs.View.{expr_view, item_view, post_view, next_expr_view, links_of, posts_of, more_items_of, more_exprs_of}
use Rattle.dpl_spelling.specs.Nested.{Expression}
use Rattle.dpl_spelling.specs.Expressions as rule
use Rattle.dpl_spelling.specs.Expressions.{chain_of, postfixed, is_in_sum, are_in_sum, after_first}
use Rattle.dpl_expressions.specs.Levels.{further_view, next_item_view}

pub links_of_nodes : (ls : List LinkNode) → links_of ls ≡ rule.links_of (map further_view ls)
links_of_nodes [] = refl
links_of_nodes (l ∷ ls) = ap (Link l.at l.op (expr_view l.right.now)) (links_of_nodes ls)

pub posts_of_nodes : (ps : List PostNode) → posts_of ps ≡ rule.posts_of (map post_view ps)
posts_of_nodes [] = refl
posts_of_nodes (p ∷ ps) = ap (Post (post_view p)) (posts_of_nodes ps)

pub more_items_of_nodes : (ns : List NextItemNode) → more_items_of ns ≡ rule.more_items (map next_item_view ns)
more_items_of_nodes [] = refl
more_items_of_nodes (n ∷ ns) = ap (NextItem n.comma (item_view n.item)) (more_items_of_nodes ns)

pub more_exprs_of_nodes : (ns : List NextExprNode) → more_exprs_of ns ≡ rule.more_exprs (map next_expr_view ns)
more_exprs_of_nodes [] = refl
more_exprs_of_nodes (n ∷ ns) = ap (NextExpr n.comma (expr_view n.expr.now)) (more_exprs_of_nodes ns)

-- a chain with further operands, and a base with what stands behind it

pub chain_nodes : (e : Expression) (ls : List LinkNode) → (length ls ≡ 0 → ⊥) → Chain e (links_of ls) ≡ chain_of e (map further_view ls)
unfolding chain_of
chain_nodes e [] h = absurd (h refl)
chain_nodes e (l ∷ ls) h = ap (Chain e) (links_of_nodes (l ∷ ls))

pub postfixed_nodes : (e : Expression) (ps : List PostNode) → (length ps ≡ 0 → ⊥) → Postfixed e (posts_of ps) ≡ postfixed e (map post_view ps)
unfolding postfixed
postfixed_nodes e [] h = absurd (h refl)
postfixed_nodes e (p ∷ ps) h = ap (Postfixed e) (posts_of_nodes (p ∷ ps))

-- a chain, which is a sum by its first operator

pub no_links : (ls : List LinkNode) → length ls < 1 → are_in_sum (links_of ls) ≡ true
no_links [] h = refl
no_links (l ∷ ls) h = absurd (omega arith)

pub first_link : (ls : List LinkNode) (k : LinkNode) (t : Bool) → 1 ≤ length ls → k ≡ get_or ls 0 k → t ≡ is_in_sum k.op → are_in_sum (links_of ls) ≡ t
first_link [] k t h e is = absurd (omega arith)
first_link (l ∷ ls) k t h e is = ap (λ (x : LinkNode). is_in_sum x.op) (sym e) ∙ sym is

pub after_first_chain : (e : ExprNode) (b : Bor ChainNode) (v : ChainNode) (ls : List LinkNode) → e ≡ ChainExpr b → v ≡ b.now → ls ≡ (out-Chain v).links.now → (t : Bool) → are_in_sum (links_of ls) ≡ t
    → after_first (expr_view e) ≡ cond t (Begun (expr_view e)) (Whole (One (expr_view e)))
after_first_chain e b v ls he hv hl t ht = rw (expr_view-chain e b v ls he hv hl, ht) refl
