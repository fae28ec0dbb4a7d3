use Rattle.std.proofs.Common.{◌≡◌, ◌++◌, map, drop}
use Rattle.dpl_tree.specs.View.{links_of, posts_of, more_items_of, more_exprs_of}
use Rattle.dpl_rules.specs.Breaches.{least_from}
use Rattle.dpl_rules.specs.Expressions.{chain_type, posts_type, more_item_parts, more_expr_parts}
use Rattle.dpl_rules.specs.Expressions.{chain_breaches, posts_breaches, more_items_breaches, more_exprs_breaches}
use Rattle.dpl_rules.specs.Deeds.{links_deeds, posts_deeds, more_items_deeds, more_exprs_deeds}
use Rattle.dpl_typed.specs.Typed.{types_of, part_view}
use Rattle.dpl_deeds.specs.View.{deed_view}
use Rattle.dpl_elaborator.specs.Inside.{ReachesSoFar}
use Rattle.dpl_elaborator.specs.SoFar.{IsChainSoFar, ArePostsSoFar, AreItemsSoFar, AreExprsSoFar}
use Rattle.dpl_elaborator.proofs.expression.+expression.Given as goal

-- what is left gives, tells and does what all gave, told and did at first, and what is made so far is, with what is left, what is made of all

abbrev pub invariant-links-loop-next : goal.invariant-links-loop-next
invariant-links-loop-next l =
    let left = links_of (drop l.next-index l.links) in
    let all = links_of l.links in
    (chain_type l.scopes (types_of l.t) left ≡ chain_type l.scopes (types_of l.initial.t) all)
    × (least_from l.first (chain_breaches l.scopes (types_of l.t) left) ≡ least_from l.initial.first (chain_breaches l.scopes (types_of l.initial.t) all))
    × IsChainSoFar l.scopes l.initial.t all l.t left
    × (map deed_view l.deeds.items ++ links_deeds l.scopes left ≡ map deed_view l.initial.deeds.items ++ links_deeds l.scopes all)
    × ReachesSoFar l.scopes (types_of l.initial.t) all (map deed_view l.initial.deeds.items) (types_of l.t) left (map deed_view l.deeds.items) l.promoted

abbrev pub invariant-posts-loop-next : goal.invariant-posts-loop-next
invariant-posts-loop-next l =
    let left = posts_of (drop l.next-index l.posts) in
    let all = posts_of l.posts in
    (posts_type l.scopes l.last (types_of l.t) left ≡ posts_type l.scopes l.initial.last (types_of l.initial.t) all)
    × (least_from l.first (posts_breaches l.scopes l.last (types_of l.t) left) ≡ least_from l.initial.first (posts_breaches l.scopes l.initial.last (types_of l.initial.t) all))
    × ArePostsSoFar l.scopes l.initial.t all l.t left
    × (map deed_view l.deeds.items ++ posts_deeds l.scopes left ≡ map deed_view l.initial.deeds.items ++ posts_deeds l.scopes all)

abbrev pub invariant-more_items-loop-next : goal.invariant-more_items-loop-next
invariant-more_items-loop-next l =
    let left = more_items_of (drop l.next-index l.others) in
    let all = more_items_of l.others in
    (map part_view l.parts.items ++ more_item_parts l.scopes left ≡ map part_view l.initial.parts.items ++ more_item_parts l.scopes all)
    × (least_from l.first (more_items_breaches l.scopes left) ≡ least_from l.initial.first (more_items_breaches l.scopes all))
    × AreItemsSoFar l.scopes l.initial.parts.items all l.parts.items left
    × (map deed_view l.deeds.items ++ more_items_deeds l.scopes left ≡ map deed_view l.initial.deeds.items ++ more_items_deeds l.scopes all)

abbrev pub invariant-more_exprs-loop-next : goal.invariant-more_exprs-loop-next
invariant-more_exprs-loop-next l =
    let left = more_exprs_of (drop l.next-index l.others) in
    let all = more_exprs_of l.others in
    (map part_view l.parts.items ++ more_expr_parts l.scopes left ≡ map part_view l.initial.parts.items ++ more_expr_parts l.scopes all)
    × (least_from l.first (more_exprs_breaches l.scopes left) ≡ least_from l.initial.first (more_exprs_breaches l.scopes all))
    × AreExprsSoFar l.scopes l.initial.parts.items all l.parts.items left
    × (map deed_view l.deeds.items ++ more_exprs_deeds l.scopes left ≡ map deed_view l.initial.deeds.items ++ more_exprs_deeds l.scopes all)
