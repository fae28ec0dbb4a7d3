-- Each loop goes part by part, and where the parts of a form stand for trees, the form stands for the tree of the same form.
use Rattle.std.proofs.Common.{rules, ◌≡◌, ◌+◌, ◌∙◌, ◌∷◌, ◌++◌, [], Option, Some, if◌then◌else◌, length, drop, map, refl, sym, ap, subst}
use Rattle.std.proofs.lemmas.List.{length-map}
use Rattle.dpl_syntax.proofs.Walks.{drop-at, drop-end}
use Rattle.dpl_language.specs.Names.{Text}
use Rattle.dpl_language.specs.Phrases.{Base, base_of}
use Rattle.dpl_language.specs.Tree.{ExprTree, ItemTree, PostTree, MethodTree, RangeItem}
use Rattle.dpl_agreement.specs.Renamed.{renamed_expr}
use Rattle.dpl_tree.specs.declared.expression.Chain.{out-Chain}
use Rattle.dpl_tree.specs.declared.expression.Contains.{out-Contains}
use Rattle.dpl_tree.specs.declared.expression.Items.{out-Items}
use Rattle.dpl_tree.specs.View.{expr_view, item_view, items_view, exprs_view, stride_view, links_of, posts_of, post_view, method_view, more_items_of, more_exprs_of}
use Rattle.dpl_tree.proofs.Fields.{chain_view_fields, expr_view_postfixed, items_view_fields, method_view_contains}
use Rattle.dpl_rules.specs.Types.{has, is_promoted}
use Rattle.dpl_rules.specs.Breaches.{least_from}
use Rattle.dpl_rules.specs.Deeds.{expr_deeds, links_deeds, inner_reductions}
use Rattle.dpl_rules.specs.Expressions.{type_of, chain_type, expr_breaches, chain_breaches}
use Rattle.dpl_rules.specs.Sights.{Scopes}
use Rattle.dpl_lowered.specs.Shapes.{as_items, grouped}
use Rattle.dpl_lowered.specs.LoweredExpressions.{Times, Once}
use Rattle.dpl_memory.specs.Memory.{Variable}
use Rattle.dpl_typed.specs.declared.typed.Typed.{Typed}
use Rattle.dpl_typed.specs.Leaves.{leaf_in, IsFound}
use Rattle.dpl_typed.specs.Lowered.{leaves_of, item_leaves, links_leaves, items_leaves, exprs_leaves}
use Rattle.dpl_typed.specs.Typed.{types_of, part_view}
use Rattle.dpl_typed.specs.Stands.{StandsFor, StandsForItem, AreItems, AreArguments}
use Rattle.dpl_typed.specs.Told.{Tells}
use Rattle.dpl_typed.specs.Where.{WhereSimple, WhereSimpleItem, WhereSimplePost, WhereSimpleMethod, WhereSimpleItems}
use Rattle.dpl_typed.proofs.Standing.{if_ok, if_both, on_any, stands-item, stands-expr}
use Rattle.dpl_nodes.specs.Typed.{dotted}
use Rattle.dpl_deeds.specs.View.{deed_view}
use Rattle.dpl_deeds.proofs.Steps.{added_then}
use Rattle.dpl_elaborator.specs.Inside.{between, Reaches, ReachesSoFar}
use Rattle.dpl_elaborator.specs.Built.{StandsAt, method_leaves, behind, built}
use Rattle.dpl_elaborator.specs.SoFar.{IsChainSoFar, ArePostsSoFar, AreItemsSoFar, AreExprsSoFar, AreItemsBehind}
use Rattle.dpl_elaborator.proofs.Steps.{links_step, posts_step, items_step, exprs_step, links_done, posts_done, items_done, exprs_done}
use Rattle.dpl_elaborator.proofs.Promoted.{reaches-first, reaches-next, reaches-last, chain-told}
use Rattle.dpl_elaborator.proofs.Chains.{chain-step, chain-whole}
use Rattle.dpl_elaborator.proofs.Bases.{stands-at, posts-step, posts-end, posts-whole}
use Rattle.dpl_elaborator.proofs.Behind.{square-made, round-made}
use Rattle.dpl_elaborator.proofs.Listed.{arguments-items, items-step, items-end, items-whole, exprs-step, exprs-end}
use Rattle.dpl_elaborator.proofs.expression.+expression.Goals as goal

-- what is said of a node, by the tree
abbrev NodeOf : Scopes → Option Typed → ExprTree Text → Type 0
NodeOf ss r x = WhereSimple ss x (StandsFor r (λ m. leaves_of ss m x))

abbrev NodeOfItem : Scopes → Option Typed → ItemTree Text → Type 0
NodeOfItem ss r i = WhereSimpleItem ss i (StandsForItem r (λ m. item_leaves ss m i))

abbrev NodeOfPost : Scopes → Option Typed → Option Typed → PostTree Text → Type 0
NodeOfPost ss t r p =
    (f : Times → ExprTree Variable) (b : Base Variable) → StandsFor t f → StandsAt f b → WhereSimplePost ss p (StandsFor r (λ m. behind ss b p (f Once)))

abbrev NodeOfMethod : Scopes → Option Typed → Option Typed → MethodTree Text → Type 0
NodeOfMethod ss t r m = (f : Times → ExprTree Variable) → StandsFor t f → WhereSimpleMethod ss m (StandsFor r (λ n. dotted (f Once) (method_leaves ss m)))

-- ---- expressions
pub expr-returns-in-Grouped-clause-node : goal.expr-returns-in-Grouped-clause-node
expr-returns-in-Grouped-clause-node t c =
    let ss = c.args.scopes.now in
    let i = item_view c.in-Grouped.inner.now in
    if_ok c.item.result (λ r h. subst (NodeOf ss r) (sym (ap expr_view c.in-Grouped.is)) (λ s n. stands-expr r (λ m. item_leaves ss m i) (h s n.1))) c.item.ensures.node

pub expr-returns-in-Domain-clause-node : goal.expr-returns-in-Domain-clause-node
expr-returns-in-Domain-clause-node t c =
    if_ok c.domain.result (λ r h. subst (NodeOf c.args.scopes.now r) (sym (ap expr_view c.in-Domain.is)) (λ s n. h n.0 s n.1)) c.domain.ensures.node

pub expr-returns-in-Ok-expr-clause-node : goal.expr-returns-in-Ok-expr-clause-node
expr-returns-in-Ok-expr-clause-node t c =
    let ss = c.args.scopes.now in
    let e = expr_view c.in-Prefixed.operand.now in
    if_ok c.prefix.result
    (λ r h. subst (NodeOf ss r) (sym (ap expr_view c.in-Prefixed.is)) (λ s n. h (λ m. leaves_of ss m e) (c.in-Ok-expr.ensures.node s n.1))) c.prefix.ensures.node

pub expr-returns-in-Ok-expr-2-clause-node : goal.expr-returns-in-Ok-expr-2-clause-node
expr-returns-in-Ok-expr-2-clause-node t c =
    let ss = c.args.scopes.now in
    let e = expr_view c.in-Reduced.reduced.now.operand.now in
    if_ok c.reduction.result
    (λ r h. subst (NodeOf ss r) (sym (ap expr_view c.in-Reduced.is)) (λ s n. h (λ m. leaves_of ss m e) (c.in-Ok-expr-2.ensures.node s n.2) n.1)) c.reduction.ensures.node

pub expr-returns-in-Chain-clause-node : goal.expr-returns-in-Chain-clause-node
expr-returns-in-Chain-clause-node t c =
    if_ok c.chain.result (λ r h. subst (NodeOf c.args.scopes.now r) (sym (ap expr_view c.in-Chain.is)) h) c.chain.ensures.node

pub expr-returns-in-Ok-base-clause-node : goal.expr-returns-in-Ok-base-clause-node
expr-returns-in-Ok-base-clause-node t c =
    let ss = c.args.scopes.now in
    let v = c.in-Postfixed.postfixed.now in
    let e = expr_view v.base.now in
    let ps = posts_of v.posts.now in
    if_ok c.posts.result
    (λ r h. subst (NodeOf ss r) (sym (ap expr_view c.in-Postfixed.is ∙ expr_view_postfixed c.in-Postfixed.postfixed))
    (λ s n. posts-whole ss (IsFound ss) r e ps s.1 s.2
    (h (λ m. leaves_of ss m e) (base_of (renamed_expr (leaf_in ss) e)) (c.in-Ok-base.ensures.node s.0 n.1) (stands-at ss (IsFound ss) e s.0) s.2 s.1 n.2)))
    c.posts.ensures.node

-- a name in brackets
pub expr_before-returns-in-One-clause-node : goal.expr_before-returns-in-One-clause-node
expr_before-returns-in-One-clause-node t c =
    let ss = c.args.scopes.now in
    let i = item_view c.in-Grouped.item.now in
    let e = expr_view c.in-One.inner.now in
    if_ok c.expr_before.result
    (λ r h.
    let as_item : NodeOfItem ss r i = subst (NodeOfItem ss r) (sym (ap item_view c.in-One.is)) (λ s n. stands-item r (λ m. leaves_of ss m e) (h s n)) in
    subst (NodeOf ss r) (sym (ap expr_view c.in-Grouped.is)) (λ s n. stands-expr r (λ m. item_leaves ss m i) (as_item s n.1)))
    c.expr_before.ensures.node

pub item-returns-in-One-clause-node : goal.item-returns-in-One-clause-node
item-returns-in-One-clause-node t c =
    let ss = c.args.scopes.now in
    let e = expr_view c.in-One.e.now in
    if_ok c.expr.result (λ r h. subst (NodeOfItem ss r) (sym (ap item_view c.in-One.is)) (λ s n. stands-item r (λ m. leaves_of ss m e) (h s n))) c.expr.ensures.node

pub item-returns-in-Range-clause-node : goal.item-returns-in-Range-clause-node
item-returns-in-Range-clause-node t c =
    if_ok c.range_item.result (λ r h. subst (NodeOfItem c.args.scopes.now r) (sym (ap item_view c.in-Range.is)) h) c.range_item.ensures.node

pub domain-returns-clause-node : goal.domain-returns-clause-node
domain-returns-clause-node t c =
    let is = items_leaves c.args.scopes.now (items_view c.args.written.now) in
    if_ok c.literal.result
    (λ r h. λ near s n. h is (subst (λ ps. AreItems ps is) (sym c.deref.ensures.value) (c.in-Ok.ensures.node s n)) near)
    c.literal.ensures.node

-- ---- chains
pub chain-returns-clause-told : goal.chain-returns-clause-told
chain-returns-clause-told t c =
    let ss = c.args.scopes.now in
    let v = out-Chain c.args.chain.now in
    let e = expr_view v.first.now in
    let ls = links_of v.links.now in
    let linked = c.in-Ok-links.linked in
    let typed = c.in-Ok.ensures.told.0 in
    let before = map deed_view c.args.deeds.now.items in
    let after = map deed_view c.links.new.deeds.items in
    let counted : c.len-start.result ≡ length c.args.deeds.now.items = search rules in
    let reaches : Reaches ss (type_of ss e) ls (before ++ expr_deeds ss e) after linked.promoted =
    subst (λ ds. Reaches ss (type_of ss e) ls ds after linked.promoted) c.in-Ok.ensures.deeds
    (subst (λ t. Reaches ss t ls (map deed_view c.expr.new.deeds.items) after linked.promoted) typed c.in-Ok-links.ensures.promoted) in
    let told = c.in-Ok-links.ensures.told in
    let inner : c.tell_inner.new.first ≡ least_from c.links.new.first (inner_reductions (between c.len-start.result linked.promoted after)) =
    subst (λ ds. c.tell_inner.new.first ≡ least_from c.links.new.first (inner_reductions (between c.len-start.result linked.promoted (map deed_view ds)))) c.as_slice.ensures.value
    c.tell_inner.ensures in
    if_ok c.flat.result
    (λ r same. subst (λ x. Tells (type_of ss x) (expr_breaches ss x) r c.args.first.now c.tell_inner.new.first) (sym (chain_view_fields c.args.chain.now)) (
      same ∙ told.0 ∙ ap (λ t. chain_type ss t ls) typed,
      chain-told ss e ls before after c.len-start.result linked.promoted c.args.first.now c.expr.new.first c.links.new.first c.tell_inner.new.first
          (counted ∙ sym (length-map c.args.deeds.now.items deed_view)) reaches c.in-Ok.ensures.told.1
          (told.1 ∙ ap (λ t. least_from c.expr.new.first (chain_breaches ss t ls)) typed) inner,
    ))
    c.flat.ensures.typed

pub chain-returns-clause-node : goal.chain-returns-clause-node
chain-returns-clause-node t c =
    let ss = c.args.scopes.now in
    let v = out-Chain c.args.chain.now in
    let e = expr_view v.first.now in
    let ls = links_of v.links.now in
    if_ok c.flat.result
    (λ r stands. subst (NodeOf ss r) (sym (chain_view_fields c.args.chain.now))
    (λ s n. chain-whole ss r e ls s.2
    (stands (λ m. grouped (leaves_of ss m e) (links_leaves ss m ls)) (c.in-Ok-links.ensures.node (λ m. leaves_of ss m e) (c.in-Ok.ensures.node s.0 n.1) s.1 n.2))))
    c.flat.ensures.node

pub chain-returns-clause-deeds : goal.chain-returns-clause-deeds
chain-returns-clause-deeds t c =
    let ss = c.args.scopes.now in
    let v = out-Chain c.args.chain.now in
    let before = map deed_view c.args.deeds.now.items in
    on_any c.flat.result (
    c.in-Ok-links.ensures.deeds
    ∙ added_then before (map deed_view c.expr.new.deeds.items) (expr_deeds ss (expr_view v.first.now)) (links_deeds ss (links_of v.links.now)) c.in-Ok.ensures.deeds
    ∙ ap (λ x. before ++ expr_deeds ss x) (sym (chain_view_fields c.args.chain.now)))

pub links-loop-next-init : goal.links-loop-next-init
links-loop-next-init t c =
    let ss = c.args.scopes.now in
    let all = links_of c.args.links.now in
    (refl, refl, λ f h simple near. record { tree = f; stands = h; same = λ m. refl; simple = simple; near = near }, refl, reaches-first ss (types_of c.args.t) all (map deed_view c.args.deeds.now.items))

pub links-returns-clause-promoted : goal.links-returns-clause-promoted
links-returns-clause-promoted t c =
    let ss = c.args.scopes.now in
    let at = c.loop-next in
    let xs = c.args.links.now in
    let old = map deed_view c.args.deeds.now.items in
    let now = map deed_view at.deeds.items in
    reaches-last ss (types_of c.args.t) (links_of xs) old (types_of at.t) now at.promoted
    (subst (λ l. ReachesSoFar ss (types_of c.args.t) (links_of xs) old (types_of at.t) (links_of l) now at.promoted) (drop-end xs at.next-index c.loop-next-test.false) at.invariant.4)

pub link-returns-clause-node : goal.link-returns-clause-node
link-returns-clause-node t c =
    let ss = c.args.scopes.now in
    if_ok c.infix.result
    (λ r h. λ f stands near s n. h f (λ m. leaves_of ss m (expr_view c.args.link.now.right.now)) stands (c.in-Ok.ensures.node s n) near) c.infix.ensures.node

pub links-loop-next-preserved : goal.links-loop-next-preserved
links-loop-next-preserved t c =
    let scopes = c.args.scopes.now in
    let at = c.loop-next in
    let xs = c.args.links.now in
    let x = c.next-item.result in
    let next = c.in-Ok.more in
    let step = links_step scopes xs at.next-index x c.loop-next-test.true c.next-item.is (types_of at.t) (types_of next) at.first c.link.new.first c.in-Ok.ensures.told in
    let e = expr_view x.right.now in
    let rest = links_of (drop (at.next-index + 1) xs) in
    let old = map deed_view c.args.deeds.now.items in
    let now = map deed_view at.deeds.items in
    let after = map deed_view c.link.new.deeds.items in
    let split = drop-at xs at.next-index x c.loop-next-test.true c.next-item.is in
    let so_far = subst (λ l. IsChainSoFar scopes c.args.t (links_of xs) at.t (links_of l)) split at.invariant.2 in
    let reaches = subst (λ l. ReachesSoFar scopes (types_of c.args.t) (links_of xs) old (types_of at.t) (links_of l) now at.promoted) split at.invariant.4 in
    let counted : c.len.result ≡ length after = (let k : c.len.result ≡ length c.link.new.deeds.items = search rules in k) ∙ sym (length-map c.link.new.deeds.items deed_view) in (
      step.0 ∙ at.invariant.0,
      step.1 ∙ at.invariant.1,
      chain-step scopes c.args.t (links_of xs) at.t next x.at x.op e rest so_far c.in-Ok.ensures.node,
      links_done scopes xs at.next-index x c.loop-next-test.true c.next-item.is now after c.in-Ok.ensures.deeds ∙ at.invariant.3,
      reaches-next scopes (types_of c.args.t) (links_of xs) old (types_of at.t) x.at x.op e rest now at.promoted reaches (types_of next) after c.reached-promoted.result
          c.in-Ok.ensures.told.0 c.in-Ok.ensures.deeds (c.reached-promoted.ensures ∙ ap (λ n. if has is_promoted (types_of next) then Some n else at.promoted) counted),
    )

-- ---- what stands behind a base
pub posts-loop-next-preserved : goal.posts-loop-next-preserved
posts-loop-next-preserved t c =
    let scopes = c.args.scopes.now in
    let at = c.loop-next in
    let xs = c.args.posts.now in
    let x = c.next-item.result in
    let next = c.in-Ok.more in
    let step = posts_step scopes xs at.next-index x c.loop-next-test.true c.next-item.is at.last c.last_of_post-last.result (types_of at.t) (types_of next) at.first c.post.new.first c.last_of_post-last.ensures c.in-Ok.ensures.told in
    let so_far = subst (λ l. ArePostsSoFar scopes c.args.t (posts_of xs) at.t (posts_of l)) (drop-at xs at.next-index x c.loop-next-test.true c.next-item.is) at.invariant.2 in (
      step.0 ∙ at.invariant.0,
      step.1 ∙ at.invariant.1,
      posts-step scopes c.args.t (posts_of xs) at.t next (post_view x) (posts_of (drop (at.next-index + 1) xs)) so_far c.in-Ok.ensures.node,
      posts_done scopes xs at.next-index x c.loop-next-test.true c.next-item.is (map deed_view at.deeds.items) (map deed_view c.post.new.deeds.items) c.in-Ok.ensures.deeds
          ∙ at.invariant.3,
    )

pub posts-returns-clause-node : goal.posts-returns-clause-node
posts-returns-clause-node t c =
    let ss = c.args.scopes.now in
    let at = c.loop-next in
    let xs = c.args.posts.now in
    let all = posts_of xs in
    let so_far = subst (λ l. ArePostsSoFar ss c.args.t all at.t (posts_of l)) (drop-end xs at.next-index c.loop-next-test.false) at.invariant.2 in
    if_ok c.flat.result
    (λ r stands f b base told some simple near.
    stands (λ m. built ss b all (f Once)) (posts-end ss c.args.t all at.t so_far f b base told some simple near))
    c.flat.ensures.node

-- ---- further parts
pub more_items-loop-next-preserved : goal.more_items-loop-next-preserved
more_items-loop-next-preserved t c =
    let scopes = c.args.scopes.now in
    let at = c.loop-next in
    let xs = c.args.others.now in
    let x = c.next-item.result in
    let q = c.in_ok-item_part.field-0 in
    let step = items_step scopes xs at.next-index x c.loop-next-test.true c.next-item.is at.parts.items q at.first c.item_part.new.first c.in_ok-item_part.ensures.told in
    let so_far = subst (λ l. AreItemsSoFar scopes c.args.parts.items (more_items_of xs) at.parts.items (more_items_of l)) (drop-at xs at.next-index x c.loop-next-test.true c.next-item.is) at.invariant.2 in
    rw c.in_ok-push.ensures.items (
      step.0 ∙ at.invariant.0,
      step.1 ∙ at.invariant.1,
      items-step scopes c.args.parts.items (more_items_of xs) at.parts.items x.comma (item_view x.item) (more_items_of (drop (at.next-index + 1) xs)) q so_far c.in_ok-item_part.ensures.node,
      items_done scopes xs at.next-index x c.loop-next-test.true c.next-item.is (map deed_view at.deeds.items) (map deed_view c.item_part.new.deeds.items) c.in_ok-item_part.ensures.deeds
          ∙ at.invariant.3,
    )

pub more_items-returns-clause-node : goal.more_items-returns-clause-node
more_items-returns-clause-node t c =
    let scopes = c.args.scopes.now in
    let at = c.loop-next in
    let xs = c.args.others.now in
    items-end scopes c.args.parts.items (more_items_of xs) at.parts.items
    (subst (λ l. AreItemsSoFar scopes c.args.parts.items (more_items_of xs) at.parts.items (more_items_of l)) (drop-end xs at.next-index c.loop-next-test.false) at.invariant.2)

pub more_exprs-loop-next-preserved : goal.more_exprs-loop-next-preserved
more_exprs-loop-next-preserved t c =
    let scopes = c.args.scopes.now in
    let at = c.loop-next in
    let xs = c.args.others.now in
    let x = c.next-item.result in
    let q = c.in_ok-part.field-0 in
    let step = exprs_step scopes xs at.next-index x c.loop-next-test.true c.next-item.is at.parts.items q at.first c.part.new.first c.in_ok-part.ensures.told in
    let so_far = subst (λ l. AreExprsSoFar scopes c.args.parts.items (more_exprs_of xs) at.parts.items (more_exprs_of l)) (drop-at xs at.next-index x c.loop-next-test.true c.next-item.is) at.invariant.2 in
    rw c.in_ok-push.ensures.items (
      step.0 ∙ at.invariant.0,
      step.1 ∙ at.invariant.1,
      exprs-step scopes c.args.parts.items (more_exprs_of xs) at.parts.items x.comma (expr_view x.expr.now) (more_exprs_of (drop (at.next-index + 1) xs)) q so_far c.in_ok-part.ensures.node,
      exprs_done scopes xs at.next-index x c.loop-next-test.true c.next-item.is (map deed_view at.deeds.items) (map deed_view c.part.new.deeds.items) c.in_ok-part.ensures.deeds
          ∙ at.invariant.3,
    )

pub more_exprs-returns-clause-node : goal.more_exprs-returns-clause-node
more_exprs-returns-clause-node t c =
    let scopes = c.args.scopes.now in
    let at = c.loop-next in
    let xs = c.args.others.now in
    exprs-end scopes c.args.parts.items (more_exprs_of xs) at.parts.items
    (subst (λ l. AreExprsSoFar scopes c.args.parts.items (more_exprs_of xs) at.parts.items (more_exprs_of l)) (drop-end xs at.next-index c.loop-next-test.false) at.invariant.2)

-- ---- ranges
pub range_item-returns-in-Absent-clause-node : goal.range_item-returns-in-Absent-clause-node
range_item-returns-in-Absent-clause-node t c =
    let ss = c.args.scopes.now in
    let v = c.args.written.now in
    let low = expr_view v.low.now in
    let high = expr_view v.high.now in
    if_ok c.plain_range.result
    (λ r h. subst (λ by. NodeOfItem ss r (RangeItem low v.at v.dots high (stride_view by))) (sym c.in-Absent.is)
    (λ s n. h (leaves_of ss Once low) (leaves_of ss Once high) (c.in-Ok.ensures.node s.0 n.0) (c.in-Ok-part.ensures.node s.1 n.3) n.1))
    c.plain_range.ensures.node

pub range_item-returns-in-Ok-part-2-clause-node : goal.range_item-returns-in-Ok-part-2-clause-node
range_item-returns-in-Ok-part-2-clause-node t c =
    let ss = c.args.scopes.now in
    let v = c.args.written.now in
    let low = expr_view v.low.now in
    let high = expr_view v.high.now in
    let e = expr_view c.in-By.e.now in
    if_ok c.strided_range.result
    (λ r h. subst (λ by. NodeOfItem ss r (RangeItem low v.at v.dots high (stride_view by))) (sym c.in-By.is)
    (λ s n. h (leaves_of ss Once low) (leaves_of ss Once high) (leaves_of ss Once e) (c.in-Ok.ensures.node s.0 n.0) (c.in-Ok-part.ensures.node s.1 n.3) (c.in-Ok-part-2.ensures.node s.2 n.4.1) n.1 n.4.0))
    c.strided_range.ensures.node

-- ---- brackets or one method
pub post-returns-in-Ok-clause-node : goal.post-returns-in-Ok-clause-node
post-returns-in-Ok-clause-node t c =
    let ss = c.args.scopes.now in
    let b = c.in-Brackets in
    let is = items_view b.inner.now in
    if_both c.square.result
    (λ r told h. subst (NodeOfPost ss c.args.t r) (sym (ap post_view b.is))
    (λ f base stands at s n. square-made c.args.last b.from (map part_view c.deref.result.now) ss b.upto is c.args.t r told.0 f base stands at
    (h f (items_leaves ss is) stands (subst (λ ps. AreItems ps (items_leaves ss is)) (sym c.deref.ensures.value) (c.in-Ok.ensures.node s n.1)))))
    c.square.ensures.told c.square.ensures.node

pub post-returns-in-Ok-exprs-clause-node : goal.post-returns-in-Ok-exprs-clause-node
post-returns-in-Ok-exprs-clause-node t c =
    let ss = c.args.scopes.now in
    let b = c.in-Rounds in
    let es = exprs_view b.inner.now in
    if_both c.round.result
    (λ r told h. subst (NodeOfPost ss c.args.t r) (sym (ap post_view b.is))
    (λ f base stands at s n. round-made c.args.last b.from (map part_view c.deref-in-Rounds.result.now) ss b.upto es c.args.t r told.0 f base stands at
    (h f (as_items (exprs_leaves ss es)) stands
    (arguments-items c.deref-in-Rounds.result.now (exprs_leaves ss es) (subst (λ ps. AreArguments ps (exprs_leaves ss es)) (sym c.deref-in-Rounds.ensures.value) (c.in-Ok-exprs.ensures.node s n.1))))))
    c.round.ensures.told c.round.ensures.node

pub method-returns-in-Ok-clause-node : goal.method-returns-in-Ok-clause-node
method-returns-in-Ok-clause-node t c =
    let ss = c.args.scopes.now in
    let b = c.in-Contains.called in
    let es = exprs_view (out-Contains b.now).exprs in
    if_ok c.contains.result
    (λ r h. subst (NodeOfMethod ss c.args.t r) (sym (ap method_view c.in-Contains.is ∙ method_view_contains b))
    (λ f stands s n. h f (exprs_leaves ss es) stands (subst (λ ps. AreArguments ps (exprs_leaves ss es)) (sym c.deref.ensures.value) (c.in-Ok.ensures.node s n.2))))
    c.contains.ensures.node

pub method-returns-in-Ok-part-clause-node : goal.method-returns-in-Ok-part-clause-node
method-returns-in-Ok-part-clause-node t c =
    let ss = c.args.scopes.now in
    let e = expr_view c.in-Expand.called.now.by.now in
    if_ok c.expand.result
    (λ r h. subst (NodeOfMethod ss c.args.t r) (sym (ap method_view c.in-Expand.is)) (λ f stands s n. h f (leaves_of ss Once e) stands (c.in-Ok-part.ensures.node s n.2) n.0))
    c.expand.ensures.node

-- ---- all parts
pub items-returns-clause-node : goal.items-returns-clause-node
items-returns-clause-node t c =
    let ss = c.args.scopes.now in
    let v = c.args.items.now in
    let q = c.in_ok-item_part.field-0 in
    let i = item_view (out-Items v).first in
    let more = more_items_of (out-Items v).others.now in
    let pushed : c.push.new.self.items ≡ q ∷ [] = c.in_ok-push.ensures.items ∙ ap (λ xs. xs ++ q ∷ []) c.new-parts.ensures.items in
    if_ok c.more_items.result
    (λ ps h. subst (λ x. WhereSimpleItems ss x (AreItems ps.items (items_leaves ss x))) (sym (items_view_fields v))
    (items-whole ss q i more ps.items c.in_ok-item_part.ensures.node (subst (λ b. AreItemsBehind ss b more ps.items) pushed h)))
    c.more_items.ensures.node
