-- One step of a walk along the parts of a node: what is left behind it gives and tells the rest.
-- Each is stated of the list of parts and a place in it.
use Rattle.std.proofs.Common.{◌≡◌, ℕ, ◌+◌, ◌<◌, List, [], ◌∷◌, ◌++◌, length, drop, get_or, map, Option, refl, sym, ap, ◌∙◌, append_assoc}
use Rattle.std.proofs.lemmas.List.{map-append}
use Rattle.dpl_syntax.specs.declared.place.Place.{Place}
use Rattle.dpl_syntax.specs.declared.refusal.Breach.{Breach}
use Rattle.dpl_syntax.proofs.Walks.{drop-at}
use Rattle.dpl_tree.specs.declared.expression.Link.{Link as LinkNode}
use Rattle.dpl_tree.specs.declared.expression.Post.{Post as PostNode}
use Rattle.dpl_tree.specs.declared.expression.NextItem.{NextItem as NextItemNode}
use Rattle.dpl_tree.specs.declared.expression.NextExpr.{NextExpr as NextExprNode}
use Rattle.dpl_tree.specs.View.{expr_view, item_view, post_view, links_of, posts_of, more_items_of, more_exprs_of}
use Rattle.dpl_typed.specs.declared.part.Part.{Part as PartNode}
use Rattle.dpl_typed.specs.Typed.{part_view}
use Rattle.dpl_rules.specs.Types.{ValueType}
use Rattle.dpl_rules.specs.Verdicts.{part, type_by, broken_by}
use Rattle.dpl_rules.specs.Places.{first_of, first_of_item, last_of_post}
use Rattle.dpl_rules.specs.Sights.{Scopes}
use Rattle.dpl_rules.specs.Expressions.{type_of, item_type, chain_type, posts_type, post_verdict, more_item_parts, more_expr_parts, expr_breaches, item_breaches, post_breaches, chain_breaches, posts_breaches, more_items_breaches, more_exprs_breaches}
use Rattle.dpl_rules.specs.Breaches.{least_from}
use Rattle.dpl_rules.specs.Deeds.{Deed, expr_deeds, item_deeds, links_deeds, posts_deeds, post_deeds, more_items_deeds, more_exprs_deeds}
use Rattle.dpl_types.proofs.Breaches.{least_from_append}
use Rattle.dpl_deeds.proofs.Steps.{added_then}
use Rattle.dpl_elaborator.specs.Forms.{link_verdict}

-- breaches that were told, and those that are left
told_then : (o p : Option Breach) (bs cs : List Breach) → p ≡ least_from o bs → least_from p cs ≡ least_from o (bs ++ cs)
told_then o p bs cs told = rw told (sym (least_from_append o bs cs))

module _ (scopes : Scopes) where
  pub links_step : (xs : List LinkNode) (k : ℕ) (x : LinkNode) → k < length xs → x ≡ get_or xs k x → (t u : Option ValueType) (o p : Option Breach) →
      (u ≡ type_by (link_verdict scopes t x)) × (p ≡ least_from o (expr_breaches scopes (expr_view x.right.now) ++ broken_by (link_verdict scopes t x))) →
      (chain_type scopes u (links_of (drop (k + 1) xs)) ≡ chain_type scopes t (links_of (drop k xs)))
      × (least_from p (chain_breaches scopes u (links_of (drop (k + 1) xs))) ≡ least_from o (chain_breaches scopes t (links_of (drop k xs))))
  links_step xs k x within is t u o p (type, told) =
      let v = link_verdict scopes t x in
      let left = links_of (drop (k + 1) xs) in
      rw (drop-at xs k x within is) (rw type (
        refl,
        told_then o p (expr_breaches scopes (expr_view x.right.now) ++ broken_by v) (chain_breaches scopes (type_by v) left) told,
      ))

  pub posts_step : (xs : List PostNode) (k : ℕ) (x : PostNode) → k < length xs → x ≡ get_or xs k x → (last next : Place) (t u : Option ValueType) (o p : Option Breach) →
      let q = post_view x in
      next ≡ last_of_post q →
      (u ≡ type_by (post_verdict scopes last q t)) × (p ≡ least_from o (post_breaches scopes q ++ broken_by (post_verdict scopes last q t))) →
      (posts_type scopes next u (posts_of (drop (k + 1) xs)) ≡ posts_type scopes last t (posts_of (drop k xs)))
      × (least_from p (posts_breaches scopes next u (posts_of (drop (k + 1) xs))) ≡ least_from o (posts_breaches scopes last t (posts_of (drop k xs))))
  posts_step xs k x within is last next t u o p ends (type, told) =
      let v = post_verdict scopes last (post_view x) t in
      let left = posts_of (drop (k + 1) xs) in
      rw (drop-at xs k x within is) (rw ends (rw type (
        refl,
        told_then o p (post_breaches scopes (post_view x) ++ broken_by v) (posts_breaches scopes (last_of_post (post_view x)) (type_by v) left) told,
      )))

  pub items_step : (xs : List NextItemNode) (k : ℕ) (x : NextItemNode) → k < length xs → x ≡ get_or xs k x → (ps : List PartNode) (q : PartNode) (o p : Option Breach) →
      let y = item_view x.item in
      (part_view q ≡ part (first_of_item y) (item_type scopes y)) × (p ≡ least_from o (item_breaches scopes y)) →
      (map part_view (ps ++ q ∷ []) ++ more_item_parts scopes (more_items_of (drop (k + 1) xs)) ≡ map part_view ps ++ more_item_parts scopes (more_items_of (drop k xs)))
      × (least_from p (more_items_breaches scopes (more_items_of (drop (k + 1) xs))) ≡ least_from o (more_items_breaches scopes (more_items_of (drop k xs))))
  items_step xs k x within is ps q o p (seen, told) =
      let left = more_items_of (drop (k + 1) xs) in
      rw (drop-at xs k x within is) (
        ap (λ qs. qs ++ more_item_parts scopes left) (map-append part_view ps (q ∷ []))
            ∙ append_assoc (map part_view ps) (part_view q ∷ []) (more_item_parts scopes left)
            ∙ ap (λ z. map part_view ps ++ z ∷ more_item_parts scopes left) seen,
        told_then o p (item_breaches scopes (item_view x.item)) (more_items_breaches scopes left) told,
      )

  pub exprs_step : (xs : List NextExprNode) (k : ℕ) (x : NextExprNode) → k < length xs → x ≡ get_or xs k x → (ps : List PartNode) (q : PartNode) (o p : Option Breach) →
      let y = expr_view x.expr.now in
      (part_view q ≡ part (first_of y) (type_of scopes y)) × (p ≡ least_from o (expr_breaches scopes y)) →
      (map part_view (ps ++ q ∷ []) ++ more_expr_parts scopes (more_exprs_of (drop (k + 1) xs)) ≡ map part_view ps ++ more_expr_parts scopes (more_exprs_of (drop k xs)))
      × (least_from p (more_exprs_breaches scopes (more_exprs_of (drop (k + 1) xs))) ≡ least_from o (more_exprs_breaches scopes (more_exprs_of (drop k xs))))
  exprs_step xs k x within is ps q o p (seen, told) =
      let left = more_exprs_of (drop (k + 1) xs) in
      rw (drop-at xs k x within is) (
        ap (λ qs. qs ++ more_expr_parts scopes left) (map-append part_view ps (q ∷ []))
            ∙ append_assoc (map part_view ps) (part_view q ∷ []) (more_expr_parts scopes left)
            ∙ ap (λ z. map part_view ps ++ z ∷ more_expr_parts scopes left) seen,
        told_then o p (expr_breaches scopes (expr_view x.expr.now)) (more_exprs_breaches scopes left) told,
      )

  -- ---- deeds that were put, and those of what is left
  pub links_done : (xs : List LinkNode) (k : ℕ) (x : LinkNode) → k < length xs → x ≡ get_or xs k x → (old new : List Deed) → new ≡ old ++ expr_deeds scopes (expr_view x.right.now)
      → new ++ links_deeds scopes (links_of (drop (k + 1) xs)) ≡ old ++ links_deeds scopes (links_of (drop k xs))
  links_done xs k x within is old new done =
      let left = links_deeds scopes (links_of (drop (k + 1) xs)) in
      rw (drop-at xs k x within is) (added_then old new (expr_deeds scopes (expr_view x.right.now)) left done)

  pub posts_done : (xs : List PostNode) (k : ℕ) (x : PostNode) → k < length xs → x ≡ get_or xs k x → (old new : List Deed) → new ≡ old ++ post_deeds scopes (post_view x)
      → new ++ posts_deeds scopes (posts_of (drop (k + 1) xs)) ≡ old ++ posts_deeds scopes (posts_of (drop k xs))
  posts_done xs k x within is old new done =
      let left = posts_deeds scopes (posts_of (drop (k + 1) xs)) in
      rw (drop-at xs k x within is) (added_then old new (post_deeds scopes (post_view x)) left done)

  pub items_done : (xs : List NextItemNode) (k : ℕ) (x : NextItemNode) → k < length xs → x ≡ get_or xs k x → (old new : List Deed) → new ≡ old ++ item_deeds scopes (item_view x.item)
      → new ++ more_items_deeds scopes (more_items_of (drop (k + 1) xs)) ≡ old ++ more_items_deeds scopes (more_items_of (drop k xs))
  items_done xs k x within is old new done =
      let left = more_items_deeds scopes (more_items_of (drop (k + 1) xs)) in
      rw (drop-at xs k x within is) (added_then old new (item_deeds scopes (item_view x.item)) left done)

  pub exprs_done : (xs : List NextExprNode) (k : ℕ) (x : NextExprNode) → k < length xs → x ≡ get_or xs k x → (old new : List Deed) → new ≡ old ++ expr_deeds scopes (expr_view x.expr.now)
      → new ++ more_exprs_deeds scopes (more_exprs_of (drop (k + 1) xs)) ≡ old ++ more_exprs_deeds scopes (more_exprs_of (drop k xs))
  exprs_done xs k x within is old new done =
      let left = more_exprs_deeds scopes (more_exprs_of (drop (k + 1) xs)) in
      rw (drop-at xs k x within is) (added_then old new (expr_deeds scopes (expr_view x.expr.now)) left done)
