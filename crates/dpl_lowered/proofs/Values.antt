-- A lowered expression has the value of the expression that it comes from, in every environment that is as is known.
-- One lemma for each kind of tree, evaluated once or at an index.
use Rattle.std.proofs.Common.{◌≡◌, refl, ap, ◌∙◌, Some, None, Result, Option}
use Rattle.std.specs.Prelude.{◌&&◌}
use Rattle.std.specs.Option.{option_or}
use mathlib.Core.Path.{fun_ext}
use Rattle.dpl_syntax.specs.declared.place.Place.{Place}
use Rattle.dpl_sets.specs.TextRanges.{TextRange}
use Rattle.dpl_language.specs.Tree.{Placed, Dots, Closed, HalfOpen, Counted, Word, Size, ExprTree, Named, Grouped, DomainLiteral, Prefixed, Reduced, Chain, Postfixed, ItemTree, One, RangeItem, Stride, NoStride, By, Links, NoLinks, Link, Posts, NoPosts, Post, PostTree, Brackets, Rounds, Dotted, MethodTree, Plainly, Dim, Contains, Expand, CellRead, Items, FirstItem, MoreItems, NoItems, NextItem, Exprs, FirstExpr, MoreExprs, NoExprs, NextExpr}
use Rattle.dpl_language.specs.Values.{Value, Index, number, array_domain, Fault}
use Rattle.dpl_language.specs.Arithmetic.{infix_of, divides, decides}
use Rattle.dpl_language.specs.Ranges.{bounded, method_of}
use Rattle.dpl_language.specs.Environment.{Environment, Limits}
use Rattle.dpl_language.specs.Phrases.{Base, OtherBase, base_of}
use Rattle.dpl_language.specs.Expressions.{reduction, unless_decided, whole_in, whole_item, whole_links, named, value_of, chained, item_of, stridden, items_of, more_items, values_of, more_values, behind, post_of, answer_of}
use Rattle.dpl_agreement.proofs.RunsAlike.{with_ok-same, with_ok-same_by}
use Rattle.dpl_lowered.specs.Known.{Known, may_be_array, IsKnown}
use Rattle.dpl_lowered.specs.Shapes.{kept, placed}
use Rattle.dpl_lowered.specs.LoweredExpressions.{Times, Once, EachTurn, each_turn, unplaced_dots, is_end, based, lowered_expr, lowered_item, lowered_stride, lowered_links, lowered_posts, lowered_post, lowered_method, lowered_items, lowered_more_items, lowered_exprs, lowered_more_exprs}
use Rattle.dpl_lowered.proofs.Nests.{kept-enough, as_expr-value, as_expr-whole, as_item-value, as_item-whole, nested-value, nested-whole, stacked-value, stacked-whole}
use Rattle.dpl_lowered.proofs.Bases.{no-array, named-placed, Serves, ServesFirst, other-serves, based-value, first-serves}

-- what is evaluated once is not evaluated at an index
abbrev pub Allows : Times → Option Index → Type 0
Allows Once None = Unit {0}
Allows Once (Some t) = ⊥
Allows EachTurn t = Unit {0}

-- the dots' own place is not looked at
bounded-unplaced : (at : Place) (dots : Dots) (l h : _) → bounded at (unplaced_dots dots) l h ≡ bounded at dots l h
bounded-unplaced at Closed l h = refl
bounded-unplaced at HalfOpen l h = refl
bounded-unplaced at (Counted count) l h = refl

-- the ends alone tell where they are asked for
method_of-kept : (w : Word) (at : Place) (v : Value) → method_of w (kept (is_end w) at) v ≡ method_of w at v
method_of-kept Size at v = refl
method_of-kept _ at v = refl

module _ {N S : Type 0} (limits : Limits) (env : Environment N S) (known : N → Known) (is : IsKnown known env) where
  named-lowered : (m : Times) (t : Option Index) (x : Placed N) (s : S) → Allows m t
      → named limits env t (placed (each_turn m && may_be_array (known x.name)) x) (array_domain (env.get x.name s)) (env.get x.name s) s ≡ named limits env t x (array_domain (env.get x.name s)) (env.get x.name s) s
  named-lowered m None x s a = refl
  named-lowered Once (Some t) x s a = absurd a
  named-lowered EachTurn (Some t) x s a =
      named-placed limits env (may_be_array (known x.name)) t x (array_domain (env.get x.name s)) (env.get x.name s) s (λ e. no-array (known x.name) (env.get x.name s) e (is x.name s))

  -- THE DOMAIN OF THE FIRST WHOLE ARRAY
  mutual
    pub whole_in-lowered : (m : Times) (e : ExprTree N) (s : S) → whole_in limits env (lowered_expr known m e) s ≡ whole_in limits env e s
    whole_in-lowered m (Grouped from item upto) s = as_expr-whole limits env (lowered_item known m item) s ∙ whole_item-lowered m item s
    whole_in-lowered m (Prefixed at op e) s = whole_in-lowered m e s
    whole_in-lowered m (Chain e rest) s =
        nested-whole limits env (lowered_expr known m e) (lowered_links known m rest) s
        ∙ ap (λ o. option_or o (whole_links limits env (lowered_links known m rest) s)) (whole_in-lowered m e s)
        ∙ ap (option_or (whole_in limits env e s)) (whole_links-lowered m rest s)
    whole_in-lowered m (Postfixed e posts) s = stacked-whole limits env (based known posts e (lowered_expr known Once e)) (lowered_posts known (base_of e) posts) s
    whole_in-lowered m _ s = refl

    pub whole_item-lowered : (m : Times) (i : ItemTree N) (s : S) → whole_item limits env (lowered_item known m i) s ≡ whole_item limits env i s
    whole_item-lowered m (One e) s = as_item-whole limits env (lowered_expr known m e) s ∙ whole_in-lowered m e s
    whole_item-lowered m (RangeItem low at dots high by) s = refl

    whole_links-lowered : (m : Times) (l : Links N) (s : S) → whole_links limits env (lowered_links known m l) s ≡ whole_links limits env l s
    whole_links-lowered m NoLinks s = refl
    whole_links-lowered m (Link at op e rest) s =
        ap (λ o. option_or o (whole_links limits env (lowered_links known m rest) s)) (whole_in-lowered m e s)
        ∙ ap (option_or (whole_in limits env e s)) (whole_links-lowered m rest s)

  -- VALUES
  mutual
    pub value_of-lowered : (m : Times) (e : ExprTree N) (t : Option Index) (s : S) → Allows m t → value_of limits env (lowered_expr known m e) t s ≡ value_of limits env e t s
    value_of-lowered m (Named x) t s a = named-lowered m t x s a
    value_of-lowered m (Grouped from item upto) t s a = as_expr-value limits env (lowered_item known m item) t s ∙ item_of-lowered m item t s a
    value_of-lowered m (DomainLiteral from items upto) t s a = with_ok-same _ _ _ _ (items_of-lowered items s) (λ vs. refl)
    value_of-lowered m (Prefixed at op e) t s a = with_ok-same _ _ _ _ (value_of-lowered m e t s a) (λ v. refl)
    value_of-lowered m (Reduced at op word e) t s a =
        ap (λ value. reduction limits.budget word op value (whole_in limits env (lowered_expr known EachTurn e) s)) (fun_ext (λ i. value_of-lowered EachTurn e (Some i) s tt))
        ∙ ap (reduction limits.budget word op (λ i. value_of limits env e (Some i) s)) (whole_in-lowered EachTurn e s)
    value_of-lowered m (Chain e rest) t s a =
        nested-value limits env (lowered_expr known m e) (lowered_links known m rest) t s
        ∙ with_ok-same _ _ _ _ (value_of-lowered m e t s a) (λ v. chained-lowered m rest t s a v)
    value_of-lowered m (Postfixed e posts) t s a =
        stacked-value limits env (based known posts e (lowered_expr known Once e)) (lowered_posts known (base_of e) posts) t s
        ∙ with_ok-same_by _ _ _ _ (based-value limits env known posts e s (value_of-lowered Once e None s tt))
        (λ v p. behind-lowered posts (base_of e) (base_of (based known posts e (lowered_expr known Once e))) s v (first-serves limits env known is posts e v s p))
    value_of-lowered m _ t s a = refl

    chained-lowered : (m : Times) (l : Links N) (t : Option Index) (s : S) → Allows m t → (v : Value) → chained limits env (lowered_links known m l) t s v ≡ chained limits env l t s v
    chained-lowered m NoLinks t s a v = refl
    chained-lowered m (Link at op e rest) t s a v =
        ap (unless_decided (decides op v) v)
        (with_ok-same _ _ _ _ (value_of-lowered m e t s a)
        (λ w. with_ok-same _ _ _ _ (kept-enough (divides op) at w) (λ w. chained-lowered m rest t s a (infix_of op v w))))

    pub item_of-lowered : (m : Times) (i : ItemTree N) (t : Option Index) (s : S) → Allows m t → item_of limits env (lowered_item known m i) t s ≡ item_of limits env i t s
    item_of-lowered m (One e) t s a = as_item-value limits env (lowered_expr known m e) t s ∙ value_of-lowered m e t s a
    item_of-lowered m (RangeItem low at dots high by) t s a =
        with_ok-same _ _ _ _ (value_of-lowered Once low None s tt)
        (λ l. with_ok-same _ _ _ _ (value_of-lowered Once high None s tt)
        (λ h. ap (λ r. stridden limits env (lowered_stride known by) r s) (bounded-unplaced at dots (number l) (number h))
        ∙ stridden-lowered by (bounded at dots (number l) (number h)) s))

    stridden-lowered : (by : Stride N) (range : Result TextRange Fault) (s : S) → stridden limits env (lowered_stride known by) range s ≡ stridden limits env by range s
    stridden-lowered NoStride range s = refl
    stridden-lowered (By at e) range s = with_ok-same _ _ _ _ (value_of-lowered Once e None s tt) (λ v. refl)

    pub items_of-lowered : (is : Items N) (s : S) → items_of limits env (lowered_items known is) s ≡ items_of limits env is s
    items_of-lowered (FirstItem i more) s =
        with_ok-same _ _ _ _ (item_of-lowered Once i None s tt) (λ v. with_ok-same _ _ _ _ (more_items-lowered more s) (λ vs. refl))

    pub more_items-lowered : (is : MoreItems N) (s : S) → more_items limits env (lowered_more_items known is) s ≡ more_items limits env is s
    more_items-lowered NoItems s = refl
    more_items-lowered (NextItem comma i more) s =
        with_ok-same _ _ _ _ (item_of-lowered Once i None s tt) (λ v. with_ok-same _ _ _ _ (more_items-lowered more s) (λ vs. refl))

    pub values_of-lowered : (es : Exprs N) (s : S) → values_of limits env (lowered_exprs known es) s ≡ values_of limits env es s
    values_of-lowered (FirstExpr e more) s =
        with_ok-same _ _ _ _ (value_of-lowered Once e None s tt) (λ v. with_ok-same _ _ _ _ (more_values-lowered more s) (λ vs. refl))

    more_values-lowered : (es : MoreExprs N) (s : S) → more_values limits env (lowered_more_exprs known es) s ≡ more_values limits env es s
    more_values-lowered NoExprs s = refl
    more_values-lowered (NextExpr comma e more) s =
        with_ok-same _ _ _ _ (value_of-lowered Once e None s tt) (λ v. with_ok-same _ _ _ _ (more_values-lowered more s) (λ vs. refl))

    behind-lowered : (ps : Posts N) (b c : Base N) (s : S) (v : Value) → ServesFirst limits env known ps b c v s → behind limits env (lowered_posts known b ps) c s v ≡ behind limits env ps b s v
    behind-lowered NoPosts b c s v serves = refl
    behind-lowered (Post p rest) b c s v serves =
        with_ok-same _ _ _ _ (post_of-lowered p b c s v serves) (λ w. behind-lowered rest OtherBase OtherBase s w (other-serves limits env known rest w s))

    post_of-lowered : (p : PostTree N) (b c : Base N) (s : S) (v : Value) → Serves limits env known p b c v s → post_of limits env (lowered_post known b p) c s v ≡ post_of limits env p b s v
    post_of-lowered (Brackets from items upto) b c s v serves = with_ok-same _ _ _ _ (items_of-lowered items s) serves
    post_of-lowered (Rounds from es upto) b c s v serves = serves (lowered_exprs known es) ∙ with_ok-same _ _ _ _ (values_of-lowered es s) (λ vs. refl)
    post_of-lowered (Dotted dot m) b c s v serves = answer_of-lowered m s v

    answer_of-lowered : (m : MethodTree N) (s : S) (v : Value) → answer_of limits env (lowered_method known m) s v ≡ answer_of limits env m s v
    answer_of-lowered (Plainly at w) s v = method_of-kept w at v
    answer_of-lowered (Dim at from rank_at d upto) s v = refl
    answer_of-lowered (Contains at from es upto) s v = with_ok-same _ _ _ _ (values_of-lowered es s) (λ vs. refl)
    answer_of-lowered (Expand at from e upto) s v = with_ok-same _ _ _ _ (value_of-lowered Once e None s tt) (λ k. refl)
    answer_of-lowered (CellRead at w from upto) s v = refl
