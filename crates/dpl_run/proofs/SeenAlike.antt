-- What an expression's value hangs on: the values of names, the elements of arrays, and `here`.
-- Two environments that have these the same in two states, whatever else they keep, give each expression the same value.
use Rattle.std.proofs.Common.{◌≡◌, refl, ap, ◌∙◌, Ok, Some, None, Result, Option}
use Rattle.std.specs.Option.{option_or}
use mathlib.Core.Path.{fun_ext}
use Rattle.dpl_syntax.specs.declared.place.Place.{Place}
use Rattle.dpl_sets.specs.TextRanges.{TextRange}
use Rattle.dpl_language.specs.Tree.{Placed, ExprTree, Named, HereWord, Grouped, DomainLiteral, Prefixed, Reduced, Chain, Postfixed, ItemTree, One, RangeItem, Stride, NoStride, By, Links, NoLinks, Link, Posts, NoPosts, Post, PostTree, Brackets, Rounds, Dotted, MethodTree, Plainly, Dim, Contains, Expand, CellRead, Items, FirstItem, MoreItems, NoItems, NextItem, Exprs, FirstExpr, MoreExprs, NoExprs, NextExpr}
use Rattle.dpl_language.specs.Values.{Value, Array, Locale, Index, number, index_of, array_domain, Fault}
use Rattle.dpl_language.specs.Arithmetic.{infix_of, divides, tested_divisor, decides}
use Rattle.dpl_language.specs.Ranges.{bounded}
use Rattle.dpl_language.specs.Environment.{Environment, Limits}
use Rattle.dpl_language.specs.Phrases.{Base, BaseName, BaseLocales, OtherBase, base_of}
use Rattle.dpl_language.specs.Expressions.{found, reduction, unless_decided, whole_in, whole_item, whole_links, element_of, named, bracketed, value_of, chained, item_of, stridden, items_of, more_items, values_of, more_values, behind, post_of, answer_of, domain_of}
use Rattle.dpl_agreement.proofs.RunsAlike.{with_ok-same}

-- what is seen of two states by two environments is the same
pub record SeenAlike {N S1 S2 : Type 0} (first : Environment N S1) (second : Environment N S2) (s1 : S1) (s2 : S2) : Type 0 where
  pub gets : (x : N) → first.get x s1 ≡ second.get x s2
  pub elements : (x : N) (t : Index) → first.element x t s1 ≡ second.element x t s2
  pub heres : first.here s1 ≡ second.here s2

module _ {N S1 S2 : Type 0} (limits : Limits) (first : Environment N S1) (second : Environment N S2) (s1 : S1) (s2 : S2) (seen : SeenAlike first second s1 s2) where
  element_of-seen : (b : Base N) (t : Index) → element_of limits first b t s1 ≡ element_of limits second b t s2
  element_of-seen (BaseName x) t = ap (found x.at) (seen.elements x.name t)
  element_of-seen (BaseLocales at) t = refl
  element_of-seen OtherBase t = refl

  bracketed-seen : (b : Base N) (vs : _) (v : Value) → bracketed limits first b vs v s1 ≡ bracketed limits second b vs v s2
  bracketed-seen b vs (Array k rs) = element_of-seen b (index_of vs)
  bracketed-seen b vs _ = refl

  -- a name: its value, or its element at the index
  named_at-seen : (t : Option Index) (x : Placed N) (o : Option _) (v : Value) → named limits first t x o v s1 ≡ named limits second t x o v s2
  named_at-seen None x o v = refl
  named_at-seen (Some t) x None v = refl
  named_at-seen (Some t) x (Some rs) v = ap (found x.at) (seen.elements x.name t)

  named-seen : (t : Option Index) (x : Placed N) → value_of limits first (Named x) t s1 ≡ value_of limits second (Named x) t s2
  named-seen t x =
      named_at-seen t x (array_domain (first.get x.name s1)) (first.get x.name s1)
      ∙ ap (λ v. named limits second t x (array_domain v) v s2) (seen.gets x.name)

  -- the domain of the first whole array
  mutual
    whole_in-seen : (e : ExprTree N) → whole_in limits first e s1 ≡ whole_in limits second e s2
    whole_in-seen (Named x) = ap array_domain (seen.gets x.name)
    whole_in-seen (Grouped from item upto) = whole_item-seen item
    whole_in-seen (Prefixed at op e) = whole_in-seen e
    whole_in-seen (Chain e rest) =
        ap (λ o. option_or o (whole_links limits first rest s1)) (whole_in-seen e) ∙ ap (option_or (whole_in limits second e s2)) (whole_links-seen rest)
    whole_in-seen _ = refl

    pub whole_item-seen : (i : ItemTree N) → whole_item limits first i s1 ≡ whole_item limits second i s2
    whole_item-seen (One e) = whole_in-seen e
    whole_item-seen (RangeItem low at dots high by) = refl

    whole_links-seen : (l : Links N) → whole_links limits first l s1 ≡ whole_links limits second l s2
    whole_links-seen NoLinks = refl
    whole_links-seen (Link at op e rest) =
        ap (λ o. option_or o (whole_links limits first rest s1)) (whole_in-seen e) ∙ ap (option_or (whole_in limits second e s2)) (whole_links-seen rest)

  mutual
    pub value_of-seen : (e : ExprTree N) (t : Option Index) → value_of limits first e t s1 ≡ value_of limits second e t s2
    value_of-seen (Named x) t = named-seen t x
    value_of-seen (HereWord at) t = ap (λ k. Ok (Locale k)) seen.heres
    value_of-seen (Grouped from item upto) t = item_of-seen item t
    value_of-seen (DomainLiteral from items upto) t = with_ok-same _ _ _ _ (items_of-seen items) (λ vs. refl)
    value_of-seen (Prefixed at op e) t = with_ok-same _ _ _ _ (value_of-seen e t) (λ v. refl)
    value_of-seen (Reduced at op word e) t =
        ap (λ value. reduction limits.budget word op value (whole_in limits first e s1)) (fun_ext (λ i. value_of-seen e (Some i)))
        ∙ ap (reduction limits.budget word op (λ i. value_of limits second e (Some i) s2)) (whole_in-seen e)
    value_of-seen (Chain e rest) t = with_ok-same _ _ _ _ (value_of-seen e t) (λ v. chained-seen rest t v)
    value_of-seen (Postfixed e posts) t = with_ok-same _ _ _ _ (value_of-seen e None) (λ v. behind-seen posts (base_of e) v)
    value_of-seen _ t = refl

    chained-seen : (l : Links N) (t : Option Index) (v : Value) → chained limits first l t s1 v ≡ chained limits second l t s2 v
    chained-seen NoLinks t v = refl
    chained-seen (Link at op e rest) t v =
        ap (unless_decided (decides op v) v)
        (with_ok-same _ _ _ _ (value_of-seen e t) (λ w. with_ok-same (tested_divisor (divides op) at w) _ _ _ refl (λ w. chained-seen rest t (infix_of op v w))))

    pub item_of-seen : (i : ItemTree N) (t : Option Index) → item_of limits first i t s1 ≡ item_of limits second i t s2
    item_of-seen (One e) t = value_of-seen e t
    item_of-seen (RangeItem low at dots high by) t =
        with_ok-same _ _ _ _ (value_of-seen low None)
        (λ l. with_ok-same _ _ _ _ (value_of-seen high None) (λ h. stridden-seen by (bounded at dots (number l) (number h))))

    stridden-seen : (by : Stride N) (range : Result TextRange Fault) → stridden limits first by range s1 ≡ stridden limits second by range s2
    stridden-seen NoStride range = refl
    stridden-seen (By at e) range = with_ok-same _ _ _ _ (value_of-seen e None) (λ v. refl)

    pub items_of-seen : (is : Items N) → items_of limits first is s1 ≡ items_of limits second is s2
    items_of-seen (FirstItem i more) = with_ok-same _ _ _ _ (item_of-seen i None) (λ v. with_ok-same _ _ _ _ (more_items-seen more) (λ vs. refl))

    more_items-seen : (is : MoreItems N) → more_items limits first is s1 ≡ more_items limits second is s2
    more_items-seen NoItems = refl
    more_items-seen (NextItem comma i more) = with_ok-same _ _ _ _ (item_of-seen i None) (λ v. with_ok-same _ _ _ _ (more_items-seen more) (λ vs. refl))

    pub values_of-seen : (es : Exprs N) → values_of limits first es s1 ≡ values_of limits second es s2
    values_of-seen (FirstExpr e more) = with_ok-same _ _ _ _ (value_of-seen e None) (λ v. with_ok-same _ _ _ _ (more_values-seen more) (λ vs. refl))

    more_values-seen : (es : MoreExprs N) → more_values limits first es s1 ≡ more_values limits second es s2
    more_values-seen NoExprs = refl
    more_values-seen (NextExpr comma e more) = with_ok-same _ _ _ _ (value_of-seen e None) (λ v. with_ok-same _ _ _ _ (more_values-seen more) (λ vs. refl))

    behind-seen : (ps : Posts N) (b : Base N) (v : Value) → behind limits first ps b s1 v ≡ behind limits second ps b s2 v
    behind-seen NoPosts b v = refl
    behind-seen (Post p rest) b v = with_ok-same _ _ _ _ (post_of-seen p b v) (λ w. behind-seen rest OtherBase w)

    post_of-seen : (p : PostTree N) (b : Base N) (v : Value) → post_of limits first p b s1 v ≡ post_of limits second p b s2 v
    post_of-seen (Brackets from items upto) b v = with_ok-same _ _ _ _ (items_of-seen items) (λ vs. bracketed-seen b vs v)
    post_of-seen (Rounds from es upto) b v = with_ok-same _ _ _ _ (values_of-seen es) (λ vs. element_of-seen b (index_of vs))
    post_of-seen (Dotted dot m) b v = answer_of-seen m v

    answer_of-seen : (m : MethodTree N) (v : Value) → answer_of limits first m s1 v ≡ answer_of limits second m s2 v
    answer_of-seen (Plainly at w) v = refl
    answer_of-seen (Dim at from rank_at d upto) v = refl
    answer_of-seen (Contains at from es upto) v = with_ok-same _ _ _ _ (values_of-seen es) (λ vs. refl)
    answer_of-seen (Expand at from e upto) v = with_ok-same _ _ _ _ (value_of-seen e None) (λ k. refl)
    answer_of-seen (CellRead at w from upto) v = refl

  -- the domain of a declaration's ranges
  pub domain_of-seen : (from : Place) (items : Items N) → domain_of limits first from items s1 ≡ domain_of limits second from items s2
  domain_of-seen from items = with_ok-same _ _ _ _ (items_of-seen items) (λ vs. refl)
