-- Expressions have the same values in environments that agree, where their names fit.
-- One lemma for each kind of tree, evaluated once or at an index.
use Rattle.std.proofs.Common.{◌≡◌, ℕ, List, [], ◌∷◌, refl, ap, ◌∙◌, Ok, Err, Some, None, Result, Option, nat_lt}
use Rattle.std.specs.Prelude.{if◌then◌else◌}
use Rattle.std.specs.Option.{option_or}
use Rattle.dpl_syntax.specs.declared.place.Place.{Place}
use Rattle.dpl_sets.specs.TextRanges.{TextRange}
use Rattle.dpl_language.specs.Tree.{Placed, Op, ExprTree, Named, HereWord, Grouped, DomainLiteral, Prefixed, Reduced, Chain, Postfixed, ItemTree, One, RangeItem, Stride, NoStride, By, Links, NoLinks, Link, Posts, NoPosts, Post, PostTree, Brackets, Rounds, Dotted, MethodTree, Plainly, Dim, Contains, Expand, CellRead, Items, FirstItem, MoreItems, NoItems, NextItem, Exprs, FirstExpr, MoreExprs, NoExprs, NextExpr}
use Rattle.dpl_language.specs.Values.{Value, Array, Locale, AllLocales, Index, number, index_of, array_domain, Fault, fault, Budget}
use Rattle.dpl_language.specs.Arithmetic.{infix_of, divides, tested_divisor, decides, combined, unit_of}
use Rattle.dpl_language.specs.Ranges.{indices_in, size_in, bounded, leading}
use Rattle.dpl_language.specs.Outcome.{naming_value}
use Rattle.dpl_language.specs.Environment.{Environment, Limits}
use Rattle.dpl_language.specs.Phrases.{Base, BaseName, BaseLocales, OtherBase, base_of}
use Rattle.dpl_language.specs.Expressions.{found, locale_of, folded, reduction, unless_decided, whole_in, whole_item, whole_links, element_of, named, bracketed, value_of, chained, item_of, stridden, items_of, more_items, values_of, more_values, behind, post_of, answer_of, domain_of}
use Rattle.dpl_agreement.specs.Renamed.{renamed, renamed_expr, renamed_item, renamed_stride, renamed_links, renamed_posts, renamed_post, renamed_method, renamed_items, renamed_more_items, renamed_exprs, renamed_more_exprs, renamed_base}
use Rattle.dpl_agreement.specs.Scopes.{Scoping, more_items_in, items_in, fits_name, fits_element, fits_expr, fits_item, fits_stride, fits_links, fits_posts, fits_post, fits_method, fits_items, fits_more_items, fits_exprs, fits_more_exprs}
use Rattle.dpl_agreement.specs.Agreement.{Simulates}
use Rattle.dpl_agreement.proofs.RunsAlike.{with_ok-same, with_ok-same_by}
use Rattle.dpl_agreement.proofs.RenamedParts.{base_of-renamed}

folded-same : (op : Op) (a b : Index → Result Value Fault) (ts : List Index) (so_far : Value) → ((t : Index) → a t ≡ b t) → folded op a ts so_far ≡ folded op b ts so_far
folded-same op a b [] so_far p = refl
folded-same op a b (t ∷ ts) so_far p = with_ok-same (a t) (b t) _ _ (p t) (λ v. folded-same op a b ts (combined op so_far v) p)

reduction-same : (budget : ℕ) (at : Place) (op : Op) (a b : Index → Result Value Fault) (c d : Option (List TextRange)) → c ≡ d → ((t : Index) → a t ≡ b t)
    → reduction budget at op a c ≡ reduction budget at op b d
reduction-same budget at op a b None d e p = ap (reduction budget at op b) e
reduction-same budget at op a b (Some rs) d e p =
    ap (λ (r : Result Value Fault). if nat_lt budget (size_in rs) then Err (fault Budget at) else r)
    (folded-same op (λ t. naming_value t (a t)) (λ t. naming_value t (b t)) (indices_in rs) (unit_of op) (λ t. ap (naming_value t) (p t)))
    ∙ ap (reduction budget at op b) e

locale_of-renamed : {M N : Type 0} (name : N → M) (locales : ℕ) (b : Base N) (k : _) → locale_of locales (renamed_base name b) k ≡ locale_of locales b k
locale_of-renamed name locales (BaseName x) k = refl
locale_of-renamed name locales (BaseLocales at) k = refl
locale_of-renamed name locales OtherBase k = refl

-- the items of expressions between round brackets have their values
module _ {N S : Type 0} (limits : Limits) (env : Environment N S) where
  more_items-in : (es : MoreExprs N) (s : S) → more_items limits env (more_items_in es) s ≡ more_values limits env es s
  more_items-in NoExprs s = refl
  more_items-in (NextExpr comma e more) s =
      with_ok-same (value_of limits env e None s) _ _ _ refl (λ v. with_ok-same _ _ _ _ (more_items-in more s) (λ vs. refl))

  pub items_of-in : (es : Exprs N) (s : S) → items_of limits env (items_in es) s ≡ values_of limits env es s
  items_of-in (FirstExpr e more) s =
      with_ok-same (value_of limits env e None s) _ _ _ refl (λ v. with_ok-same _ _ _ _ (more_items-in more s) (λ vs. refl))

-- what may be evaluated at each index may be evaluated once
module _ {N G : Type 0} (scoping : Scoping N G) where
  pub fits_name-reads : (t : Option Index) (x : N) (g : G) → fits_name scoping t x g → scoping.reads x g
  fits_name-reads None x g f = f
  fits_name-reads (Some t) x g f = f.0

  mutual
    pub fits_expr-once : (t : Index) (e : ExprTree N) (g : G) → fits_expr scoping (Some t) e g → fits_expr scoping None e g
    fits_expr-once t (Named x) g f = f.0
    fits_expr-once t (Grouped from item upto) g f = fits_item-once t item g f
    fits_expr-once t (DomainLiteral from items upto) g f = f
    fits_expr-once t (Prefixed at op e) g f = fits_expr-once t e g f
    fits_expr-once t (Reduced at op word e) g f = f
    fits_expr-once t (Chain e rest) g f = (fits_expr-once t e g f.0, fits_links-once t rest g f.1)
    fits_expr-once t (Postfixed e posts) g f = f
    fits_expr-once t _ g f = tt

    pub fits_item-once : (t : Index) (i : ItemTree N) (g : G) → fits_item scoping (Some t) i g → fits_item scoping None i g
    fits_item-once t (One e) g f = fits_expr-once t e g f
    fits_item-once t (RangeItem low at dots high by) g f = f

    fits_links-once : (t : Index) (l : Links N) (g : G) → fits_links scoping (Some t) l g → fits_links scoping None l g
    fits_links-once t NoLinks g f = tt
    fits_links-once t (Link at op e rest) g f = (fits_expr-once t e g f.0, fits_links-once t rest g f.1)

module _ {M N G S1 S2 : Type 0} (limits : Limits) (name : N → M) (scoping : Scoping N G) (first : Environment M S1) (second : Environment N S2) (R : G → S1 → S2 → Type 0) (sim : Simulates limits name scoping first second R) where
  -- the element that items give
  element_of-same : (b : Base N) (items : Items N) (vs : List Value) (g : G) (s1 : S1) (s2 : S2) → R g s1 s2 → fits_element scoping b items g → items_of limits second items s2 ≡ Ok vs
      → element_of limits first (renamed_base name b) (index_of vs) s1 ≡ element_of limits second b (index_of vs) s2
  element_of-same (BaseName x) items vs g s1 s2 r f e = ap (found x.at) (sim.elements x.name items vs g s1 s2 r f e)
  element_of-same (BaseLocales at) items vs g s1 s2 r f e = refl
  element_of-same OtherBase items vs g s1 s2 r f e = refl

  bracketed-same : (b : Base N) (items : Items N) (vs : List Value) (v : Value) (g : G) (s1 : S1) (s2 : S2) → R g s1 s2 → fits_element scoping b items g → items_of limits second items s2 ≡ Ok vs
      → bracketed limits first (renamed_base name b) vs v s1 ≡ bracketed limits second b vs v s2
  bracketed-same b items vs (Array k rs) g s1 s2 r f e = element_of-same b items vs g s1 s2 r f e
  bracketed-same b items vs AllLocales g s1 s2 r f e = locale_of-renamed name limits.locales b (leading (index_of vs))
  bracketed-same b items vs _ g s1 s2 r f e = refl

  -- a name: its value, or its element at the index
  named_at-same : (t : Option Index) (x : Placed N) (o : Option (List TextRange)) (v : Value) (g : G) (s1 : S1) (s2 : S2) → R g s1 s2 → fits_name scoping t x.name g
      → named limits first t (renamed name x) o v s1 ≡ named limits second t x o v s2
  named_at-same None x o v g s1 s2 r f = refl
  named_at-same (Some t) x None v g s1 s2 r f = refl
  named_at-same (Some t) x (Some rs) v g s1 s2 r f = ap (found x.at) (sim.elements_at x.name t g s1 s2 r f.1)

  named-same : (t : Option Index) (x : Placed N) (v w : Value) (g : G) (s1 : S1) (s2 : S2) → R g s1 s2 → fits_name scoping t x.name g → v ≡ w
      → named limits first t (renamed name x) (array_domain v) v s1 ≡ named limits second t x (array_domain w) w s2
  named-same t x v w g s1 s2 r f e = named_at-same t x (array_domain v) v g s1 s2 r f ∙ ap (λ v. named limits second t x (array_domain v) v s2) e

  -- the domain of the first whole array
  mutual
    pub whole_in-renamed : (e : ExprTree N) (m : Option Index) (g : G) (s1 : S1) (s2 : S2) → R g s1 s2 → fits_expr scoping m e g → whole_in limits first (renamed_expr name e) s1 ≡ whole_in limits second e s2
    whole_in-renamed (Named x) m g s1 s2 r f = ap array_domain (sim.gets x.name g s1 s2 r (fits_name-reads scoping m x.name g f))
    whole_in-renamed (Grouped from item upto) m g s1 s2 r f = whole_item-renamed item m g s1 s2 r f
    whole_in-renamed (Prefixed at op e) m g s1 s2 r f = whole_in-renamed e m g s1 s2 r f
    whole_in-renamed (Chain e rest) m g s1 s2 r f =
        ap (λ o. option_or o (whole_links limits first (renamed_links name rest) s1)) (whole_in-renamed e m g s1 s2 r f.0)
        ∙ ap (option_or (whole_in limits second e s2)) (whole_links-renamed rest m g s1 s2 r f.1)
    whole_in-renamed _ m g s1 s2 r f = refl

    pub whole_item-renamed : (i : ItemTree N) (m : Option Index) (g : G) (s1 : S1) (s2 : S2) → R g s1 s2 → fits_item scoping m i g → whole_item limits first (renamed_item name i) s1 ≡ whole_item limits second i s2
    whole_item-renamed (One e) m g s1 s2 r f = whole_in-renamed e m g s1 s2 r f
    whole_item-renamed (RangeItem low at dots high by) m g s1 s2 r f = refl

    whole_links-renamed : (l : Links N) (m : Option Index) (g : G) (s1 : S1) (s2 : S2) → R g s1 s2 → fits_links scoping m l g → whole_links limits first (renamed_links name l) s1 ≡ whole_links limits second l s2
    whole_links-renamed NoLinks m g s1 s2 r f = refl
    whole_links-renamed (Link at op e rest) m g s1 s2 r f =
        ap (λ o. option_or o (whole_links limits first (renamed_links name rest) s1)) (whole_in-renamed e m g s1 s2 r f.0)
        ∙ ap (option_or (whole_in limits second e s2)) (whole_links-renamed rest m g s1 s2 r f.1)

  mutual
    pub value_of-renamed : (e : ExprTree N) (t : Option Index) (g : G) (s1 : S1) (s2 : S2) → R g s1 s2 → fits_expr scoping t e g → value_of limits first (renamed_expr name e) t s1 ≡ value_of limits second e t s2
    value_of-renamed (Named x) t g s1 s2 r f = named-same t x _ _ g s1 s2 r f (sim.gets x.name g s1 s2 r (fits_name-reads scoping t x.name g f))
    value_of-renamed (HereWord at) t g s1 s2 r f = ap (λ k. Ok (Locale k)) (sim.heres g s1 s2 r)
    value_of-renamed (Grouped from item upto) t g s1 s2 r f = item_of-renamed item t g s1 s2 r f
    value_of-renamed (DomainLiteral from items upto) t g s1 s2 r f = with_ok-same _ _ _ _ (items_of-renamed items g s1 s2 r f) (λ vs. refl)
    value_of-renamed (Prefixed at op e) t g s1 s2 r f = with_ok-same _ _ _ _ (value_of-renamed e t g s1 s2 r f) (λ v. refl)
    value_of-renamed (Reduced at op word e) t g s1 s2 r f =
        reduction-same limits.budget word op _ _ _ _ (whole_in-renamed e (Some []) g s1 s2 r (f [])) (λ i. value_of-renamed e (Some i) g s1 s2 r (f i))
    value_of-renamed (Chain e rest) t g s1 s2 r f = with_ok-same _ _ _ _ (value_of-renamed e t g s1 s2 r f.0) (λ v. chained-renamed rest t g s1 s2 r f.1 v)
    value_of-renamed (Postfixed e posts) t g s1 s2 r f =
        with_ok-same _ _ _ _ (value_of-renamed e None g s1 s2 r f.0)
        (λ v. ap (λ b. behind limits first (renamed_posts name posts) b s1 v) (base_of-renamed name e) ∙ behind-renamed posts (base_of e) g s1 s2 r f.1 v)
    value_of-renamed _ t g s1 s2 r f = refl

    chained-renamed : (l : Links N) (t : Option Index) (g : G) (s1 : S1) (s2 : S2) → R g s1 s2 → fits_links scoping t l g → (v : Value) → chained limits first (renamed_links name l) t s1 v ≡ chained limits second l t s2 v
    chained-renamed NoLinks t g s1 s2 r f v = refl
    chained-renamed (Link at op e rest) t g s1 s2 r f v =
        ap (unless_decided (decides op v) v)
        (with_ok-same _ _ _ _ (value_of-renamed e t g s1 s2 r f.0)
        (λ w. with_ok-same (tested_divisor (divides op) at w) _ _ _ refl (λ w. chained-renamed rest t g s1 s2 r f.1 (infix_of op v w))))

    pub item_of-renamed : (i : ItemTree N) (t : Option Index) (g : G) (s1 : S1) (s2 : S2) → R g s1 s2 → fits_item scoping t i g → item_of limits first (renamed_item name i) t s1 ≡ item_of limits second i t s2
    item_of-renamed (One e) t g s1 s2 r f = value_of-renamed e t g s1 s2 r f
    item_of-renamed (RangeItem low at dots high by) t g s1 s2 r f =
        with_ok-same _ _ _ _ (value_of-renamed low None g s1 s2 r f.0)
        (λ l. with_ok-same _ _ _ _ (value_of-renamed high None g s1 s2 r f.1)
        (λ h. stridden-renamed by (bounded at dots (number l) (number h)) g s1 s2 r f.2))

    stridden-renamed : (by : Stride N) (range : Result TextRange Fault) (g : G) (s1 : S1) (s2 : S2) → R g s1 s2 → fits_stride scoping by g → stridden limits first (renamed_stride name by) range s1 ≡ stridden limits second by range s2
    stridden-renamed NoStride range g s1 s2 r f = refl
    stridden-renamed (By at e) range g s1 s2 r f = with_ok-same _ _ _ _ (value_of-renamed e None g s1 s2 r f) (λ v. refl)

    pub items_of-renamed : (is : Items N) (g : G) (s1 : S1) (s2 : S2) → R g s1 s2 → fits_items scoping is g → items_of limits first (renamed_items name is) s1 ≡ items_of limits second is s2
    items_of-renamed (FirstItem i more) g s1 s2 r f =
        with_ok-same _ _ _ _ (item_of-renamed i None g s1 s2 r f.0) (λ v. with_ok-same _ _ _ _ (more_items-renamed more g s1 s2 r f.1) (λ vs. refl))

    more_items-renamed : (is : MoreItems N) (g : G) (s1 : S1) (s2 : S2) → R g s1 s2 → fits_more_items scoping is g → more_items limits first (renamed_more_items name is) s1 ≡ more_items limits second is s2
    more_items-renamed NoItems g s1 s2 r f = refl
    more_items-renamed (NextItem comma i more) g s1 s2 r f =
        with_ok-same _ _ _ _ (item_of-renamed i None g s1 s2 r f.0) (λ v. with_ok-same _ _ _ _ (more_items-renamed more g s1 s2 r f.1) (λ vs. refl))

    pub values_of-renamed : (es : Exprs N) (g : G) (s1 : S1) (s2 : S2) → R g s1 s2 → fits_exprs scoping es g → values_of limits first (renamed_exprs name es) s1 ≡ values_of limits second es s2
    values_of-renamed (FirstExpr e more) g s1 s2 r f =
        with_ok-same _ _ _ _ (value_of-renamed e None g s1 s2 r f.0) (λ v. with_ok-same _ _ _ _ (more_values-renamed more g s1 s2 r f.1) (λ vs. refl))

    more_values-renamed : (es : MoreExprs N) (g : G) (s1 : S1) (s2 : S2) → R g s1 s2 → fits_more_exprs scoping es g → more_values limits first (renamed_more_exprs name es) s1 ≡ more_values limits second es s2
    more_values-renamed NoExprs g s1 s2 r f = refl
    more_values-renamed (NextExpr comma e more) g s1 s2 r f =
        with_ok-same _ _ _ _ (value_of-renamed e None g s1 s2 r f.0) (λ v. with_ok-same _ _ _ _ (more_values-renamed more g s1 s2 r f.1) (λ vs. refl))

    behind-renamed : (ps : Posts N) (b : Base N) (g : G) (s1 : S1) (s2 : S2) → R g s1 s2 → fits_posts scoping ps b g → (v : Value) → behind limits first (renamed_posts name ps) (renamed_base name b) s1 v ≡ behind limits second ps b s2 v
    behind-renamed NoPosts b g s1 s2 r f v = refl
    behind-renamed (Post p rest) b g s1 s2 r f v = with_ok-same _ _ _ _ (post_of-renamed p b g s1 s2 r f.0 v) (λ w. behind-renamed rest OtherBase g s1 s2 r f.1 w)

    post_of-renamed : (p : PostTree N) (b : Base N) (g : G) (s1 : S1) (s2 : S2) → R g s1 s2 → fits_post scoping p b g → (v : Value) → post_of limits first (renamed_post name p) (renamed_base name b) s1 v ≡ post_of limits second p b s2 v
    post_of-renamed (Brackets from items upto) b g s1 s2 r f v =
        with_ok-same_by _ _ _ _ (items_of-renamed items g s1 s2 r f.0) (λ vs e. bracketed-same b items vs v g s1 s2 r f.1 e)
    post_of-renamed (Rounds from es upto) b g s1 s2 r f v =
        with_ok-same_by _ _ _ _ (values_of-renamed es g s1 s2 r f.0) (λ vs e. element_of-same b (items_in es) vs g s1 s2 r f.1 (items_of-in limits second es s2 ∙ e))
    post_of-renamed (Dotted dot m) b g s1 s2 r f v = answer_of-renamed m g s1 s2 r f v

    answer_of-renamed : (m : MethodTree N) (g : G) (s1 : S1) (s2 : S2) → R g s1 s2 → fits_method scoping m g → (v : Value) → answer_of limits first (renamed_method name m) s1 v ≡ answer_of limits second m s2 v
    answer_of-renamed (Plainly at w) g s1 s2 r f v = refl
    answer_of-renamed (Dim at from rank_at d upto) g s1 s2 r f v = refl
    answer_of-renamed (Contains at from es upto) g s1 s2 r f v = with_ok-same _ _ _ _ (values_of-renamed es g s1 s2 r f) (λ vs. refl)
    answer_of-renamed (Expand at from e upto) g s1 s2 r f v = with_ok-same _ _ _ _ (value_of-renamed e None g s1 s2 r f) (λ k. refl)
    answer_of-renamed (CellRead at w from upto) g s1 s2 r f v = refl

  pub domain_of-renamed : (from : Place) (items : Items N) (g : G) (s1 : S1) (s2 : S2) → R g s1 s2 → fits_items scoping items g → domain_of limits first from (renamed_items name items) s1 ≡ domain_of limits second from items s2
  domain_of-renamed from items g s1 s2 r f = with_ok-same _ _ _ _ (items_of-renamed items g s1 s2 r f) (λ vs. refl)
