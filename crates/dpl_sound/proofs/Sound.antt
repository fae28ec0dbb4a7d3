-- Type soundness: in a state that fits the names in sight, an expression with a type evaluates to a fault or to a value
-- of that type. One lemma for each kind of tree, evaluated once or at an index.
use Rattle.std.proofs.Common.{◌≡◌, pos, Bool, true, false, List, [], ◌∷◌, length, Option, Some, None, Result, Ok, Err, refl, sym, ap, ◌∙◌, subst}
use Rattle.std.specs.Prelude.{◌||◌, nat_lt}
use Rattle.std.specs.Result.{IfOk}
use Rattle.std.proofs.lemmas.Result.{IfOk-weaker}
use Rattle.dpl_syntax.specs.declared.place.Place.{Place}
use Rattle.dpl_syntax.specs.declared.refusal.Code.TheVariants.{WrongRank}
use Rattle.dpl_sets.specs.TextRanges.{TextRange}
use Rattle.dpl_language.specs.Tree.{Kind, ExprTree, Number, TruthWord, Named, LocalesWord, LocaleCount, HereWord, Grouped, DomainLiteral, Prefixed, Reduced, Chain, Postfixed, ItemTree, One}
use Rattle.dpl_language.specs.Tree.{RangeItem, Stride, NoStride, By, Dots, Items, FirstItem, MoreItems, NoItems, NextItem, Exprs, FirstExpr, MoreExprs, NoExprs, NextExpr}
use Rattle.dpl_language.specs.Values.{Value, Int, Truth, Domain, Locale, AllLocales, Index, Fault, fault, PastLimit, number, all_ranges}
use Rattle.dpl_language.specs.Arithmetic.{prefix_of}
use Rattle.dpl_language.specs.Ranges.{unstrided, high_bound, bad_count, past_limit, bounded, strided_by, too_many, sized}
use Rattle.dpl_language.specs.Names.{Text}
use Rattle.dpl_language.specs.Environment.{Environment, Limits}
use Rattle.dpl_language.specs.Phrases.{base_of, item_base}
use Rattle.dpl_language.specs.Expressions.{whole_in, value_of, item_of, stridden, items_of, more_items, values_of, more_values}
use Rattle.dpl_rules.specs.Types.{Over, ValueType, Scalar, Range as RangeType, Domain as DomainType, Array as ArrayType}
use Rattle.dpl_rules.specs.Types.{Locale as LocaleType, AllLocales as AllLocalesType, an_int, a_bool, is_range, op_kind}
use Rattle.dpl_rules.specs.Verdicts.{Part, part, type_by, all_known, owed, each_wanted}
use Rattle.dpl_rules.specs.Places.{first_of, last_of}
use Rattle.dpl_rules.specs.Sights.{Scopes, lookup}
use Rattle.dpl_rules.specs.Operators.{prefix_kind, any_strided, range_verdict, ranges_breaches, ranges_verdict}
use Rattle.dpl_rules.specs.Expressions.{bare_locales, locales_or, type_of, item_type, range_item_verdict, item_parts, more_item_parts, expr_parts, more_expr_parts}
use Rattle.dpl_rules.proofs.Admission.{first_empty}
use Rattle.dpl_sound.specs.Formed.{ExprFormed, ItemFormed, ItemsFormed, MoreItemsFormed, ExprsFormed, MoreExprsFormed}
use Rattle.dpl_sound.specs.Typed.{OfKind, HasType, type_at, MayStride, AreRanked, HasPartType, HaveTypes, Fits}
use Rattle.dpl_sound.proofs.Given.{some-same, judged-gives}
use Rattle.dpl_sound.proofs.Results.{with_ok-if, with_ok-if_by, test-if, found-if}
use Rattle.dpl_sound.proofs.Operators.{prefix_of-kind, reduction-kind, IsOfKind, prefix_verdict-kind, reduction_verdict-type}
use Rattle.dpl_sound.proofs.Chains.{chain_type-gives, chain_type-kind, chained-has}
use Rattle.dpl_sound.proofs.Ranges.{all_ranges-ranked}
use Rattle.dpl_sound.proofs.Names.{name_verdict-gives, named-has, elements-fit}
use Rattle.dpl_sound.proofs.Posts.{IsLone, lone-no_array, BaseGives, posts_type-gives, behind-has}

-- ---- ranges
-- whether a range has a stride
abbrev strides : {N : Type 0} → Stride N → Bool
strides NoStride = false
strides (By at e) = true

bounded-has : (at : Place) (dots : Dots) (low high : _) → IfOk (bounded at dots low high) (λ r. MayStride false (r ∷ []))
bounded-has at dots low high =
    test-if (λ r. MayStride false (r ∷ [])) (bad_count dots high || past_limit low || past_limit (high_bound dots low high)) (Err (fault PastLimit at))
    (Ok (unstrided low (high_bound dots low high))) tt (refl, tt)

range_verdict-type : (ps : List Part) (strided : Bool) (u : ValueType) → type_by (range_verdict ps strided) ≡ Some u → RangeType strided ≡ u
range_verdict-type ps strided u h = (judged-gives (all_known ps) (each_wanted _ ps) (RangeType strided) u h).2

pub range_item-type : (scopes : Scopes) (low high : Part) (by : Stride Text) (u : ValueType) → type_by (range_item_verdict scopes low high by) ≡ Some u → RangeType (strides by) ≡ u
range_item-type scopes low high NoStride u h = range_verdict-type (low ∷ high ∷ []) false u h
range_item-type scopes low high (By at e) u h = range_verdict-type (low ∷ high ∷ part (first_of e) (type_of scopes e) ∷ []) true u h

-- ---- domains
pub sized-has : (from : Place) (rank : _) (strided : Bool) (rs : List TextRange) → AreRanked rank strided rs → IfOk (sized from rs) (λ w. HasType w (DomainType rank strided))
sized-has from rank strided rs h =
    test-if (λ w. HasType w (DomainType rank strided)) (too_many rs) (Err (fault PastLimit from)) (Ok (Domain rs)) tt (rs, refl, h)

pub ranges_verdict-has : (from : Place) (ps : List Part) (u : ValueType) → type_by (ranges_verdict from ps) ≡ Some u
    → IsLone u × ((vs : List Value) → HaveTypes vs ps → IfOk (sized from (all_ranges vs)) (λ w. HasType w u))
ranges_verdict-has from ps u h =
    let told = judged-gives (all_known ps) (ranges_breaches from ps) (DomainType (length ps) (any_strided ps)) u h in
    let ranges = first_empty (each_wanted is_range ps) (owed (nat_lt (length ps) 4) from WrongRank) told.1 in
    subst (λ u. IsLone u × ((vs : List Value) → HaveTypes vs ps → IfOk (sized from (all_ranges vs)) (λ w. HasType w u))) told.2
    (λ i. refl, λ vs hv. sized-has from (length ps) (any_strided ps) (all_ranges vs) (all_ranges-ranked ps vs hv told.0 ranges))

-- ---- bases
-- the bare word `Locales`, or an expression with a type of its own
pub bare-by : (scopes : Scopes) (P : ExprTree Text → Type 0) (e : ExprTree Text) (t : ValueType) → locales_or (bare_locales e) (type_of scopes e) ≡ Some t
    → (type_of scopes e ≡ Some t → P e) → ((at : Place) → AllLocalesType ≡ t → P (LocalesWord at)) → P e
bare-by scopes P (LocalesWord at) t h own all = all at (some-same AllLocalesType t h)
bare-by scopes P _ t h own all = own h

pub kind-no_array : (k j : Kind) (over : Over) → IsOfKind j (ArrayType k over) → ⊥
kind-no_array k j over p = never (p None)
  where
    never : ArrayType k over ≡ Scalar j → ⊥
    never h = absurd cc

no_locales : (k : Kind) (over : Over) → AllLocalesType ≡ ArrayType k over → ⊥
no_locales k over h = absurd cc

module _ {S : Type 0} (limits : Limits) (env : Environment Text S) (scopes : Scopes) (s : S) (fits : Fits env scopes s) where
  -- an expression of an array's type is its name, perhaps in round brackets, so that brackets index that array
  mutual
    base_of-gives : (e : ExprTree Text) → ExprFormed e → (t : ValueType) → type_of scopes e ≡ Some t → BaseGives limits env scopes s (base_of e) t
    base_of-gives (Named x) f t h k over a i =
        found-if (OfKind k) x.at (env.element x.name i s)
        (elements-fit env scopes s fits limits x.name t (name_verdict-gives x.at (lookup scopes x.name) t h) k over a i)
    base_of-gives (Grouped from item upto) f t h k over a i = item_base-gives item f t h k over a i
    base_of-gives (DomainLiteral from items upto) f t h k over a i =
        elim (lone-no_array k over (subst IsLone a (ranges_verdict-has from (item_parts scopes items) t h).0)) [ ]
    base_of-gives (Prefixed at op e) f t h k over a i =
        elim (kind-no_array k (prefix_kind op) over (subst (IsOfKind (prefix_kind op)) a (prefix_verdict-kind at op (type_of scopes e) t h))) [ ]
    base_of-gives (Reduced at op word e) f t h k over a i =
        elim (kind-no_array k (op_kind op) over (λ i. ap (λ t. type_at t i) (sym a ∙ sym (reduction_verdict-type at op (type_of scopes e) t h)))) [ ]
    base_of-gives (Chain e rest) f t h k over a i =
        let kind = chain_type-kind scopes (type_of scopes e) rest t f.0 h in
        elim (kind-no_array k kind.0 over (subst (IsOfKind kind.0) a kind.1)) [ ]
    base_of-gives (Postfixed e posts) f t h k over a i =
        let first = posts_type-gives limits env scopes s (locales_or (bare_locales e) (type_of scopes e)) posts (last_of e) t h in
        elim (lone-no_array k over (subst IsLone a (behind-has limits env scopes s posts (base_of e) (last_of e) first.0 t f.0 first.2).0)) [ ]
    base_of-gives _ f t h k over a i = absurd cc

    item_base-gives : (item : ItemTree Text) → ItemFormed item → (t : ValueType) → item_type scopes item ≡ Some t → BaseGives limits env scopes s (item_base item) t
    item_base-gives (One e) f t h k over a i = base_of-gives e f t h k over a i
    item_base-gives (RangeItem low at dots high by) f t h k over a i =
        elim (lone-no_array k over (subst IsLone (range_item-type scopes (part (first_of low) (type_of scopes low)) (part (first_of high) (type_of scopes high)) by t h ∙ a) (λ i. refl))) [ ]

  -- ---- lists: as many values as parts, each of its part's type
  pub part-has : (o : Option ValueType) (r : Result Value Fault) → ((t : ValueType) → o ≡ Some t → IfOk r (λ w. HasType w (type_at t None))) → IfOk r (λ w. HasPartType w o)
  part-has None (Ok v) p = tt
  part-has None (Err f) p = tt
  part-has (Some t) r p = p t refl

  -- what is the same at each index
  lone-has : (t : ValueType) (i : Option Index) (r : Result Value Fault) → IsLone t → IfOk r (λ w. HasType w t) → IfOk r (λ w. HasType w (type_at t i))
  lone-has t i r l p = IfOk-weaker r (λ w. HasType w t) (λ w. HasType w (type_at t i)) (λ w h. subst (HasType w) (sym (l i)) h) p

  stridden-has : (by : Stride Text) (range : Result TextRange Fault) → IfOk range (λ r. MayStride false (r ∷ []))
      → IfOk (stridden limits env by range s) (λ w. HasType w (RangeType (strides by)))
  stridden-has NoStride range p = with_ok-if_by (λ r. MayStride false (r ∷ [])) (λ w. HasType w (RangeType false)) range _ p (λ r hr. (r, refl, hr))
  stridden-has (By at e) range p =
      with_ok-if (λ w. HasType w (RangeType true)) (value_of limits env e None s) _
      (λ v. with_ok-if (λ w. HasType w (RangeType true)) range _
      (λ r. with_ok-if (λ w. HasType w (RangeType true)) (strided_by at (number v) r) _ (λ q. (q, refl, tt))))

  mutual
    pub value_of-has : (e : ExprTree Text) → ExprFormed e → (t : ValueType) → type_of scopes e ≡ Some t → (i : Option Index) → IfOk (value_of limits env e i s) (λ w. HasType w (type_at t i))
    value_of-has (Number at n) f t h i = subst (λ t. HasType (Int n) (type_at t i)) (some-same an_int t h) (n, refl)
    value_of-has (TruthWord at b) f t h i = subst (λ t. HasType (Truth b) (type_at t i)) (some-same a_bool t h) (b, refl)
    value_of-has (Named x) f t h i =
        let declared = name_verdict-gives x.at (lookup scopes x.name) t h in
        named-has limits env s x i t (env.get x.name s) (fits.values x.name t declared) (elements-fit env scopes s fits limits x.name t declared)
    value_of-has (LocalesWord at) f t h i = absurd cc
    value_of-has (LocaleCount at) f t h i = subst (λ t. HasType (Int (pos limits.locales)) (type_at t i)) (some-same an_int t h) (pos limits.locales, refl)
    value_of-has (HereWord at) f t h i = subst (λ t. HasType (Locale (env.here s)) (type_at t i)) (some-same LocaleType t h) (env.here s, refl)
    value_of-has (Grouped from item upto) f t h i = item_of-has item f t h i
    value_of-has (DomainLiteral from items upto) f t h i =
        let told = ranges_verdict-has from (item_parts scopes items) t h in
        lone-has t i (value_of limits env (DomainLiteral from items upto) i s) told.0
        (with_ok-if_by (λ vs. HaveTypes vs (item_parts scopes items)) (λ w. HasType w t) (items_of limits env items s) _ (items_of-have items f) told.1)
    value_of-has (Prefixed at op e) f t h i =
        with_ok-if (λ w. HasType w (type_at t i)) (value_of limits env e i s) _
        (λ v. subst (HasType (prefix_of op v)) (sym (prefix_verdict-kind at op (type_of scopes e) t h i)) (prefix_of-kind op v))
    value_of-has (Reduced at op word e) f t h i =
        subst (λ t. IfOk (value_of limits env (Reduced at op word e) i s) (λ w. HasType w (type_at t i))) (reduction_verdict-type at op (type_of scopes e) t h)
        (reduction-kind limits.budget word op (λ i. value_of limits env e (Some i) s) (whole_in limits env e s))
    value_of-has (Chain e rest) f t h i =
        let first = chain_type-gives scopes (type_of scopes e) rest t h in
        with_ok-if_by (λ v. HasType v (type_at first.0 i)) (λ w. HasType w (type_at t i)) (value_of limits env e i s) _ (value_of-has e f.1 first.0 first.1 i)
        (λ v hv. chained-has scopes limits env s rest first.0 t i v hv first.2)
    value_of-has (Postfixed e posts) f t h i =
        let first = posts_type-gives limits env scopes s (locales_or (bare_locales e) (type_of scopes e)) posts (last_of e) t h in
        let given = behind-has limits env scopes s posts (base_of e) (last_of e) first.0 t f.0 first.2 in
        let base = bare-by scopes (λ e. BaseGives limits env scopes s (base_of e) first.0 × IfOk (value_of limits env e None s) (λ v. HasType v (type_at first.0 None))) e first.0 first.1
        (λ own. (base_of-gives e f.1 first.0 own, value_of-has e f.1 first.0 own None))
        (λ at all. (λ k over a i. elim (no_locales k over (all ∙ a)) [ ], subst (λ t. HasType AllLocales (type_at t None)) all refl)) in
        lone-has t i (value_of limits env (Postfixed e posts) i s) given.0
        (with_ok-if_by (λ v. HasType v (type_at first.0 None)) (λ w. HasType w t) (value_of limits env e None s) _ base.1 (given.1 base.0))

    pub item_of-has : (item : ItemTree Text) → ItemFormed item → (t : ValueType) → item_type scopes item ≡ Some t → (i : Option Index) → IfOk (item_of limits env item i s) (λ w. HasType w (type_at t i))
    item_of-has (One e) f t h i = value_of-has e f t h i
    item_of-has (RangeItem low at dots high by) f t h i =
        subst (λ t. IfOk (item_of limits env (RangeItem low at dots high by) i s) (λ w. HasType w (type_at t i)))
        (range_item-type scopes (part (first_of low) (type_of scopes low)) (part (first_of high) (type_of scopes high)) by t h)
        (with_ok-if (λ w. HasType w (RangeType (strides by))) (value_of limits env low None s) _
        (λ l. with_ok-if (λ w. HasType w (RangeType (strides by))) (value_of limits env high None s) _
        (λ k. stridden-has by (bounded at dots (number l) (number k)) (bounded-has at dots (number l) (number k)))))

    pub items_of-have : (items : Items Text) → ItemsFormed items → IfOk (items_of limits env items s) (λ vs. HaveTypes vs (item_parts scopes items))
    items_of-have (FirstItem item more) f =
        with_ok-if_by (λ v. HasPartType v (item_type scopes item)) (λ vs. HaveTypes vs (item_parts scopes (FirstItem item more))) (item_of limits env item None s) _
        (part-has (item_type scopes item) (item_of limits env item None s) (λ t h. item_of-has item f.0 t h None))
        (λ v hv. with_ok-if_by (λ vs. HaveTypes vs (more_item_parts scopes more)) (λ vs. HaveTypes vs (item_parts scopes (FirstItem item more))) (more_items limits env more s) _
        (more_items-have more f.1) (λ vs hvs. (hv, hvs)))

    more_items-have : (more : MoreItems Text) → MoreItemsFormed more → IfOk (more_items limits env more s) (λ vs. HaveTypes vs (more_item_parts scopes more))
    more_items-have NoItems f = tt
    more_items-have (NextItem comma item more) f =
        with_ok-if_by (λ v. HasPartType v (item_type scopes item)) (λ vs. HaveTypes vs (more_item_parts scopes (NextItem comma item more))) (item_of limits env item None s) _
        (part-has (item_type scopes item) (item_of limits env item None s) (λ t h. item_of-has item f.0 t h None))
        (λ v hv. with_ok-if_by (λ vs. HaveTypes vs (more_item_parts scopes more)) (λ vs. HaveTypes vs (more_item_parts scopes (NextItem comma item more))) (more_items limits env more s) _
        (more_items-have more f.1) (λ vs hvs. (hv, hvs)))

  more_values-have : (more : MoreExprs Text) → MoreExprsFormed more → IfOk (more_values limits env more s) (λ vs. HaveTypes vs (more_expr_parts scopes more))
  more_values-have NoExprs f = tt
  more_values-have (NextExpr comma e more) f =
      with_ok-if_by (λ v. HasPartType v (type_of scopes e)) (λ vs. HaveTypes vs (more_expr_parts scopes (NextExpr comma e more))) (value_of limits env e None s) _
      (part-has (type_of scopes e) (value_of limits env e None s) (λ t h. value_of-has e f.0 t h None))
      (λ v hv. with_ok-if_by (λ vs. HaveTypes vs (more_expr_parts scopes more)) (λ vs. HaveTypes vs (more_expr_parts scopes (NextExpr comma e more))) (more_values limits env more s) _
      (more_values-have more f.1) (λ vs hvs. (hv, hvs)))

  pub values_of-have : (es : Exprs Text) → ExprsFormed es → IfOk (values_of limits env es s) (λ vs. HaveTypes vs (expr_parts scopes es))
  values_of-have (FirstExpr e more) f =
      with_ok-if_by (λ v. HasPartType v (type_of scopes e)) (λ vs. HaveTypes vs (expr_parts scopes (FirstExpr e more))) (value_of limits env e None s) _
      (part-has (type_of scopes e) (value_of limits env e None s) (λ t h. value_of-has e f.0 t h None))
      (λ v hv. with_ok-if_by (λ vs. HaveTypes vs (more_expr_parts scopes more)) (λ vs. HaveTypes vs (expr_parts scopes (FirstExpr e more))) (more_values limits env more s) _
      (more_values-have more f.1) (λ vs hvs. (hv, hvs)))
