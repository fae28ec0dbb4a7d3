-- Brackets, rounds and methods give values of the types that their rules give, and none of these is a whole array.
-- What stands behind a base is taken from left to right; the base alone may be an array.
use Rattle.std.proofs.Common.{◌≡◌, ℕ, ℤ, pos, Bool, true, false, List, [], ◌∷◌, ◌++◌, Option, Some, None, Result, Ok, Err, refl, sym, ◌∙◌, subst}
use Rattle.std.specs.Prelude.{◌&&◌, ◌||◌, if◌then◌else◌, nat_lt, int_le, int_lt}
use Rattle.std.specs.Result.{IfOk}
use Rattle.dpl_syntax.specs.declared.place.Place.{Place}
use Rattle.dpl_syntax.specs.declared.refusal.Code.TheVariants.{WrongType}
use Rattle.dpl_sets.specs.TextDomains.{text_expanded}
use Rattle.dpl_language.specs.Tree.{Kind, IntKind, Word, First, Last, Low, High, LowBound, DomainOf, Posts}
use Rattle.dpl_language.specs.Tree.{NoPosts, Post, PostTree, Brackets, Rounds, Dotted, MethodTree, Plainly, Dim, Contains, Expand, CellRead}
use Rattle.dpl_language.specs.Values.{Value, Range, Domain, Locale, Index, Fault, fault, PastLimit, NoLocale, number, ranges_in, all_ranges, index_of}
use Rattle.dpl_language.specs.Ranges.{all_sliced, range_sliced, too_many, bounds_past_limit, expanded, dimension, members_of_first, first_of, last_of, least_of, greatest_of, end_of, low_of, method_of, leading}
use Rattle.dpl_language.specs.Names.{Text}
use Rattle.dpl_language.specs.Outcome.{with_ok}
use Rattle.dpl_language.specs.Environment.{Environment, Limits}
use Rattle.dpl_language.specs.Phrases.{Base, BaseName, BaseLocales, OtherBase}
use Rattle.dpl_language.specs.Expressions.{locale_of, element_of, bracketed, value_of, items_of, values_of, post_of, answer_of, behind}
use Rattle.dpl_rules.specs.Types.{Over, ValueType, Scalar, Range as RangeType, Domain as DomainType, Array as ArrayType, Locale as LocaleType, AllLocales as AllLocalesType}
use Rattle.dpl_rules.specs.Types.{an_int, a_bool, is_int, is_range, array_of, domain_of}
use Rattle.dpl_rules.specs.Verdicts.{Part, part, type_by, Has, misranked, all_known, owed, wanted}
use Rattle.dpl_rules.specs.Sights.{Scopes}
use Rattle.dpl_rules.specs.Places.{first_of as first_of_expr, last_of_post}
use Rattle.dpl_rules.specs.Operators.{index_breaches, slice_breaches, locale_breaches, square_verdict, array_verdict, index_rank}
use Rattle.dpl_rules.specs.Operators.{domain_over, word_verdict, dim_verdict, contains_verdict, expand_verdict}
use Rattle.dpl_rules.specs.Expressions.{type_of, item_parts, expr_parts, posts_type, post_verdict, method_verdict}
use Rattle.dpl_sound.specs.Typed.{OfKind, HasType, type_at}
use Rattle.dpl_language.specs.Spelled.{HasPosts}
use Rattle.dpl_sound.proofs.Given.{some-same, has_if-gives, judged-gives}
use Rattle.dpl_sound.proofs.Results.{with_ok-if, with_ok-if_by, test-if}
use Rattle.dpl_sound.proofs.Ranges.{range_sliced-strides, all_sliced-ranked, text_expanded-ranked, dimension-strides}

-- a type that is the same at each index: it is no whole array and isn't promoted
abbrev pub IsLone : ValueType → Type 0
IsLone u = (i : Option Index) → type_at u i ≡ u

pub lone-no_array : (k : Kind) (over : Over) → IsLone (ArrayType k over) → ⊥
lone-no_array k over l = never (l (Some []))
  where
    never : Scalar k ≡ ArrayType k over → ⊥
    never h = absurd cc

-- a lone type, and from each value of a base's type a fault or a value of that type
abbrev pub Gives : ValueType → ValueType → (Value → Result Value Fault) → Type 0
Gives t u go = IsLone u × ((v : Value) → HasType v (type_at t None) → IfOk (go v) (λ w. HasType w u))

-- ---- locales and methods
locale_of-has : (n : ℕ) (b : Base Text) (k : ℤ) → IfOk (locale_of n b k) (λ w. HasType w LocaleType)
locale_of-has n (BaseName x) k = (k, refl)
locale_of-has n (BaseLocales at) k =
    test-if (λ w. HasType w LocaleType) (int_le (pos 0) k && int_lt k (pos n)) (Ok (Locale k)) (Err (fault NoLocale at)) (k, refl) tt
locale_of-has n OtherBase k = (k, refl)

end_of-kind : (at : Place) (pick : ℤ → List ℤ → ℤ) (is : List ℤ) → IfOk (end_of at pick is) (OfKind IntKind)
end_of-kind at pick [] = tt
end_of-kind at pick (i ∷ is) = (_, refl)

-- what gives an int of whatever value
ints-give : (t u : ValueType) (go : Value → Result Value Fault) → ((v : Value) → IfOk (go v) (OfKind IntKind)) → an_int ≡ u → Gives t u go
ints-give t u go p e = subst (λ u. Gives t u go) e (λ i. refl, λ v hv. p v)

ends-give : (at : Place) (pick : ℤ → List ℤ → ℤ) (t u : ValueType) → an_int ≡ u → Gives t u (λ v. end_of at pick (members_of_first (ranges_in v)))
ends-give at pick t u e =
    ints-give t u (λ v. end_of at pick (members_of_first (ranges_in v))) (λ v. end_of-kind at pick (members_of_first (ranges_in v))) e

domain_over-has : (at : Place) (t u : ValueType) → type_by (domain_over at (array_of t)) ≡ Some u → Gives t u (λ v. Ok (Domain (ranges_in v)))
domain_over-has at (ArrayType k over) u h =
    subst (λ u. Gives (ArrayType k over) u (λ v. Ok (Domain (ranges_in v)))) (some-same (DomainType over.rank over.strided) u h)
    (λ i. refl, λ v hv. subst (λ v. HasType (Domain (ranges_in v)) (DomainType over.rank over.strided)) (sym hv.1) (hv.0, refl, hv.2))
domain_over-has at _ u h = absurd cc

-- the least member of a range is that of its one range
low-gives : (at : Place) (t u : ValueType) → is_range t ≡ true → an_int ≡ u → Gives t u (low_of at)
low-gives at (RangeType strided) u b e =
    subst (λ u. Gives (RangeType strided) u (low_of at)) e
    (λ i. refl, λ v hv. subst (λ v. IfOk (low_of at v) (λ w. HasType w an_int)) (sym hv.1) (end_of-kind at least_of (members_of_first (hv.0 ∷ []))))
low-gives at _ u b e = absurd cc

method_of-has : (at : Place) (w : Word) (t u : ValueType) → type_by (word_verdict at w t) ≡ Some u → Gives t u (method_of w at)
method_of-has at First t u h = ends-give at first_of t u (has_if-gives (is_range t) an_int at u h).1
method_of-has at Last t u h = ends-give at last_of t u (has_if-gives (is_range t) an_int at u h).1
method_of-has at Low t u h = low-gives at t u (has_if-gives (is_range t) an_int at u h).0 (has_if-gives (is_range t) an_int at u h).1
method_of-has at High t u h = ends-give at greatest_of t u (has_if-gives (is_range t) an_int at u h).1
method_of-has at LowBound t u h = absurd cc
method_of-has at DomainOf t u h = domain_over-has at t u h
method_of-has at w t u h = ints-give t u (method_of w at) (λ v. (_, refl)) (has_if-gives _ an_int at u h).1

dim-type : (b : Bool) (rank_at : Place) (strided : Bool) (u : ValueType) → type_by (if b then Has (RangeType strided) else misranked rank_at) ≡ Some u → RangeType strided ≡ u
dim-type true rank_at strided u h = some-same (RangeType strided) u h
dim-type false rank_at strided u h = absurd cc

dim-has : (at rank_at : Place) (d : ℕ) (t u : ValueType) → type_by (dim_verdict at rank_at d (domain_of t)) ≡ Some u
    → Gives t u (λ v. Ok (Range (dimension d (ranges_in v))))
dim-has at rank_at d (DomainType rank strided) u h =
    subst (λ u. Gives (DomainType rank strided) u (λ v. Ok (Range (dimension d (ranges_in v))))) (dim-type (nat_lt d rank) rank_at strided u h) (
      λ i. refl,
      λ v hv. subst (λ v. HasType (Range (dimension d (ranges_in v))) (RangeType strided)) (sym hv.1)
          (dimension d hv.0, refl, dimension-strides strided d hv.0 hv.2.1),
    )
dim-has at rank_at d _ u h = absurd cc

contains_verdict-type : (at : Place) (ps : List Part) (o : Option ℕ) (u : ValueType) → type_by (contains_verdict at ps o) ≡ Some u → a_bool ≡ u
contains_verdict-type at ps None u h = absurd cc
contains_verdict-type at ps (Some rank) u h = (judged-gives (all_known ps) (index_breaches at rank ps) a_bool u h).2

-- a domain that isn't strided, expanded
expanded-has : (at : Place) (rank : ℕ) (k : ℤ) (v : Value) → HasType v (DomainType rank false) → IfOk (expanded at k (ranges_in v)) (λ w. HasType w (DomainType rank false))
expanded-has at rank k v hv =
    subst (λ v. IfOk (expanded at k (ranges_in v)) (λ w. HasType w (DomainType rank false))) (sym hv.1)
    (test-if (λ w. HasType w (DomainType rank false)) (bounds_past_limit (text_expanded k hv.0) || too_many (text_expanded k hv.0)) (Err (fault PastLimit at))
    (Ok (Domain (text_expanded k hv.0))) tt (text_expanded k hv.0, refl, text_expanded-ranked rank k hv.0 hv.2))

expand_verdict-type : (at : Place) (p : Part) (rank : ℕ) (strided : Bool) (u : ValueType) → type_by (expand_verdict at p (Some (rank, strided))) ≡ Some u
    → (strided ≡ false) × (DomainType rank false ≡ u)
expand_verdict-type at p rank true u h = absurd cc
expand_verdict-type at p rank false u h =
    (refl, (judged-gives (all_known (p ∷ [])) (owed true at WrongType ++ wanted is_int p) (DomainType rank false) u h).2)

module _ {S : Type 0} (limits : Limits) (env : Environment Text S) (scopes : Scopes) (s : S) where
  -- what stands at an index of a base of this type is of its kind
  abbrev pub BaseGives : Base Text → ValueType → Type 0
  BaseGives b t = (k : Kind) (over : Over) → t ≡ ArrayType k over → (i : Index) → IfOk (element_of limits env b i s) (OfKind k)

  lone-base : (b : Base Text) (t : ValueType) → IsLone t → BaseGives b t
  lone-base b t l k over e i = elim (lone-no_array k over (subst IsLone e l)) [ ]

  -- the same, where the base's type may be an array's
  abbrev pub GivesOf : Base Text → ValueType → ValueType → (Value → Result Value Fault) → Type 0
  GivesOf b t u go = IsLone u × (BaseGives b t → (v : Value) → HasType v (type_at t None) → IfOk (go v) (λ w. HasType w u))

  -- ---- indices and slices
  array_verdict-has : (last from : Place) (ps : List Part) (b : Base Text) (t u : ValueType) → type_by (array_verdict last from ps (array_of t)) ≡ Some u
      → IsLone u × (BaseGives b t → (i : Index) → IfOk (element_of limits env b i s) (λ w. HasType w u))
  array_verdict-has last from ps b (ArrayType k over) u h =
      subst (λ u. IsLone u × (BaseGives b (ArrayType k over) → (i : Index) → IfOk (element_of limits env b i s) (λ w. HasType w u)))
      (judged-gives (all_known ps) (index_breaches last over.rank ps) (Scalar k) u h).2 (λ i. refl, λ base i. base k over refl i)
  array_verdict-has last from ps b _ u h = absurd cc

  -- what square brackets give of a value
  abbrev Square : Base Text → List Value → ValueType → Value → Type 0
  Square b vs u v = IfOk (bracketed limits env b vs v s) (λ w. HasType w u)

  abbrev Squares : Base Text → ValueType → ValueType → Type 0
  Squares b t u = IsLone u × (BaseGives b t → (vs : List Value) (v : Value) → HasType v (type_at t None) → Square b vs u v)

  square_verdict-has : (last from : Place) (ps : List Part) (b : Base Text) (t u : ValueType) → type_by (square_verdict last from ps t) ≡ Some u → Squares b t u
  square_verdict-has last from ps b (RangeType strided) u h =
      subst (Squares b (RangeType strided)) (judged-gives (all_known ps) (slice_breaches last 1 ps) (RangeType strided) u h).2 (
        λ i. refl,
        λ base vs v hv. subst (Square b vs (RangeType strided)) (sym hv.1)
            (range_sliced hv.0 (all_ranges vs), refl, range_sliced-strides strided hv.0 (all_ranges vs) hv.2),
      )
  square_verdict-has last from ps b (DomainType rank strided) u h =
      subst (Squares b (DomainType rank strided)) (judged-gives (all_known ps) (slice_breaches last rank ps) (DomainType rank strided) u h).2 (
        λ i. refl,
        λ base vs v hv. subst (Square b vs (DomainType rank strided)) (sym hv.1)
            (all_sliced hv.0 (all_ranges vs), refl, all_sliced-ranked rank strided hv.0 (all_ranges vs) hv.2),
      )
  square_verdict-has last from ps b (ArrayType k over) u h =
      let element = array_verdict-has last from ps b (ArrayType k over) u h in
      (element.0, λ base vs v hv. subst (Square b vs u) (sym hv.1) (element.1 base (index_of vs)))
  square_verdict-has last from ps b AllLocalesType u h =
      subst (Squares b AllLocalesType) (judged-gives (all_known ps) (locale_breaches last ps) LocaleType u h).2
      (λ i. refl, λ base vs v hv. subst (Square b vs LocaleType) (sym hv) (locale_of-has limits.locales b (leading (index_of vs))))
  square_verdict-has last from ps b _ u h = absurd cc

  -- ---- methods
  expand-has : (at : Place) (p : Part) (r : Result Value Fault) (t u : ValueType) → type_by (expand_verdict at p (domain_of t)) ≡ Some u
      → Gives t u (λ v. with_ok r (λ k. expanded at (number k) (ranges_in v)))
  expand-has at p r (DomainType rank strided) u h =
      let told = expand_verdict-type at p rank strided u h in
      subst (λ u. Gives (DomainType rank strided) u (λ v. with_ok r (λ k. expanded at (number k) (ranges_in v)))) told.1 (
        λ i. refl,
        λ v hv. with_ok-if (λ w. HasType w (DomainType rank false)) r _
            (λ k. expanded-has at rank (number k) v (subst (λ b. HasType v (DomainType rank b)) told.0 hv)),
      )
  expand-has at p r _ u h = absurd cc

  pub answer_of-has : (m : MethodTree Text) (t u : ValueType) → type_by (method_verdict scopes m t) ≡ Some u → Gives t u (answer_of limits env m s)
  answer_of-has (Plainly at w) t u h = method_of-has at w t u h
  answer_of-has (Dim at from rank_at d upto) t u h = dim-has at rank_at d t u h
  answer_of-has (Contains at from es upto) t u h =
      subst (λ u. Gives t u (answer_of limits env (Contains at from es upto) s)) (contains_verdict-type at (expr_parts scopes es) (index_rank t) u h)
      (λ i. refl, λ v hv. with_ok-if (λ w. HasType w a_bool) (values_of limits env es s) _ (λ vs. (_, refl)))
  answer_of-has (Expand at from e upto) t u h = expand-has at (part (first_of_expr e) (type_of scopes e)) (value_of limits env e None s) t u h
  answer_of-has (CellRead at w from upto) t u h = absurd cc

  -- ---- what stands behind a base
  pub post_of-has : (p : PostTree Text) (b : Base Text) (last : Place) (t u : ValueType) → type_by (post_verdict scopes last p (Some t)) ≡ Some u
      → GivesOf b t u (post_of limits env p b s)
  post_of-has (Brackets from items upto) b last t u h =
      let square = square_verdict-has last from (item_parts scopes items) b t u h in
      (square.0, λ base v hv. with_ok-if (λ w. HasType w u) (items_of limits env items s) _ (λ vs. square.1 base vs v hv))
  post_of-has (Rounds from es upto) b last t u h =
      let element = array_verdict-has last from (expr_parts scopes es) b t u h in
      (element.0, λ base v hv. with_ok-if (λ w. HasType w u) (values_of limits env es s) _ (λ vs. element.1 base (index_of vs)))
  post_of-has (Dotted dot m) b last t u h =
      let answer = answer_of-has m t u h in
      (answer.0, λ base. answer.1)

  posts_type-none : (rest : Posts Text) (last : Place) (u : ValueType) → posts_type scopes last None rest ≡ Some u → ⊥
  posts_type-none NoPosts last u h = absurd cc
  posts_type-none (Post (Brackets from items upto) rest) last u h = posts_type-none rest upto u h
  posts_type-none (Post (Rounds from es upto) rest) last u h = posts_type-none rest upto u h
  posts_type-none (Post (Dotted dot m) rest) last u h = posts_type-none rest (last_of_post (Dotted dot m)) u h

  -- where a base has a type with what stands behind it, it has one by itself
  pub posts_type-gives : (o : Option ValueType) (rest : Posts Text) (last : Place) (u : ValueType) → posts_type scopes last o rest ≡ Some u
      → (t : ValueType) × (o ≡ Some t) × (posts_type scopes last (Some t) rest ≡ Some u)
  posts_type-gives None rest last u h = elim (posts_type-none rest last u h) [ ]
  posts_type-gives (Some t) rest last u h = (t, refl, h)

  -- behind the first of it the base is no array any more
  rest-has : (ps : Posts Text) (last : Place) (t u : ValueType) → IsLone t → posts_type scopes last (Some t) ps ≡ Some u → Gives t u (behind limits env ps OtherBase s)
  rest-has NoPosts last t u l h = (subst IsLone (some-same t u h) l, λ v hv. subst (HasType v) (l None ∙ some-same t u h) hv)
  rest-has (Post p rest) last t u l h =
      let next = posts_type-gives (type_by (post_verdict scopes last p (Some t))) rest (last_of_post p) u h in
      let given = post_of-has p OtherBase last t next.0 next.1 in
      let others = rest-has rest (last_of_post p) next.0 u given.0 next.2 in (
        others.0,
        λ v hv. with_ok-if_by (λ w. HasType w next.0) (λ w. HasType w u) (post_of limits env p OtherBase s v) _ (given.1 (lone-base OtherBase t l) v hv)
            (λ w hw. others.1 w (subst (HasType w) (sym (given.0 None)) hw)),
      )

  pub behind-has : (ps : Posts Text) (b : Base Text) (last : Place) (t u : ValueType) → HasPosts ps → posts_type scopes last (Some t) ps ≡ Some u
      → GivesOf b t u (behind limits env ps b s)
  behind-has NoPosts b last t u some h = elim some [ ]
  behind-has (Post p rest) b last t u some h =
      let next = posts_type-gives (type_by (post_verdict scopes last p (Some t))) rest (last_of_post p) u h in
      let given = post_of-has p b last t next.0 next.1 in
      let others = rest-has rest (last_of_post p) next.0 u given.0 next.2 in (
        others.0,
        λ base v hv. with_ok-if_by (λ w. HasType w next.0) (λ w. HasType w u) (post_of limits env p b s v) _ (given.1 base v hv)
            (λ w hw. others.1 w (subst (HasType w) (sym (given.0 None)) hw)),
      )
