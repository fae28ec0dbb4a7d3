-- Where each name in sight has a type, what breaks no rule has a type: then a rule that is looked at gives a type or is
-- broken, and each is looked at.
use Rattle.std.proofs.Common.{◌≡◌, ℕ, Bool, true, false, List, [], ◌∷◌, ◌++◌, length, Option, Some, None, refl, sym, subst}
use Rattle.std.specs.Prelude.{◌&&◌, not, nat_lt, is_some, if◌then◌else◌}
use Rattle.std.specs.Option.{option_or}
use Rattle.dpl_syntax.specs.declared.place.Place.{Place}
use Rattle.dpl_syntax.specs.declared.refusal.Breach.{Breach}
use Rattle.dpl_syntax.specs.declared.refusal.Code.TheVariants.{WrongType, CellMisused}
use Rattle.dpl_language.specs.Tree.{Kind, IntKind, Infix, Word, LowBound, DomainOf}
use Rattle.dpl_language.specs.Tree.{ExprTree, Number, TruthWord, Named, LocalesWord, LocaleCount, HereWord, Grouped, DomainLiteral, Prefixed, Reduced, Chain, Postfixed}
use Rattle.dpl_language.specs.Tree.{ItemTree, One, RangeItem, Stride, NoStride, By, Links, NoLinks, Link, Posts, NoPosts, Post, PostTree, Brackets, Rounds, Dotted}
use Rattle.dpl_language.specs.Tree.{MethodTree, Plainly, Dim, Contains, Expand, CellRead, Items, FirstItem, MoreItems, NoItems, NextItem, Exprs, FirstExpr, MoreExprs, NoExprs, NextExpr}
use Rattle.dpl_language.specs.Names.{Text}
use Rattle.dpl_rules.specs.Types.{Over, ValueType, Scalar, Range as RangeType, Domain as DomainType, Array as ArrayType, Locale as LocaleType, AllLocales as AllLocalesType}
use Rattle.dpl_rules.specs.Types.{Operand, operand_of, an_int, a_bool, same_kind, is_cell, is_bool, is_int, array_of, domain_of, op_kind}
use Rattle.dpl_rules.specs.Verdicts.{Part, part, Verdict, Has, Breaks, type_by, broken_by, breach, owed, wanted, misranked, has_if, judged, with_type, all_known}
use Rattle.dpl_rules.specs.Places.{first_of, last_of, last_of_post}
use Rattle.dpl_rules.specs.Sights.{Declared, Scopes, lookup}
use Rattle.dpl_rules.specs.Operators.{over_arrays, prefix_kind, prefixed, prefix_verdict, reduced_over, reduced, reduction_verdict, agree, Takes, Ints, Alike, Bools, taken}
use Rattle.dpl_rules.specs.Operators.{between, alike, taking, infix_verdict, any_strided, ranges_breaches, ranges_verdict, index_breaches}
use Rattle.dpl_rules.specs.Operators.{slice_breaches, locale_breaches, square_verdict, array_verdict, round_verdict, index_rank, domain_over, word_verdict, dim_verdict, contains_verdict, expand_verdict}
use Rattle.dpl_rules.specs.Expressions.{plain_name, name_verdict, bare_locales, locales_or, none_where, type_of, item_type, range_item_verdict, chain_type, posts_type, post_verdict, method_verdict}
use Rattle.dpl_rules.specs.Expressions.{item_parts, more_item_parts, expr_parts, more_expr_parts, expr_breaches, item_breaches, stride_breaches, chain_breaches, posts_breaches, post_breaches}
use Rattle.dpl_rules.specs.Deeds.{inner_reductions}
use Rattle.dpl_rules.specs.Expressions.{inner_chain, method_breaches, items_breaches, more_items_breaches, exprs_breaches, more_exprs_breaches}
use Rattle.dpl_rules.proofs.Admission.{first_empty, second_empty}

-- ---- verdicts that are looked at
-- a type, or at least one breach
abbrev pub IsTold : Verdict → Type 0
IsTold (Has t) = Unit {0}
IsTold (Breaks []) = ⊥
IsTold (Breaks (b ∷ bs)) = Unit {0}

-- it has some type
abbrev pub IsTyped : Option ValueType → Type 0
IsTyped o = (t : ValueType) × (o ≡ Some t)

pub told-typed : (v : Verdict) → IsTold v → broken_by v ≡ [] → IsTyped (type_by v)
told-typed (Has t) h e = (t, refl)
told-typed (Breaks []) h e = elim h [ ]
told-typed (Breaks (b ∷ bs)) h e = absurd cc

has_if-told : (b : Bool) (t : ValueType) (at : Place) → IsTold (has_if b t at)
has_if-told true t at = tt
has_if-told false t at = tt

judged_true-told : (bs : List Breach) (t : ValueType) → IsTold (judged true bs t)
judged_true-told [] t = tt
judged_true-told (b ∷ bs) t = tt

pub judged-told : (known : Bool) (bs : List Breach) (t : ValueType) → known ≡ true → IsTold (judged known bs t)
judged-told known bs t e = subst (λ k. IsTold (judged k bs t)) (sym e) (judged_true-told bs t)

prefixed-told : (at : Place) (k : Kind) (o : Option Operand) → IsTold (prefixed at k o)
prefixed-told at k None = tt
prefixed-told at k (Some o) = has_if-told (same_kind k o.kind) (over_arrays o.over k) at

reduced_over-told : (at : Place) (k l : Kind) (o : Option Over) → IsTold (reduced_over at k l o)
reduced_over-told at k l None = tt
reduced_over-told at k l (Some over) = has_if-told (same_kind k l) (Scalar k) at

reduced-told : (at : Place) (k : Kind) (o : Option Operand) → IsTold (reduced at k o)
reduced-told at k None = tt
reduced-told at k (Some o) = reduced_over-told at k o.kind o.over

between-told : (at : Place) (left right result : Kind) (a b : Option Operand) → IsTold (between at left right result a b)
between-told at left right result None b = tt
between-told at left right result (Some a) None = tt
between-told at left right result (Some a) (Some b) =
    has_if-told (same_kind left a.kind && same_kind right b.kind && agree a.over b.over) (over_arrays (option_or a.over b.over) result) at

alike-told : (at : Place) (a b : Option Operand) → IsTold (alike at a b)
alike-told at None b = tt
alike-told at (Some a) b = between-told at a.kind a.kind _ (Some a) b

taking-told : (takes : Takes) (at : Place) (a b : ValueType) → IsTold (taking takes at a b)
taking-told (Ints result) at a b = between-told at IntKind IntKind result (operand_of a) (operand_of b)
taking-told Alike at a b = alike-told at (operand_of a) (operand_of b)
taking-told Bools at a b = has_if-told (is_bool a && is_bool b) a_bool at

array_verdict-told : (last from : Place) (ps : List Part) (o : Option (Kind × Over)) → all_known ps ≡ true → IsTold (array_verdict last from ps o)
array_verdict-told last from ps None k = tt
array_verdict-told last from ps (Some a) k = judged-told (all_known ps) (index_breaches last a.1.rank ps) (Scalar a.0) k

square_verdict-told : (last from : Place) (ps : List Part) (t : ValueType) → all_known ps ≡ true → IsTold (square_verdict last from ps t)
square_verdict-told last from ps (RangeType strided) known = judged-told (all_known ps) (slice_breaches last 1 ps) (RangeType strided) known
square_verdict-told last from ps (DomainType rank strided) known = judged-told (all_known ps) (slice_breaches last rank ps) (DomainType rank strided) known
square_verdict-told last from ps (ArrayType k over) known = judged-told (all_known ps) (index_breaches last over.rank ps) (Scalar k) known
square_verdict-told last from ps AllLocalesType known = judged-told (all_known ps) (locale_breaches last ps) LocaleType known
square_verdict-told last from ps _ known = tt

domain_over-told : (at : Place) (o : Option (Kind × Over)) → IsTold (domain_over at o)
domain_over-told at None = tt
domain_over-told at (Some a) = tt

word_verdict-told : (at : Place) (w : Word) (t : ValueType) → IsTold (word_verdict at w t)
word_verdict-told at LowBound t = tt
word_verdict-told at DomainOf t = domain_over-told at (array_of t)
word_verdict-told at _ t = has_if-told _ an_int at

dim_if-told : (b : Bool) (rank_at : Place) (t : ValueType) → IsTold (if b then Has t else misranked rank_at)
dim_if-told true rank_at t = tt
dim_if-told false rank_at t = tt

dim_verdict-told : (at rank_at : Place) (d : ℕ) (o : Option (ℕ × Bool)) → IsTold (dim_verdict at rank_at d o)
dim_verdict-told at rank_at d None = tt
dim_verdict-told at rank_at d (Some x) = dim_if-told (nat_lt d x.0) rank_at (RangeType x.1)

contains_verdict-told : (at : Place) (ps : List Part) (o : Option ℕ) → all_known ps ≡ true → IsTold (contains_verdict at ps o)
contains_verdict-told at ps None k = tt
contains_verdict-told at ps (Some rank) k = judged-told (all_known ps) (index_breaches at rank ps) a_bool k

expand_verdict-told : (at : Place) (p : Part) (o : Option (ℕ × Bool)) → all_known (p ∷ []) ≡ true → IsTold (expand_verdict at p o)
expand_verdict-told at p None k = tt
expand_verdict-told at p (Some x) k = judged-told (all_known (p ∷ [])) (owed (not x.1) at WrongType ++ wanted is_int p) (DomainType x.0 false) k

-- ---- names
plain-told : (b : Bool) (at : Place) (t : ValueType) → IsTold (if b then Breaks (breach at CellMisused) else Has t)
plain-told true at t = tt
plain-told false at t = tt

-- each name in sight has a type
abbrev pub AreKnown : Scopes → Type 0
AreKnown scopes = (x : Text) (d : Declared) → lookup scopes x ≡ Some d → IsTyped d.type

name_verdict-told : (at : Place) (o : Option Declared) → ((d : Declared) → o ≡ Some d → IsTyped d.type) → IsTold (name_verdict at o)
name_verdict-told at None known = tt
name_verdict-told at (Some d) known =
    let type = known d refl in
    subst (λ o. IsTold (with_type o (plain_name at))) (sym type.1) (plain-told (is_cell type.0) at type.0)

-- ---- parts
known_part : (o : Option ValueType) → IsTyped o → is_some o ≡ true
known_part None h = absurd (none h.0 h.1)
  where
    none : (t : ValueType) → None ≡ Some t → ⊥
    none t e = absurd cc
known_part (Some t) h = refl

both : (a b : Bool) → a ≡ true → b ≡ true → (a && b) ≡ true
both true b p q = q
both false b p q = absurd cc

module _ (scopes : Scopes) (known : AreKnown scopes) where
  -- the verdict of a part with a type
  type_of-by : (o : Option ValueType) (go : ValueType → Verdict) → IsTyped o → ((t : ValueType) → IsTold (go t)) → IsTold (with_type o go)
  type_of-by o go h p = subst (λ o. IsTold (with_type o go)) (sym h.1) (p h.0)

  pub infix-by : (at : Place) (op : Infix) (a b : Option ValueType) → IsTyped a → IsTyped b → IsTold (infix_verdict at op a b)
  infix-by at op a b p q =
      subst (λ o. IsTold (infix_verdict at op o b)) (sym p.1) (subst (λ o. IsTold (infix_verdict at op (Some p.0) o)) (sym q.1) (taking-told (taken op) at p.0 q.0))

  -- the bare word `Locales`, which has no type and is told, stands before brackets
  base-typed : (e : ExprTree Text) → (expr_breaches scopes e ≡ [] → IsTyped (type_of scopes e)) → none_where (bare_locales e) (expr_breaches scopes e) ≡ []
      → IsTyped (locales_or (bare_locales e) (type_of scopes e))
  base-typed (LocalesWord at) own h = (AllLocalesType, refl)
  base-typed _ own h = own h

  mutual
    pub type_of-known : (e : ExprTree Text) → expr_breaches scopes e ≡ [] → IsTyped (type_of scopes e)
    type_of-known (Number at n) h = (an_int, refl)
    type_of-known (TruthWord at b) h = (a_bool, refl)
    type_of-known (Named x) h = told-typed (name_verdict x.at (lookup scopes x.name)) (name_verdict-told x.at (lookup scopes x.name) (known x.name)) h
    type_of-known (LocalesWord at) h = absurd cc
    type_of-known (LocaleCount at) h = (an_int, refl)
    type_of-known (HereWord at) h = (LocaleType, refl)
    type_of-known (Grouped from item upto) h = item_type-known item h
    type_of-known (DomainLiteral from items upto) h =
        let ps = item_parts scopes items in
        let parts = items-known items (first_empty (items_breaches scopes items) (broken_by (ranges_verdict from ps)) h) in
        told-typed (ranges_verdict from ps) (judged-told (all_known ps) (ranges_breaches from ps) (DomainType (length ps) (any_strided ps)) parts)
        (second_empty (items_breaches scopes items) (broken_by (ranges_verdict from ps)) h)
    type_of-known (Prefixed at op e) h =
        let verdict = prefix_verdict at op (type_of scopes e) in
        told-typed verdict
        (type_of-by (type_of scopes e) (λ t. prefixed at (prefix_kind op) (operand_of t)) (type_of-known e (first_empty (expr_breaches scopes e) (broken_by verdict) h))
        (λ t. prefixed-told at (prefix_kind op) (operand_of t))) (second_empty (expr_breaches scopes e) (broken_by verdict) h)
    type_of-known (Reduced at op word e) h =
        let verdict = reduction_verdict at op (type_of scopes e) in
        told-typed verdict
        (type_of-by (type_of scopes e) (λ t. reduced at (op_kind op) (operand_of t)) (type_of-known e (first_empty (expr_breaches scopes e) (broken_by verdict) h))
        (λ t. reduced-told at (op_kind op) (operand_of t))) (second_empty (expr_breaches scopes e) (broken_by verdict) h)
    type_of-known (Chain e rest) h =
        let own = expr_breaches scopes e in
        let others = chain_breaches scopes (type_of scopes e) rest in
        let told = first_empty (own ++ others) (inner_reductions (inner_chain scopes e rest)) h in
        chain_type-known rest (type_of scopes e) (type_of-known e (first_empty own others told)) (second_empty own others told)
    type_of-known (Postfixed e posts) h =
        let base = locales_or (bare_locales e) (type_of scopes e) in
        let own = none_where (bare_locales e) (expr_breaches scopes e) in
        posts_type-known posts (last_of e) base (base-typed e (λ none. type_of-known e none) (first_empty own (posts_breaches scopes (last_of e) base posts) h))
        (second_empty own (posts_breaches scopes (last_of e) base posts) h)

    pub item_type-known : (item : ItemTree Text) → item_breaches scopes item ≡ [] → IsTyped (item_type scopes item)
    item_type-known (One e) h = type_of-known e h
    item_type-known (RangeItem low at dots high by) h =
        let verdict = range_item_verdict scopes (part (first_of low) (type_of scopes low)) (part (first_of high) (type_of scopes high)) by in
        let ends = expr_breaches scopes low ++ expr_breaches scopes high in
        let parts = first_empty (ends ++ stride_breaches scopes by) (broken_by verdict) h in
        let both_ends = first_empty ends (stride_breaches scopes by) parts in
        told-typed verdict
        (range_item-told (first_of low) (first_of high) (type_of scopes low) (type_of scopes high) by (type_of-known low (first_empty (expr_breaches scopes low) (expr_breaches scopes high) both_ends))
        (type_of-known high (second_empty (expr_breaches scopes low) (expr_breaches scopes high) both_ends)) (second_empty ends (stride_breaches scopes by) parts))
        (second_empty (ends ++ stride_breaches scopes by) (broken_by verdict) h)

    range_item-told : (low_at high_at : Place) (low high : Option ValueType) (by : Stride Text) → IsTyped low → IsTyped high → stride_breaches scopes by ≡ []
        → IsTold (range_item_verdict scopes (part low_at low) (part high_at high) by)
    range_item-told low_at high_at low high NoStride p q h =
        judged-told (all_known (part low_at low ∷ part high_at high ∷ [])) _ (RangeType false) (both (is_some low) _ (known_part low p) (both (is_some high) true (known_part high q) refl))
    range_item-told low_at high_at low high (By at e) p q h =
        judged-told (all_known (part low_at low ∷ part high_at high ∷ part (first_of e) (type_of scopes e) ∷ [])) _ (RangeType true)
        (both (is_some low) _ (known_part low p) (both (is_some high) _ (known_part high q) (both (is_some (type_of scopes e)) true (known_part (type_of scopes e) (type_of-known e h)) refl)))

    chain_type-known : (rest : Links Text) (o : Option ValueType) → IsTyped o → chain_breaches scopes o rest ≡ [] → IsTyped (chain_type scopes o rest)
    chain_type-known NoLinks o p h = p
    chain_type-known (Link at op e rest) o p h =
        let verdict = infix_verdict at op o (type_of scopes e) in
        let others = chain_breaches scopes (type_by verdict) rest in
        let front = first_empty (expr_breaches scopes e ++ broken_by verdict) others h in
        chain_type-known rest (type_by verdict)
        (told-typed verdict (infix-by at op o (type_of scopes e) p (type_of-known e (first_empty (expr_breaches scopes e) (broken_by verdict) front)))
        (second_empty (expr_breaches scopes e) (broken_by verdict) front)) (second_empty (expr_breaches scopes e ++ broken_by verdict) others h)

    posts_type-known : (rest : Posts Text) (last : Place) (o : Option ValueType) → IsTyped o → posts_breaches scopes last o rest ≡ [] → IsTyped (posts_type scopes last o rest)
    posts_type-known NoPosts last o p h = p
    posts_type-known (Post p rest) last o typed h =
        let verdict = post_verdict scopes last p o in
        let others = posts_breaches scopes (last_of_post p) (type_by verdict) rest in
        let front = first_empty (post_breaches scopes p ++ broken_by verdict) others h in
        posts_type-known rest (last_of_post p) (type_by verdict)
        (told-typed verdict (post-told p last o typed (first_empty (post_breaches scopes p) (broken_by verdict) front)) (second_empty (post_breaches scopes p) (broken_by verdict) front))
        (second_empty (post_breaches scopes p ++ broken_by verdict) others h)

    pub post-told : (p : PostTree Text) (last : Place) (o : Option ValueType) → IsTyped o → post_breaches scopes p ≡ [] → IsTold (post_verdict scopes last p o)
    post-told (Brackets from items upto) last o typed h =
        type_of-by o (square_verdict last from (item_parts scopes items)) typed (λ t. square_verdict-told last from (item_parts scopes items) t (items-known items h))
    post-told (Rounds from es upto) last o typed h =
        type_of-by o (round_verdict last from (expr_parts scopes es)) typed (λ t. array_verdict-told last from (expr_parts scopes es) (array_of t) (exprs-known es h))
    post-told (Dotted dot m) last o typed h = type_of-by o (method_verdict scopes m) typed (λ t. method-told m t h)

    method-told : (m : MethodTree Text) (t : ValueType) → method_breaches scopes m ≡ [] → IsTold (method_verdict scopes m t)
    method-told (Plainly at w) t h = word_verdict-told at w t
    method-told (Dim at from rank_at d upto) t h = dim_verdict-told at rank_at d (domain_of t)
    method-told (Contains at from es upto) t h = contains_verdict-told at (expr_parts scopes es) (index_rank t) (exprs-known es h)
    method-told (Expand at from e upto) t h =
        expand_verdict-told at (part (first_of e) (type_of scopes e)) (domain_of t) (both (is_some (type_of scopes e)) true (known_part (type_of scopes e) (type_of-known e h)) refl)
    method-told (CellRead at w from upto) t h = tt

    pub items-known : (items : Items Text) → items_breaches scopes items ≡ [] → all_known (item_parts scopes items) ≡ true
    items-known (FirstItem i more) h =
        both (is_some (item_type scopes i)) (all_known (more_item_parts scopes more))
        (known_part (item_type scopes i) (item_type-known i (first_empty (item_breaches scopes i) (more_items_breaches scopes more) h)))
        (more_items-known more (second_empty (item_breaches scopes i) (more_items_breaches scopes more) h))

    more_items-known : (more : MoreItems Text) → more_items_breaches scopes more ≡ [] → all_known (more_item_parts scopes more) ≡ true
    more_items-known NoItems h = refl
    more_items-known (NextItem comma i more) h =
        both (is_some (item_type scopes i)) (all_known (more_item_parts scopes more))
        (known_part (item_type scopes i) (item_type-known i (first_empty (item_breaches scopes i) (more_items_breaches scopes more) h)))
        (more_items-known more (second_empty (item_breaches scopes i) (more_items_breaches scopes more) h))

    pub exprs-known : (es : Exprs Text) → exprs_breaches scopes es ≡ [] → all_known (expr_parts scopes es) ≡ true
    exprs-known (FirstExpr e more) h =
        both (is_some (type_of scopes e)) (all_known (more_expr_parts scopes more))
        (known_part (type_of scopes e) (type_of-known e (first_empty (expr_breaches scopes e) (more_exprs_breaches scopes more) h)))
        (more_exprs-known more (second_empty (expr_breaches scopes e) (more_exprs_breaches scopes more) h))

    more_exprs-known : (more : MoreExprs Text) → more_exprs_breaches scopes more ≡ [] → all_known (more_expr_parts scopes more) ≡ true
    more_exprs-known NoExprs h = refl
    more_exprs-known (NextExpr comma e more) h =
        both (is_some (type_of scopes e)) (all_known (more_expr_parts scopes more))
        (known_part (type_of scopes e) (type_of-known e (first_empty (expr_breaches scopes e) (more_exprs_breaches scopes more) h)))
        (more_exprs-known more (second_empty (expr_breaches scopes e) (more_exprs_breaches scopes more) h))
