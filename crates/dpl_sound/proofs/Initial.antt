-- An initial value that the rules take has the declared type, and a default has it.
-- One lemma for each kind of declared type, over the type of the initial value.
use Rattle.std.proofs.Common.{◌≡◌, ℕ, pos, Bool, true, false, [], ◌++◌, replicate, zero, suc, Option, Some, None, refl, subst}
use Rattle.std.specs.Prelude.{◌&&◌, ◌==◌, not}
use Rattle.std.proofs.lemmas.List.{length-replicate}
use Rattle.std.proofs.lemmas.Bool.Decides.{Decides-eqb}
use Rattle.dpl_syntax.specs.declared.place.Place.{Place}
use Rattle.dpl_syntax.specs.declared.refusal.Code.TheVariants.{WrongType}
use Rattle.dpl_language.specs.Tree.{Kind, IntKind, BoolKind, MappedTree, InitTree, ItemInit, CreateInit}
use Rattle.dpl_language.specs.Values.{Value, Domain, Index, default}
use Rattle.dpl_language.specs.Ranges.{unstrided, empty_domain}
use Rattle.dpl_language.specs.Names.{Text}
use Rattle.dpl_rules.specs.Types.{Over, ValueType, Scalar, Domain as DomainType, Array as ArrayType, Promoted}
use Rattle.dpl_rules.specs.Types.{same_kind, agrees}
use Rattle.dpl_rules.specs.Verdicts.{owed, owed_type, breach}
use Rattle.dpl_rules.specs.Places.{first_of_item}
use Rattle.dpl_rules.specs.Sights.{Scopes}
use Rattle.dpl_rules.specs.Maps.{mapped_breaches}
use Rattle.dpl_rules.specs.Expressions.{side_part, side_breaches}
use Rattle.dpl_rules.specs.Declarations.{type_rank, is_initial, is_untyped, agreeing, unmapped, init_part, create_breaches, untyped_breaches, typed_breaches}
use Rattle.dpl_rules.proofs.Admission.{first_empty, second_empty}
use Rattle.dpl_sound.proofs.Given.{both_so}
use Rattle.dpl_sound.specs.Typed.{OfKind, ArePlain, HasType, type_at}

-- ---- defaults
pub default-kind : (k : Kind) → OfKind k (default k)
default-kind IntKind = (_, refl)
default-kind BoolKind = (_, refl)

replicate-plain : (n : ℕ) → ArePlain (replicate n (unstrided (pos 1) (pos 0)))
replicate-plain zero = tt
replicate-plain (suc n) = (refl, replicate-plain n)

pub empty_domain-type : (rank : ℕ) → HasType (Domain (empty_domain rank)) (DomainType rank false)
empty_domain-type rank = (empty_domain rank, refl, (length-replicate rank (unstrided (pos 1) (pos 0)), replicate-plain rank))

-- ---- tests
owed_so : (b : Bool) (at : Place) → owed b at WrongType ≡ [] → b ≡ true
owed_so true at h = refl
owed_so false at h = absurd cc

pub same_kind-so : (k l : Kind) → same_kind k l ≡ true → l ≡ k
same_kind-so IntKind IntKind h = refl
same_kind-so IntKind BoolKind h = absurd cc
same_kind-so BoolKind IntKind h = absurd cc
same_kind-so BoolKind BoolKind h = refl

-- the type of an initial value, where no breach of a rule on it is told
abbrev pub Takes : ValueType → ValueType → Type 0
Takes declared t = (at : Place) × (owed_type (is_initial declared) at (Some t) ≡ [])

kind-type : (k l : Kind) (v : Value) → same_kind k l ≡ true → OfKind l v → OfKind k v
kind-type k l v h p = subst (λ j. OfKind j v) (same_kind-so k l h) p

pub scalar-takes : (k : Kind) (t : ValueType) (v : Value) → Takes (Scalar k) t → HasType v (type_at t None) → OfKind k v
scalar-takes k (Scalar l) v h hv = kind-type k l v (owed_so (same_kind k l) h.0 h.1) hv
scalar-takes k _ v h hv = absurd cc

domain-same : (rank r : ℕ) (strided : Bool) (v : Value) → (r == rank) ≡ true → not strided ≡ true → HasType v (DomainType r strided) → HasType v (DomainType rank false)
domain-same rank r true v e h hv = absurd cc
domain-same rank r false v e h hv = subst (λ n. HasType v (DomainType n false)) ((Decides-eqb r rank).0 e) hv

pub domain-takes : (rank : ℕ) (t : ValueType) (v : Value) → Takes (DomainType rank false) t → HasType v (type_at t None) → HasType v (DomainType rank false)
domain-takes rank (DomainType r strided) v h hv =
    let both = both_so (r == rank) (not strided) (owed_so ((r == rank) && not strided) h.0 h.1) in
    domain-same rank r strided v both.0 both.1 hv
domain-takes rank _ v h hv = absurd cc

-- what each element of an array can be given once
pub array-takes : (k : Kind) (over : Over) (t : ValueType) (v : Value) → Takes (ArrayType k over) t → ((l : Kind) (o : Over) → t ≡ ArrayType l o → ⊥) → HasType v (type_at t None) → OfKind k v
array-takes k over (Scalar l) v h whole hv = kind-type k l v (both_so (same_kind k l) true (owed_so (same_kind k l && true) h.0 h.1)).0 hv
array-takes k over (ArrayType l o) v h whole hv = elim (whole l o refl) [ ]
array-takes k over (Promoted l o) v h whole hv =
    kind-type k l v (both_so (same_kind k l) (agrees over (Some o)) (owed_so (same_kind k l && agrees over (Some o)) h.0 h.1)).0 hv
array-takes k over _ v h whole hv = absurd cc

-- what each element is given at its index
pub array-takes_at : (k : Kind) (over : Over) (t : ValueType) (i : Index) (v : Value) → Takes (ArrayType k over) t → HasType v (type_at t (Some i)) → OfKind k v
array-takes_at k over (Scalar l) i v h hv = kind-type k l v (both_so (same_kind k l) true (owed_so (same_kind k l && true) h.0 h.1)).0 hv
array-takes_at k over (ArrayType l o) i v h hv =
    kind-type k l v (both_so (same_kind k l) (agrees over (Some o)) (owed_so (same_kind k l && agrees over (Some o)) h.0 h.1)).0 hv
array-takes_at k over (Promoted l o) i v h hv =
    kind-type k l v (both_so (same_kind k l) (agrees over (Some o)) (owed_so (same_kind k l && agrees over (Some o)) h.0 h.1)).0 hv
array-takes_at k over _ i v h hv = absurd cc

-- what a name without a type is given
untyped-takes : (mapped : Option (MappedTree Text)) (at : Place) (t : ValueType) (v : Value) → owed_type (is_untyped mapped) at (Some t) ≡ [] → HasType v (type_at t None) → HasType v t
untyped-takes None at (ArrayType k over) v h hv = absurd cc
untyped-takes (Some m) at (ArrayType k over) v h hv = absurd cc
untyped-takes None at (Promoted k over) v h hv = absurd cc
untyped-takes (Some m) at (Promoted k over) v h hv = absurd cc
untyped-takes mapped at _ v h hv = hv

-- ---- initial values without a breach
module _ (scopes : Scopes) where
  -- beside a type: it is an item, which the type takes
  pub typed-takes : (declared : ValueType) (init : InitTree Text) (t : ValueType) → typed_breaches scopes (Some declared) init ≡ [] → (init_part scopes init).type ≡ Some t
      → Takes declared t
  typed-takes declared (ItemInit item mapped) t h e =
      let sides = side_breaches scopes item in
      let agrees = agreeing (Some declared) (side_part scopes item) in
      let maps = mapped_breaches scopes (type_rank (side_part scopes item).type) mapped in (
        first_of_item item,
        subst (λ o. owed_type (is_initial declared) (first_of_item item) o ≡ []) e
            (second_empty sides agrees (first_empty (sides ++ agrees) (unmapped mapped) (first_empty (sides ++ agrees ++ unmapped mapped) maps h))),
      )
  typed-takes declared (CreateInit c) t h e = elim (told (second_empty (create_breaches scopes c) (breach c.at WrongType) h)) [ ]
    where
      told : breach c.at WrongType ≡ [] → ⊥
      told h = absurd cc

  -- without a type
  pub untyped-gives : (item : _) (mapped : Option (MappedTree Text)) (t : ValueType) (v : Value) → untyped_breaches scopes (ItemInit item mapped) ≡ []
      → (side_part scopes item).type ≡ Some t → HasType v (type_at t None) → HasType v t
  untyped-gives item mapped t v h e hv =
      let sides = side_breaches scopes item in
      let kept = owed_type (is_untyped mapped) (first_of_item item) (side_part scopes item).type in
      let maps = mapped_breaches scopes (type_rank (side_part scopes item).type) mapped in
      untyped-takes mapped (first_of_item item) t v
      (subst (λ o. owed_type (is_untyped mapped) (first_of_item item) o ≡ []) e (second_empty sides kept (first_empty (sides ++ kept) maps h))) hv
