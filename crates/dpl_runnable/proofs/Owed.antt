-- What a test on a type tells where it breaks no rule: that it holds, and of a test on a kind which type it is; and which kinds
-- types have for which tests hold.
use Rattle.std.proofs.Common.{◌≡◌, inl, inr, ℕ, Bool, true, false, [], Option, Some, None, is_some, refl, sym, ap, ◌∙◌, subst}
use Rattle.std.specs.Prelude.{◌==◌, ◌&&◌, ◌||◌, not}
use Rattle.dpl_syntax.specs.declared.place.Place.{Place}
use Rattle.dpl_syntax.specs.declared.refusal.Code.{Code}
use Rattle.dpl_syntax.specs.declared.refusal.Code.TheVariants.{WrongType}
use Rattle.dpl_language.specs.Tree.{Kind, IntKind, BoolKind}
use Rattle.dpl_rules.specs.Types.{Over, ValueType, Scalar, Domain, Array, Promoted, same_kind, domain_of, is_any_scalar, is_domain, has, is_scalar, is_domain_of, agrees, fits_array}
use Rattle.dpl_rules.specs.Verdicts.{owed, owed_type}
use Rattle.dpl_words.specs.Words.{IntLeaf, TruthLeaf}
use Rattle.dpl_sound.proofs.Given.{both_so}
use Rattle.dpl_memory.specs.Memory.{VariableKind, PlainKind, DomainKind, ArrayKind}
use Rattle.dpl_runnable.specs.Kinds.{leaf_of, IsScalarKind, IsGivenTo}
use Rattle.dpl_typed.specs.Typed.{is_rank}
use Rattle.dpl_typed.specs.Leaves.{value_kind}
use Rattle.dpl_runnable.proofs.Kept.{kind-same, kind_if-some}

pub owed-holds : (b : Bool) (at : Place) (code : Code) → owed b at code ≡ [] → b ≡ true
owed-holds true at code h = refl
owed-holds false at code h = absurd cc

pub owed_type-holds : (test : ValueType → Bool) (at : Place) (o : Option ValueType) (t : ValueType) → o ≡ Some t → owed_type test at o ≡ [] → test t ≡ true
owed_type-holds test at o t e h = owed-holds (test t) at WrongType (subst (λ o. owed_type test at o ≡ []) e h)

same_kind-is : (k l : Kind) → same_kind k l ≡ true → l ≡ k
same_kind-is IntKind IntKind h = refl
same_kind-is IntKind BoolKind h = absurd cc
same_kind-is BoolKind IntKind h = absurd cc
same_kind-is BoolKind BoolKind h = refl

pub is_scalar-is : (k : Kind) (t : ValueType) → is_scalar k t ≡ true → t ≡ Scalar k
is_scalar-is k (Scalar l) h = ap Scalar (same_kind-is k l h)
is_scalar-is k _ h = absurd cc

-- ---- kinds
-- what is of the kinds of ints and truth values is of a scalar's
pub scalar-by : (Q : VariableKind → Type 0) → Q (PlainKind IntLeaf) → Q (PlainKind TruthLeaf) → (l : Kind) (k : VariableKind) → value_kind (Scalar l) ≡ Some k → Q k
scalar-by Q i t IntKind k e = subst Q (kind-same (PlainKind IntLeaf) k e) i
scalar-by Q i t BoolKind k e = subst Q (kind-same (PlainKind TruthLeaf) k e) t

pub is_any_scalar-kind : (t : ValueType) (k : VariableKind) → value_kind t ≡ Some k → is_any_scalar t ≡ true → IsScalarKind k
is_any_scalar-kind (Scalar l) k e h = scalar-by IsScalarKind tt tt l k e
is_any_scalar-kind _ k e h = absurd cc

pub is_domain-kind : (t : ValueType) (k : VariableKind) → value_kind t ≡ Some k → is_domain t ≡ true → k ≡ DomainKind
is_domain-kind (Domain rank strided) k e h = sym (kind_if-some (is_rank rank) DomainKind k e).1
is_domain-kind _ k e h = absurd cc

has-some : {A : Type 0} (test : A → Bool) (o : Option A) → has test o ≡ true → is_some o ≡ true
has-some test None h = absurd cc
has-some test (Some x) h = refl

pub is_domain_of-kind : (rank : ℕ) (may_stride : Bool) (t : ValueType) (k : VariableKind) → value_kind t ≡ Some k → is_domain_of rank may_stride t ≡ true → k ≡ DomainKind
is_domain_of-kind rank may_stride t k e h = is_domain-kind t k e (has-some {A = ℕ × Bool} (λ d. d.0 == rank && (may_stride || not d.1)) (domain_of t) h)

-- ---- what is given
-- of its own kind
pub same-given : (k j : VariableKind) → j ≡ k → IsGivenTo k j
same-given (ArrayKind l) j e = inl e
same-given _ j e = e

pub scalar-leaf : (l : Kind) → value_kind (Scalar l) ≡ Some (PlainKind (leaf_of l))
scalar-leaf IntKind = refl
scalar-leaf BoolKind = refl

pub array-kind : (l : Kind) (over : Over) (k : VariableKind) → value_kind (Array l over) ≡ Some k → ArrayKind l ≡ k
array-kind l over k e = (kind_if-some (is_rank over.rank) (ArrayKind l) k e).1

-- what each element of an array may be given
elements-given : (l : Kind) (over : Over) (t : ValueType) (j : VariableKind) → value_kind t ≡ Some j → fits_array l over t ≡ true → IsGivenTo (ArrayKind l) j
elements-given l over (Scalar m) j e h =
    let same = same_kind-is l m (both_so (same_kind l m) (agrees over None) h).0 in
    inr (sym (kind-same (PlainKind (leaf_of m)) j (sym (scalar-leaf m) ∙ e)) ∙ ap (λ m. PlainKind (leaf_of m)) same)
elements-given l over (Array m other) j e h =
    let same = same_kind-is l m (both_so (same_kind l m) (agrees over (Some other)) h).0 in
    inl (sym (array-kind m other j e) ∙ ap ArrayKind same)
elements-given l over (Promoted m other) j e h =
    let same = same_kind-is l m (both_so (same_kind l m) (agrees over (Some other)) h).0 in
    inl (sym (array-kind m other j e) ∙ ap ArrayKind same)
elements-given l over _ j e h = absurd cc

-- to a variable of some type a value for which that type's test holds
module _ (k : VariableKind) (t : ValueType) (j : VariableKind) (e : value_kind t ≡ Some j) where
  pub is_scalar-given : (l : Kind) → value_kind (Scalar l) ≡ Some k → is_scalar l t ≡ true → IsGivenTo k j
  is_scalar-given l of_kind h = same-given k j (kind-same j k (sym e ∙ ap value_kind (is_scalar-is l t h) ∙ of_kind))

  pub is_domain_of-given : (rank : ℕ) (strided may_stride : Bool) → value_kind (Domain rank strided) ≡ Some k → is_domain_of rank may_stride t ≡ true → IsGivenTo k j
  is_domain_of-given rank strided may_stride of_kind h =
      same-given k j (is_domain_of-kind rank may_stride t j e h ∙ sym (is_domain-kind (Domain rank strided) k of_kind refl))

  pub fits_array-given : (l : Kind) (over : Over) → value_kind (Array l over) ≡ Some k → fits_array l over t ≡ true → IsGivenTo k j
  fits_array-given l over of_kind h = subst (λ k. IsGivenTo k j) (array-kind l over k of_kind) (elements-given l over t j e h)
