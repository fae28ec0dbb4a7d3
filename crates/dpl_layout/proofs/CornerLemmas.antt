-- A domain has an index exactly where each of its ranges has a member.
use Rattle.std.proofs.Common.{◌≡◌, ◌≤◌, ◌*◌, ℕ, ℤ, List, [], ◌∷◌, Option, Some, None, IsSome, IsNone, length, Contains, map, flat_map, refl, ap, sym, subst, ◌∙◌, arith}
use Rattle.std.proofs.Math.Nat.{mul-le-mul}
use Rattle.std.proofs.lemmas.List.{nil_from_length}
use Rattle.dpl_sets.specs.Ranges.{RangeValue, members_of}
use Rattle.dpl_sets.specs.Indices.{indices, tuples}
use Rattle.dpl_domain.specs.Ranks.{last_of, point, IsPadded}
use Rattle.dpl_domain.proofs.TupleLemmas.{length-indices}
use Rattle.dpl_map.specs.Maps.{AxisValue}
use Rattle.dpl_map.proofs.ListLemmas.{Contains-nothing}
use Rattle.dpl_layout.specs.declared.named.Named.{Named}
use Rattle.dpl_layout.specs.declared.named.Named.TheVariants.{Whole, Block, Cyclic, BlockCyclic}
use Rattle.dpl_layout.specs.Layouts.{LayoutValue}
use Rattle.dpl_layout.specs.Roots.{IsLeastOf, IsFromLeast, IsNamed, IsCyclicOf}

pub outer-empty : (rank : ℕ) (o m i : RangeValue) → IsPadded point rank o m → members_of o ≡ [] → indices (last_of rank o m i) ≡ []
outer-empty rank o m i padded empty = nil_from_length _ (length-indices rank o m i padded ∙ rw empty (omega arith))

pub middle-empty : (rank : ℕ) (o m i : RangeValue) → IsPadded point rank o m → members_of m ≡ [] → indices (last_of rank o m i) ≡ []
middle-empty rank o m i padded empty = nil_from_length _ (length-indices rank o m i padded ∙ rw empty (omega arith))

pub inner-empty : (rank : ℕ) (o m i : RangeValue) → IsPadded point rank o m → members_of i ≡ [] → indices (last_of rank o m i) ≡ []
inner-empty rank o m i padded empty = nil_from_length _ (length-indices rank o m i padded ∙ rw empty (omega arith))

-- a list that isn't empty has an element
some-length : {A : Type 0} (xs : List A) → (xs ≡ [] → ⊥) → 1 ≤ length xs
some-length [] some = absurd (some refl)
some-length (x ∷ xs) some = omega arith

pub all-some : (rank : ℕ) (o m i : RangeValue) → IsPadded point rank o m → (members_of o ≡ [] → ⊥) → (members_of m ≡ [] → ⊥) → (members_of i ≡ [] → ⊥) → indices (last_of rank o m i) ≡ [] → ⊥
all-some rank o m i padded outer middle inner empty =
    let os = length (members_of o) in
    let ms = length (members_of m) in
    let is = length (members_of i) in
    let plane : 1 * 1 ≤ os * ms = mul-le-mul {n₁ = 1} {m₁ = 1} {n₂ = os} {m₂ = ms} (some-length _ outer) (some-length _ middle) in
    let space : 1 * 1 * 1 ≤ os * ms * is = mul-le-mul {n₁ = 1 * 1} {m₁ = 1} {n₂ = os * ms} {m₂ = is} plane (some-length _ inner) in
    let none : os * ms * is ≡ 0 = sym (length-indices rank o m i padded) ∙ ap length empty in
    omega (arith, space, none)

pub is-some : {A : Type 0} (o : Option A) (x : A) → o ≡ Some x → IsNone o → ⊥
is-some None x is none = cc
is-some (Some y) x is none = cc

pub not-both : {A : Type 0} (o : Option A) → IsSome o → IsNone o → ⊥
not-both None some none = cc
not-both (Some y) some none = cc

-- a product of lists that aren't empty isn't empty
product-some : (is : List ℤ) (rest : List (List ℤ)) → (is ≡ [] → ⊥) → (rest ≡ [] → ⊥) → flat_map (λ i. map (λ t. i ∷ t) rest) is ≡ [] → ⊥
product-some [] rest some others empty = some refl
product-some (i ∷ is) [] some others empty = others refl
product-some (i ∷ is) (t ∷ ts) some others empty = cc

tuples-some : (d : List RangeValue) (start : List ℤ) → IsLeastOf d start → tuples (map members_of d) ≡ [] → ⊥
tuples-some [] [] least empty = cc
tuples-some [] (i ∷ start) least empty = least
tuples-some (r ∷ d) [] least empty = least
tuples-some (r ∷ d) (i ∷ start) least empty =
    product-some (members_of r) (tuples (map members_of d)) (λ none. Contains-nothing i (subst (λ is. Contains is i) none least.0.is_member)) (tuples-some d start least.1) empty

-- a domain with least members has an index
pub least-some : (d : List RangeValue) (start : List ℤ) → IsLeastOf d start → indices d ≡ [] → ⊥
unfolding indices
least-some d start least empty = tuples-some d start least empty

-- the map that a cyclic map from the least members names
pub IsCyclicOf-named : (l : LayoutValue) (d : List RangeValue) (named : Named) (m : List AxisValue) → IsFromLeast d named → IsNamed l named m → IsCyclicOf l d m
IsCyclicOf-named l d Whole m none is = record { empty = λ e. is; some = λ some. absurd (some none) }
IsCyclicOf-named l d (Block box) m from is = absurd from
IsCyclicOf-named l d (Cyclic start) m least is = record { empty = λ e. absurd (least-some d start least e); some = λ some. (start, least, is) }
IsCyclicOf-named l d (BlockCyclic start sizes) m from is = absurd from
