-- The members of a range are in order, so the least and the greatest of them are its two ends.
use Rattle.std.proofs.Common.{◌≡◌, ℕ, ◌-◌, ◌*◌, ◌<◌, ◌≤◌, List, [], ◌∷◌, length, ap, sym, ◌∙◌, arith, Some, None, ℤ, pos, negsuc, ◌<ℤ◌, ◌≤ℤ◌, slice_get, ◌↔◌, unsigned_abs, All, Contains, IsNone, IfSome, refl, get_or, Option, is_some, true, subst}
use Rattle.std.proofs.lemmas.Option.{slice_get-get_or, slice_get_within, get_or_from_slice_get, same_Some, IfSome_then}
use Rattle.std.proofs.lemmas.Int.{ints}
use Rattle.std.proofs.Math.Nat.{mul-le-mul_right}
use Rattle.dpl_sets.specs.Ranges.{RangeValue, members_of}
use Rattle.dpl_range.specs.Invariant.{IsRange}
use Rattle.dpl_range.specs.Walk.{walked}
use Rattle.dpl_range.proofs.MemberLemmas.{nth-walked}

-- an element is contained in its list
pub Contains-slice_get : {X : Type 0} (xs : List X) (k : ℕ) (x : X) → slice_get xs k ≡ Some x → Contains xs x
Contains-slice_get xs k x found = (k, slice_get_within xs k x found, get_or_from_slice_get xs k x x found)

-- and what is contained stands somewhere
pub slice_get-Contains : {X : Type 0} (xs : List X) (x : X) → Contains xs x → (k : ℕ) × (slice_get xs k ≡ Some x)
slice_get-Contains xs x held = (held.0, slice_get-get_or xs held.0 x held.1 ∙ ap Some held.2)

-- an element that may be missing is contained where it is there
pub IfSome-slice_get : (is : List ℤ) (k : ℕ) → IfSome (slice_get is k) (Contains is)
IfSome-slice_get is k = go (slice_get is k) refl
  where
    go : (o : Option ℤ) → slice_get is k ≡ o → IfSome o (Contains is)
    go None e = tt
    go (Some i) e = Contains-slice_get is k i e

IsNone-within : (is : List ℤ) (k : ℕ) → k < length is → IsNone (slice_get is k) → ⊥
IsNone-within is k within none = let there : is_some (slice_get is k) ≡ true = ap is_some (slice_get-get_or is k (pos 0) within) in cc

-- the first and the last element are there unless the list is empty
pub IsNone-first : (is : List ℤ) → IsNone (slice_get is 0) ↔ (is ≡ [])
IsNone-first [] = ((λ _. refl), (λ _. refl))
IsNone-first (i ∷ is) = ((λ none. absurd (IsNone-within (i ∷ is) 0 (omega arith) none)), (λ empty. cc))

pub IsNone-last : (is : List ℤ) → IsNone (slice_get is (length is - 1)) ↔ (is ≡ [])
IsNone-last [] = ((λ _. refl), (λ _. refl))
IsNone-last (i ∷ is) = ((λ none. absurd (IsNone-within (i ∷ is) (length (i ∷ is) - 1) (omega arith) none)), (λ empty. cc))

-- an integer is no later than another in the order of a stride
abbrev pub InOrder : ℤ → ℤ → ℤ → Type 0
InOrder (pos _) a b = a ≤ℤ b
InOrder (negsuc _) a b = b ≤ℤ a

-- a walk keeps that order
pub InOrder-walked : (low high stride : ℤ) (a b : ℕ) → a ≤ b → InOrder stride (walked low high stride a) (walked low high stride b)
InOrder-walked low high (pos s) a b h = omega (arith, ints)
InOrder-walked low high (negsuc s) a b h = omega (arith, ints)

-- and so do the members
pub InOrder-members : (r : RangeValue) (j k : ℕ) (a b : ℤ) → IsRange r → j ≤ k → slice_get (members_of r) j ≡ Some a → slice_get (members_of r) k ≡ Some b → InOrder r.stride a b
InOrder-members r j k a b limits before here there =
    let at_j = nth-walked r j limits (slice_get_within (members_of r) j a here) in
    let at_k = nth-walked r k limits (slice_get_within (members_of r) k b there) in
    let is_a = same_Some _ a (sym at_j ∙ here) in
    let is_b = same_Some _ b (sym at_k ∙ there) in
    let d = InOrder-walked r.low r.high r.stride (j * unsigned_abs r.stride) (k * unsigned_abs r.stride) (mul-le-mul_right (unsigned_abs r.stride) before) in
    subst (λ x. InOrder r.stride x b) is_a (subst (λ x. InOrder r.stride (walked r.low r.high r.stride (j * unsigned_abs r.stride)) x) is_b d)

-- the first member is no later than any other, and the last no earlier
pub InOrder-first : (r : RangeValue) → IsRange r → IfSome (slice_get (members_of r) 0) (λ i. All (λ j. InOrder r.stride i j) (members_of r))
InOrder-first r limits = go (slice_get (members_of r) 0) refl
  where
    go : (o : Option ℤ) → slice_get (members_of r) 0 ≡ o → IfSome o (λ i. All (λ j. InOrder r.stride i j) (members_of r))
    go None e = tt
    go (Some i) e = λ k d within. InOrder-members r 0 k i (get_or (members_of r) k d) limits (omega arith) e (slice_get-get_or (members_of r) k d within)

pub InOrder-last : (r : RangeValue) → IsRange r → IfSome (slice_get (members_of r) (length (members_of r) - 1)) (λ i. All (λ j. InOrder r.stride j i) (members_of r))
InOrder-last r limits = go (slice_get (members_of r) (length (members_of r) - 1)) refl
  where
    go : (o : Option ℤ) → slice_get (members_of r) (length (members_of r) - 1) ≡ o → IfSome o (λ i. All (λ j. InOrder r.stride j i) (members_of r))
    go None e = tt
    go (Some i) e = λ k d within. InOrder-members r k (length (members_of r) - 1) (get_or (members_of r) k d) i limits (omega arith) (slice_get-get_or (members_of r) k d within) e

-- the order of a stride above 0 is that of the integers, and of one below 0 the other way round
pub rising_order : (stride : ℤ) → pos 0 <ℤ stride → (a b : ℤ) → InOrder stride a b → a ≤ℤ b
rising_order (pos s) h a b order = order
rising_order (negsuc s) h a b order = absurd (omega (arith, ints))

pub falling_order : (stride : ℤ) → stride ≤ℤ pos 0 → 0 < unsigned_abs stride → (a b : ℤ) → InOrder stride a b → b ≤ℤ a
falling_order (pos s) h positive a b order = absurd (omega (arith, ints))
falling_order (negsuc s) h positive a b order = order

-- so the least member is the first or the last, by the stride's sign, and the greatest the other
pub least-first : (r : RangeValue) → IsRange r → pos 0 <ℤ r.stride → IfSome (slice_get (members_of r) 0) (λ i. All (λ j. i ≤ℤ j) (members_of r))
least-first r limits rises =
    IfSome_then (slice_get (members_of r) 0) (InOrder-first r limits)
    (λ i all k d within. rising_order r.stride rises i (get_or (members_of r) k d) (all k d within))

pub least-last : (r : RangeValue) → IsRange r → r.stride ≤ℤ pos 0 → IfSome (slice_get (members_of r) (length (members_of r) - 1)) (λ i. All (λ j. i ≤ℤ j) (members_of r))
least-last r limits falls =
    IfSome_then (slice_get (members_of r) (length (members_of r) - 1)) (InOrder-last r limits)
    (λ i all k d within. falling_order r.stride falls limits.stride_is_not_zero (get_or (members_of r) k d) i (all k d within))

pub greatest-last : (r : RangeValue) → IsRange r → pos 0 <ℤ r.stride → IfSome (slice_get (members_of r) (length (members_of r) - 1)) (λ i. All (λ j. j ≤ℤ i) (members_of r))
greatest-last r limits rises =
    IfSome_then (slice_get (members_of r) (length (members_of r) - 1)) (InOrder-last r limits)
    (λ i all k d within. rising_order r.stride rises (get_or (members_of r) k d) i (all k d within))

pub greatest-first : (r : RangeValue) → IsRange r → r.stride ≤ℤ pos 0 → IfSome (slice_get (members_of r) 0) (λ i. All (λ j. j ≤ℤ i) (members_of r))
greatest-first r limits falls =
    IfSome_then (slice_get (members_of r) 0) (InOrder-first r limits)
    (λ i all k d within. falling_order r.stride falls limits.stride_is_not_zero i (get_or (members_of r) k d) (all k d within))

-- what has a place in a list is contained, and what has none is not
pub contains-place : {X : Type 0} (xs : List X) (x : X) (place : Option ℕ) → ((k : ℕ) → (place ≡ Some k) ↔ (slice_get xs k ≡ Some x)) → (is_some place ≡ true) ↔ Contains xs x
contains-place xs x None inverse =
    ((λ there. cc), (λ held. let found = slice_get-Contains xs x held in let e : None ≡ Some found.0 = (inverse found.0).1 found.1 in cc))
contains-place xs x (Some k) inverse = ((λ there. Contains-slice_get xs k x ((inverse k).0 refl)), (λ held. refl))
