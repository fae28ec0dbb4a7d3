-- Two lists in one strict order with the same elements are one list. So a range is the filter of another
-- as soon as both go the same way and the one has those members of the other that pass.
use Rattle.std.proofs.Common.{◌≡◌, ℕ, zero, suc, ◌*◌, ◌<◌, List, [], ◌∷◌, ap, sym, ◌∙◌, arith, Some, None, ℤ, pos, negsuc, ◌<ℤ◌, ◌≤ℤ◌, ◌+ℤ◌, slice_get, ◌⊎◌, inl, inr, ⊎_elim, unsigned_abs, refl, Bool, true, false, cond, subst, filter, AllPairs}
use Rattle.std.proofs.lemmas.Option.{slice_get_within, get_or_from_slice_get, same_Some}
use Rattle.std.proofs.lemmas.List.Kept.{AllPairs-filter}
use Rattle.std.proofs.lemmas.Int.{ints}
use Rattle.std.proofs.Math.Nat.{mul-lt-mul_of_pos_right}
use Rattle.dpl_sets.specs.Ranges.{RangeValue, members_of}
use Rattle.dpl_range.specs.Invariant.{IsRange}
use Rattle.dpl_range.specs.Walk.{walked}
use Rattle.dpl_range.proofs.MemberLemmas.{nth-walked, member-within, place-walked}

-- an integer stands in a list
abbrev pub StandsIn : List ℤ → ℤ → Type 0
StandsIn is i = (k : ℕ) × (slice_get is k ≡ Some i)

StandsIn-cons : (x : ℤ) (xs : List ℤ) (i : ℤ) → StandsIn (x ∷ xs) i → (x ≡ i) ⊎ StandsIn xs i
StandsIn-cons x xs i (zero, here) = inl (same_Some x i here)
StandsIn-cons x xs i (suc k, later) = inr (k, later)

StandsIn-filter : (p : ℤ → Bool) (xs : List ℤ) (i : ℤ) → StandsIn (filter p xs) i → StandsIn xs i × (p i ≡ true)
StandsIn-filter p [] i s = absurd (cc s.1)
StandsIn-filter p (x ∷ xs) i s = go (p x) refl (StandsIn-filter p xs i) s
  where
    behind : (StandsIn (filter p xs) i → StandsIn xs i × (p i ≡ true)) → StandsIn (filter p xs) i → StandsIn (x ∷ xs) i × (p i ≡ true)
    behind rest s = let h = rest s in ((suc h.0.0, h.0.1), h.1)

    go : (b : Bool) → p x ≡ b → (StandsIn (filter p xs) i → StandsIn xs i × (p i ≡ true)) → StandsIn (cond b (x ∷ filter p xs) (filter p xs)) i → StandsIn (x ∷ xs) i × (p i ≡ true)
    go true passes rest s =
        ⊎_elim
        (λ here. ((0, ap Some here), subst (λ y. p y ≡ true) here passes))
        (behind rest)
        (StandsIn-cons x (filter p xs) i s)
    go false fails rest s = behind rest s

StandsIn-filtered : (p : ℤ → Bool) (xs : List ℤ) (i : ℤ) → StandsIn xs i → p i ≡ true → StandsIn (filter p xs) i
StandsIn-filtered p [] i s passes = absurd (cc s.1)
StandsIn-filtered p (x ∷ xs) i s passes = go (p x) refl (λ later. StandsIn-filtered p xs i later passes) (StandsIn-cons x xs i s)
  where
    go : (b : Bool) → p x ≡ b → (StandsIn xs i → StandsIn (filter p xs) i) → (x ≡ i) ⊎ StandsIn xs i → StandsIn (cond b (x ∷ filter p xs) (filter p xs)) i
    go true _ rest (inl here) = (0, ap Some here)
    go true _ rest (inr later) = let h = rest later in (suc h.0, h.1)
    go false fails rest (inl here) = absurd (let e : p i ≡ false = subst (λ y. p y ≡ false) here fails in cc)
    go false _ rest (inr later) = rest later

module _ (R : ℤ → ℤ → Type 0) (one_way : (a b : ℤ) → R a b → R b a → ⊥) where
  AllPairs-head : (x : ℤ) (xs : List ℤ) (y : ℤ) → AllPairs R (x ∷ xs) → StandsIn xs y → R x y
  AllPairs-head x xs y ordered s =
      subst (λ z. R x z) (get_or_from_slice_get xs s.0 y y s.1) (ordered 0 (suc s.0) y (omega arith) (omega (arith, slice_get_within xs s.0 y s.1)))

  AllPairs-tail : (x : ℤ) (xs : List ℤ) → AllPairs R (x ∷ xs) → AllPairs R xs
  AllPairs-tail x xs ordered = λ j k d before within. ordered (suc j) (suc k) d (omega arith) (omega arith)

  -- in two ordered lists with the same elements the heads are the same
  same_head : (x : ℤ) (xs : List ℤ) (y : ℤ) (ys : List ℤ) → AllPairs R (x ∷ xs) → AllPairs R (y ∷ ys) → StandsIn (y ∷ ys) x → StandsIn (x ∷ xs) y → x ≡ y
  same_head x xs y ys in_xs in_ys there back =
      ⊎_elim
      (λ here. sym here)
      (λ x_later. ⊎_elim
      (λ here. here)
      (λ y_later. absurd (one_way x y (AllPairs-head x xs y in_xs y_later) (AllPairs-head y ys x in_ys x_later)))
      (StandsIn-cons x xs y back))
      (StandsIn-cons y ys x there)

  -- and what stands behind the one head stands behind the other
  same_behind : (x : ℤ) (xs : List ℤ) (y : ℤ) (ys : List ℤ) → AllPairs R (x ∷ xs) → x ≡ y → ((i : ℤ) → StandsIn (x ∷ xs) i → StandsIn (y ∷ ys) i) → (i : ℤ) → StandsIn xs i → StandsIn ys i
  same_behind x xs y ys in_xs heads there i s =
      ⊎_elim
      (λ here. let e : x ≡ i = heads ∙ here in
      let after : R x i = AllPairs-head x xs i in_xs s in
      absurd (one_way i i (subst (λ z. R z i) e after) (subst (λ z. R z i) e after)))
      (λ later. later)
      (StandsIn-cons y ys i (there i (suc s.0, s.1)))

  pub same_ordered : (xs ys : List ℤ) → AllPairs R xs → AllPairs R ys → ((i : ℤ) → StandsIn xs i → StandsIn ys i) → ((i : ℤ) → StandsIn ys i → StandsIn xs i) → xs ≡ ys
  same_ordered [] [] in_xs in_ys there back = refl
  same_ordered [] (y ∷ ys) in_xs in_ys there back = absurd (let e : None ≡ Some y = (back y (0, refl)).1 in cc)
  same_ordered (x ∷ xs) [] in_xs in_ys there back = absurd (let e : None ≡ Some x = (there x (0, refl)).1 in cc)
  same_ordered (x ∷ xs) (y ∷ ys) in_xs in_ys there back =
      let heads : x ≡ y = same_head x xs y ys in_xs in_ys (there x (0, refl)) (back y (0, refl)) in
      let tails : xs ≡ ys =
      same_ordered xs ys (AllPairs-tail x xs in_xs) (AllPairs-tail y ys in_ys)
      (same_behind x xs y ys in_xs heads there)
      (same_behind y ys x xs in_ys (sym heads) back) in
      cc

-- an integer stands before another in the order of a stride
abbrev pub Precedes : ℤ → ℤ → ℤ → Type 0
Precedes (pos _) a b = a <ℤ b
Precedes (negsuc _) a b = b <ℤ a

Precedes-one_way : (stride a b : ℤ) → Precedes stride a b → Precedes stride b a → ⊥
Precedes-one_way (pos s) a b there back = omega (arith, ints)
Precedes-one_way (negsuc s) a b there back = omega (arith, ints)

Precedes-walked : (low high stride : ℤ) (a b : ℕ) → a < b → Precedes stride (walked low high stride a) (walked low high stride b)
Precedes-walked low high (pos s) a b h = omega (arith, ints)
Precedes-walked low high (negsuc s) a b h = omega (arith, ints)

-- the members of a range stand in the order of its stride
pub AllPairs-members : (r : RangeValue) → IsRange r → AllPairs (Precedes r.stride) (members_of r)
AllPairs-members r limits j k d before within =
    let at_j = get_or_from_slice_get (members_of r) j _ d (nth-walked r j limits (omega arith)) in
    let at_k = get_or_from_slice_get (members_of r) k _ d (nth-walked r k limits within) in
    let order = Precedes-walked r.low r.high r.stride (j * unsigned_abs r.stride) (k * unsigned_abs r.stride) (mul-lt-mul_of_pos_right before limits.stride_is_not_zero) in
    rw (at_j, at_k) order

-- which integers are members: those between the bounds at which the walk is after some strides
pub record IsMember (r : RangeValue) (i : ℤ) : Type 0 where
  pub low : r.low ≤ℤ i
  pub high : i ≤ℤ r.high
  pub strides : ℕ
  pub walk : i ≡ walked r.low r.high r.stride (strides * unsigned_abs r.stride)

pub IsMember-from_place : (r : RangeValue) (k : ℕ) (i : ℤ) → IsRange r → slice_get (members_of r) k ≡ Some i → IsMember r i
IsMember-from_place r k i limits found =
    let within = member-within r.low r.high r.stride k i limits.stride_is_not_zero found in
    let at = nth-walked r k limits (slice_get_within (members_of r) k i found) in
    record { low = within.0; high = within.1; strides = k; walk = same_Some i _ (sym found ∙ at) }

-- a walk between the bounds has gone no farther than they lie apart
walked-bounded : (low high stride : ℤ) (offset : ℕ) (i : ℤ) → low ≤ℤ i → i ≤ℤ high → i ≡ walked low high stride offset → (low +ℤ pos offset) ≤ℤ high
walked-bounded low high (pos s) offset i above below at = omega (arith, ints)
walked-bounded low high (negsuc s) offset i above below at = omega (arith, ints)

pub place-IsMember : (r : RangeValue) (i : ℤ) → IsRange r → (m : IsMember r i) → slice_get (members_of r) m.strides ≡ Some i
place-IsMember r i limits m =
    (place-walked r (m.strides * unsigned_abs r.stride) m.strides i limits
    (walked-bounded r.low r.high r.stride (m.strides * unsigned_abs r.stride) i m.low m.high m.walk) m.walk).1 refl

-- a range that goes the way of another and has those of its members that pass is its filter
pub filter-members : (r s : RangeValue) (p : ℤ → Bool) → IsRange r → IsRange s → ((a b : ℤ) → Precedes s.stride a b → Precedes r.stride a b) → ((i : ℤ) → IsMember s i → IsMember r i × (p i ≡ true)) → ((i : ℤ) → IsMember r i → p i ≡ true → IsMember s i) → members_of s ≡ filter p (members_of r)
filter-members r s p r_limits s_limits same_way there back =
    same_ordered (Precedes r.stride) (Precedes-one_way r.stride) (members_of s) (filter p (members_of r))
    (λ j k d before within. same_way _ _ (AllPairs-members s s_limits j k d before within))
    (AllPairs-filter (Precedes r.stride) p (members_of r) (AllPairs-members r r_limits))
    (λ i stands. let m = there i (IsMember-from_place s stands.0 i s_limits stands.1) in
    StandsIn-filtered p (members_of r) i (m.0.strides, place-IsMember r i r_limits m.0) m.1)
    (λ i stands. let h = StandsIn-filter p (members_of r) i stands in
    let m = back i (IsMember-from_place r h.0.0 i r_limits h.0.1) h.1 in
    (m.strides, place-IsMember s i s_limits m))
