-- What the methods of a range tell, in the words of the language: how many members, the ends of the list, the least and
-- the greatest member, and whether a number is one. A range's code tells each of these by its bounds and its stride.
use Rattle.std.proofs.Common.{◌≡◌, ℕ, ◌+◌, ◌-◌, ◌*◌, ◌/◌, true, false, ◌||◌, List, [], ◌∷◌, length, Option, Some, None, Result, Ok, Err, ℤ, pos, ◌-ℤ◌, ◌+ℤ◌, ◌<ℤ◌, ◌≤ℤ◌, slice_get}
use Rattle.std.proofs.Common.{unsigned_abs, int_lt, All, Contains, IsNone, IfSome, Decides, ◌↔◌, ◌⊎◌, inl, inr, ⊎_elim, refl, ap, sym, ◌∙◌, subst, arith}
use Rattle.std.specs.Ordering.{int_eq}
use Rattle.std.specs.List.{list_any, flat_map}
use Rattle.std.proofs.Math.Nat.{add-div_right, div-eq_of_lt}
use Rattle.std.proofs.Math.Bool.{and-true}
use Rattle.std.proofs.lemmas.Int.{ints, clamps, by_lt_z}
use Rattle.std.proofs.lemmas.Bool.Decides.{Decides-int_eq, Decides-at}
use Rattle.std.proofs.lemmas.Cmp.{int_eq_equiv}
use Rattle.std.proofs.lemmas.Map.Views.{list_any-from_Contains, Contains-from_any}
use Rattle.dpl_syntax.specs.declared.place.Place.{Place}
use Rattle.dpl_sets.specs.Ranges.{RangeValue, members_of}
use Rattle.dpl_range.specs.Invariant.{IsRange}
use Rattle.dpl_sets.specs.TextRanges.{TextRange}
use Rattle.dpl_range.proofs.MemberLemmas.{length-members, members-empty, span_of}
use Rattle.dpl_range.proofs.Ends.{Contains-slice_get, least-first, least-last, greatest-first, greatest-last}
use Rattle.dpl_sets.specs.Indices.{indices}
use Rattle.dpl_language.specs.Values.{Value, Int, Fault, fault, EmptyEnd}
use Rattle.dpl_language.specs.Ranges.{span, count_in, size_in, end_of, last_of, least_of, greatest_of, contains_index, same_index}

-- the integers from one bound to another, where the second is not below the first
span-is : (low high : ℤ) (n : ℕ) → low +ℤ pos n ≡ high → span low high ≡ n + 1
span-is low high n e =
    let ordered : int_lt high low ≡ false = grind (arith, ints) in
    let far : high -ℤ low ≡ pos n = omega (arith, ints) in
    rw (ordered, far) refl

span-empty : (low high : ℤ) → high <ℤ low → span low high ≡ 0
span-empty low high below = let apart : int_lt high low ≡ true = grind (arith, ints) in rw apart refl

-- how many members a range has, rounded up from its span
pub count_in-is : (r : TextRange) → IsRange r.value → count_in r ≡ length (members_of r.value)
count_in-is r limits =
    let step = unsigned_abs r.value.stride in
    by_lt_z r.value.high r.value.low
    (λ below.
    rw (span-empty r.value.low r.value.high below, members-empty r.value.low r.value.high r.value.stride below)
    (div-eq_of_lt (omega (arith, limits.stride_is_not_zero))))
    (λ ordered. let d = span_of r.value.low r.value.high ordered in
    let whole : d.0 + 1 + (step - 1) ≡ d.0 + step = omega (arith, limits.stride_is_not_zero) in
    ap (λ n. (n + (step - 1)) / step) (span-is r.value.low r.value.high d.0 d.1)
    ∙ ap (λ n. n / step) whole
    ∙ add-div_right d.0 limits.stride_is_not_zero
    ∙ sym (length-members r.value.low r.value.high r.value.stride d.0 step d.1 refl limits.stride_is_not_zero))

pub size_in-one : (r : TextRange) → IsRange r.value → size_in (r ∷ []) ≡ length (members_of r.value)
size_in-one r limits = let whole : count_in r * 1 ≡ count_in r = omega arith in whole ∙ count_in-is r limits

-- the end that was found, or the fault of an empty range
abbrev pub told_end : Place → Option ℤ → Result Value Fault
told_end at (Some i) = Ok (Int i)
told_end at None = Err (fault EmptyEnd at)

slice_get-last : (i : ℤ) (is : List ℤ) → slice_get (i ∷ is) (length is) ≡ Some (last_of i is)
slice_get-last i [] = refl
slice_get-last i (j ∷ js) = slice_get-last j js

slice_get-end : (i : ℤ) (is : List ℤ) → slice_get (i ∷ is) (length (i ∷ is) - 1) ≡ Some (last_of i is)
slice_get-end i is = let e : length (i ∷ is) - 1 ≡ length is = omega arith in rw e (slice_get-last i is)

-- the end of a list is its last element
pub end_of-last : (at : Place) (is : List ℤ) → end_of at last_of is ≡ told_end at (slice_get is (length is - 1))
end_of-last at [] = refl
end_of-last at (i ∷ is) = ap (told_end at) (sym (slice_get-end i is))

-- an element that is before each of a list
abbrev pub Leads : (ℤ → ℤ → Type 0) → List ℤ → Option ℤ → Type 0
Leads Before is o = IfSome o (λ i. All (λ j. Before i j) is)

-- which stands at one of the two ends
abbrev pub IsLedByEnd : (ℤ → ℤ → Type 0) → List ℤ → Type 0
IsLedByEnd Before is = Leads Before is (slice_get is 0) ⊎ Leads Before is (slice_get is (length is - 1))

-- the element of a list that is before each, and none of an empty list
abbrev pub IsEarliest : (ℤ → ℤ → Type 0) → List ℤ → Option ℤ → Type 0
IsEarliest Before is o = (IsNone o ↔ (is ≡ [])) × IfSome o (Contains is) × Leads Before is o

-- An order of integers, and the one of a list's two ends that is first in it: what is before both ends, and no earlier
-- than one of them, is that end.
module _ (Before : ℤ → ℤ → Type 0) (pick : ℤ → List ℤ → ℤ) (picks : (i j : ℤ) (js : List ℤ) → Before i j → Before i (last_of j js) → Before j i ⊎ Before (last_of j js) i → i ≡ pick j js) where
  before-held : (i j : ℤ) (is : List ℤ) → All (λ k. Before i k) is → Contains is j → Before i j
  before-held i j is all held = subst (λ k. Before i k) held.2 (all held.0 j held.1)

  picks-earliest : (i j : ℤ) (js : List ℤ) → IsLedByEnd Before (j ∷ js) → Contains (j ∷ js) i → All (λ k. Before i k) (j ∷ js) → i ≡ pick j js
  picks-earliest i j js led held all =
      let first = Contains-slice_get (j ∷ js) 0 j refl in
      let last = Contains-slice_get (j ∷ js) (length js) (last_of j js) (slice_get-last j js) in
      picks i j js (before-held i j (j ∷ js) all first) (before-held i (last_of j js) (j ∷ js) all last)
      (⊎_elim
      (λ h. inl (before-held j i (j ∷ js) h held))
      (λ h. inr (before-held (last_of j js) i (j ∷ js) (subst (Leads Before (j ∷ js)) (slice_get-end j js) h) held))
      led)

  -- the earliest element of a list in which an end is the earliest
  end_of-earliest : (at : Place) (is : List ℤ) (o : Option ℤ) → IsLedByEnd Before is → IsEarliest Before is o → end_of at pick is ≡ told_end at o
  end_of-earliest at [] None led earliest = refl
  end_of-earliest at [] (Some i) led earliest = absurd (omega (arith, earliest.1.1))
  end_of-earliest at (j ∷ js) None led earliest = absurd (let e : (j ∷ js) ≡ [] = earliest.0.0 refl in cc)
  end_of-earliest at (j ∷ js) (Some i) led earliest = ap (λ k. Ok (Int k)) (sym (picks-earliest i j js led earliest.1 earliest.2))

-- the least member of a range is the lesser of its two ends
pub end_of-least : (at : Place) (r : RangeValue) (o : Option ℤ) → IsRange r → IsEarliest (λ i j. i ≤ℤ j) (members_of r) o → end_of at least_of (members_of r) ≡ told_end at o
end_of-least at r o limits =
    end_of-earliest (λ i j. i ≤ℤ j) least_of
    (λ i j js first last end. ⊎_elim (λ h. omega (arith, ints, clamps)) (λ h. omega (arith, ints, clamps)) end) at (members_of r) o
    (by_lt_z (pos 0) r.stride (λ rises. inl (least-first r limits rises)) (λ falls. inr (least-last r limits falls)))

-- and the greatest member the greater
pub end_of-greatest : (at : Place) (r : RangeValue) (o : Option ℤ) → IsRange r → IsEarliest (λ i j. j ≤ℤ i) (members_of r) o → end_of at greatest_of (members_of r) ≡ told_end at o
end_of-greatest at r o limits =
    end_of-earliest (λ i j. j ≤ℤ i) greatest_of
    (λ i j js first last end. ⊎_elim (λ h. omega (arith, ints, clamps)) (λ h. omega (arith, ints, clamps)) end) at (members_of r) o
    (by_lt_z (pos 0) r.stride (λ rises. inr (greatest-last r limits rises)) (λ falls. inl (greatest-first r limits falls)))

-- an index of one coordinate is looked for among the numbers
list_any-numbers : (i : ℤ) (is : List ℤ) → list_any (same_index (i ∷ [])) (flat_map (λ j. (j ∷ []) ∷ []) is) ≡ list_any (int_eq i) is
list_any-numbers i [] = refl
list_any-numbers i (j ∷ js) = rw (and-true (int_eq i j)) (ap (λ b. int_eq i j || b) (list_any-numbers i js))

-- a range contains a number where that is a member
pub Decides-contains_index : (r : TextRange) (i : ℤ) → Decides (contains_index (r ∷ []) (i ∷ [])) (Contains (members_of r.value) i)
unfolding indices
Decides-contains_index r i =
    Decides-at (contains_index (r ∷ []) (i ∷ [])) (list_any (int_eq i) (members_of r.value)) (list_any-numbers i (members_of r.value)) (
      Contains-from_any (λ x y. (Decides-int_eq x y).0) i (members_of r.value),
      list_any-from_Contains int_eq_equiv i (members_of r.value),
    )
