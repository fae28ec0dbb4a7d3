-- No index is listed twice, so an index stands at one place of its list.
use Rattle.std.proofs.Common.{◌≡◌, ℕ, zero, suc, ◌+◌, ◌*◌, ◌/◌, ◌%◌, List, [], ◌∷◌, length, refl, ap, sym, ◌∙◌, arith, Option, Some, None, ℤ, slice_get, map, ⊎_elim}
use Rattle.std.proofs.lemmas.Bool.{cases_lt}
use Rattle.std.proofs.lemmas.Nat.{div-add-mod', mod_below}
use Rattle.std.proofs.lemmas.Option.{none-some, same_Some, slice_get_within}
use Rattle.dpl_sets.specs.Ranges.{RangeValue, members_of}
use Rattle.dpl_range.specs.Invariant.{IsRange}
use Rattle.dpl_range.proofs.MemberLemmas.{members-distinct}
use Rattle.dpl_sets.specs.Indices.{tuples, indices}
use Rattle.dpl_domain.proofs.TupleLemmas.{cons_at, length-rows, slice_get-rows}

-- no element stands at two places
abbrev pub IsDistinct : {X : Type 0} → List X → Type 0
IsDistinct {X = X} xs = (j k : ℕ) (x : X) → slice_get xs j ≡ Some x → slice_get xs k ≡ Some x → j ≡ k

-- each of several lists is so
abbrev pub AreDistinct : List (List ℤ) → Type 0
AreDistinct [] = Unit {0}
AreDistinct (is ∷ rest) = IsDistinct is × AreDistinct rest

-- an element before a tuple, taken apart
cons_at-parts : (a : Option ℤ) (b : Option (List ℤ)) (t : List ℤ) → cons_at a b ≡ Some t → (i : ℤ) × (s : List ℤ) × (a ≡ Some i) × (b ≡ Some s) × (i ∷ s ≡ t)
cons_at-parts None b t found = absurd (none-some t found)
cons_at-parts (Some i) None t found = absurd (none-some t found)
cons_at-parts (Some i) (Some s) t found = (i, s, refl, refl, same_Some (i ∷ s) t found)

-- the element and the row that a place among the rows stands for
row-parts : (is : List ℤ) (rest : List (List ℤ)) (j : ℕ) (t : List ℤ) → slice_get (tuples (is ∷ rest)) j ≡ Some t → (i : ℤ) × (s : List ℤ) × (slice_get is (j / length (tuples rest)) ≡ Some i) × (slice_get (tuples rest) (j % length (tuples rest)) ≡ Some s) × (i ∷ s ≡ t)
row-parts is rest j t found =
    ⊎_elim
    (λ some.
    let whole : j / length (tuples rest) * length (tuples rest) + j % length (tuples rest) ≡ j = div-add-mod' j (length (tuples rest)) in
    let at = slice_get-rows is (tuples rest) (j / length (tuples rest)) (j % length (tuples rest)) (mod_below j (length (tuples rest)) some) in
    cons_at-parts _ _ t (sym at ∙ ap (slice_get (tuples (is ∷ rest))) whole ∙ found))
    (λ none.
    let no_rows : length (tuples rest) ≡ 0 = omega (arith, none) in
    let no_tuples : length (tuples (is ∷ rest)) ≡ length is * 0 = length-rows is (tuples rest) ∙ ap (λ n. length is * n) no_rows in
    let within = slice_get_within (tuples (is ∷ rest)) j t found in
    absurd (omega (arith, no_tuples, within)))
    (cases_lt 0 (length (tuples rest)))

pub tuples-distinct : (iss : List (List ℤ)) → AreDistinct iss → IsDistinct (tuples iss)
tuples-distinct [] distinct zero zero t here there = refl
tuples-distinct [] distinct zero (suc k) t here there = absurd (none-some t there)
tuples-distinct [] distinct (suc j) k t here there = absurd (none-some t here)
tuples-distinct (is ∷ rest) distinct j k t here there =
    let a = row-parts is rest j t here in
    let b = row-parts is rest k t there in
    let same : a.0 ∷ a.1 ≡ b.0 ∷ b.1 = a.4 ∙ sym b.4 in
    let heads : a.0 ≡ b.0 = cc in
    let tails : a.1 ≡ b.1 = cc in
    let rows : j / length (tuples rest) ≡ k / length (tuples rest) = distinct.0 _ _ b.0 (a.2 ∙ ap Some heads) b.2 in
    let columns : j % length (tuples rest) ≡ k % length (tuples rest) = tuples-distinct rest distinct.1 _ _ b.1 (a.3 ∙ ap Some tails) b.3 in
    sym (div-add-mod' j (length (tuples rest)))
    ∙ ap (λ n. n * length (tuples rest) + j % length (tuples rest)) rows
    ∙ ap (λ n. k / length (tuples rest) * length (tuples rest) + n) columns
    ∙ div-add-mod' k (length (tuples rest))

-- each range of a domain is within the limits of ranges
abbrev pub AreRanges : List RangeValue → Type 0
AreRanges [] = Unit {0}
AreRanges (r ∷ rs) = IsRange r × AreRanges rs

members-AreDistinct : (ranges : List RangeValue) → AreRanges ranges → AreDistinct (map members_of ranges)
members-AreDistinct [] limits = tt
members-AreDistinct (r ∷ rs) limits = ((λ j k i here there. members-distinct r j k i limits.0 here there), members-AreDistinct rs limits.1)

-- so an index stands at one place of the indices of a domain
pub indices-distinct : (ranges : List RangeValue) → AreRanges ranges → IsDistinct (indices ranges)
unfolding indices
indices-distinct ranges limits = tuples-distinct (map members_of ranges) (members-AreDistinct ranges limits)
