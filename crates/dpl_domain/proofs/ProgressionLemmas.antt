-- Arithmetic progressions: the rest after one term, and the members of a range as one.
use Rattle.std.proofs.Common.{◌≡◌, ℕ, zero, suc, ◌-◌, ◌*◌, ◌<◌, List, [], ◌∷◌, length, refl, ap, sym, ◌∙◌, arith, Some, None, ℤ, pos, negsuc, ◌+ℤ◌, ◌-ℤ◌, slice_get, drop, All, unsigned_abs, ⊎_elim}
use Rattle.std.proofs.lemmas.Bool.{cases_lt}
use Rattle.std.proofs.lemmas.Int.{ints}
use Rattle.std.proofs.lemmas.Option.{slice_get_past, slice_get_within, same_Some}
use Rattle.std.proofs.Math.Nat.{suc-mul}
use Rattle.dpl_sets.specs.Ranges.{RangeValue, members_of, IsBound}
use Rattle.dpl_range.specs.Invariant.{IsRange}
use Rattle.dpl_range.specs.Walk.{walked}
use Rattle.dpl_range.proofs.Lists.{same_places}
use Rattle.dpl_range.proofs.MemberLemmas.{nth-walked, members-within}
use Rattle.dpl_domain.specs.Progression.{progression}

pub length-progression : (next step : ℤ) (n : ℕ) → length (progression next step n) ≡ n
length-progression next step zero = refl
length-progression next step (suc n) = ap suc (length-progression (next +ℤ step) step n)

-- the term at a place, for a step up and for one down
slice_get-rising : (next : ℤ) (step n k : ℕ) → k < n → slice_get (progression next (pos step) n) k ≡ Some (next +ℤ pos (k * step))
slice_get-rising next step zero k within = absurd (omega arith)
slice_get-rising next step (suc n) zero within = ap Some (let e : 0 * step ≡ 0 = omega arith in rw e (omega (arith, ints)))
slice_get-rising next step (suc n) (suc k) within =
    slice_get-rising (next +ℤ pos step) step n k (omega arith) ∙ ap Some (omega (arith, ints, suc-mul k step))

slice_get-falling : (next : ℤ) (step n k : ℕ) → k < n → slice_get (progression next (negsuc step) n) k ≡ Some (next -ℤ pos (k * suc step))
slice_get-falling next step zero k within = absurd (omega arith)
slice_get-falling next step (suc n) zero within = ap Some (let e : 0 * suc step ≡ 0 = omega arith in rw e (omega (arith, ints)))
slice_get-falling next step (suc n) (suc k) within =
    slice_get-falling (next +ℤ negsuc step) step n k (omega arith) ∙ ap Some (omega (arith, ints, suc-mul k (suc step)))

slice_get-progression : (low high stride : ℤ) (n k : ℕ) → k < n → slice_get (progression (walked low high stride 0) stride n) k ≡ Some (walked low high stride (k * unsigned_abs stride))
slice_get-progression low high (pos s) n k within = slice_get-rising (low +ℤ pos 0) s n k within ∙ ap Some (omega (arith, ints))
slice_get-progression low high (negsuc s) n k within = slice_get-falling (high -ℤ pos 0) s n k within ∙ ap Some (omega (arith, ints))

-- the members of a range
pub progression-members : (r : RangeValue) (first : ℤ) → IsRange r → slice_get (members_of r) 0 ≡ Some first → progression first r.stride (length (members_of r)) ≡ members_of r
progression-members r first limits found =
    let begins : walked r.low r.high r.stride (0 * unsigned_abs r.stride) ≡ first =
    same_Some _ first (sym (nth-walked r 0 limits (slice_get_within (members_of r) 0 first found)) ∙ found) in
    let at_start : walked r.low r.high r.stride 0 ≡ first = ap (walked r.low r.high r.stride) (omega arith) ∙ begins in
    same_places _ _ (λ k.
    ⊎_elim
    (λ within.
    ap (λ f. slice_get (progression f r.stride (length (members_of r))) k) (sym at_start)
    ∙ slice_get-progression r.low r.high r.stride (length (members_of r)) k within
    ∙ sym (nth-walked r k limits within))
    (λ past.
    slice_get_past _ k (omega (arith, length-progression first r.stride (length (members_of r)), past))
    ∙ sym (slice_get_past (members_of r) k past))
    (cases_lt k (length (members_of r))))

-- all members are bounds
pub members-bounds : (r : RangeValue) → IsRange r → All IsBound (members_of r)
members-bounds r limits = λ k d within.
    let h = members-within r limits k d within in
    (omega (arith, ints, limits.low_is_bound, h.0), omega (arith, ints, limits.high_is_bound, h.1))

-- what holds of all terms holds of the first, and of those after it
pub first-bound : (next step : ℤ) (n : ℕ) → 0 < n → All IsBound (progression next step n) → IsBound next
first-bound next step zero some all = absurd (omega arith)
first-bound next step (suc n) some all = all 0 (pos 0) (omega arith)

pub rest-bounds : (next step : ℤ) (n : ℕ) → All IsBound (progression next step n) → All IsBound (progression (next +ℤ step) step (n - 1))
rest-bounds next step zero all = λ k d within. absurd (omega arith)
rest-bounds next step (suc n) all =
    let e : suc n - 1 ≡ n = omega arith in
    rw e (λ k d within. all (suc k) d (omega arith))

pub progression-rest : (next step : ℤ) (n : ℕ) → progression (next +ℤ step) step (n - 1) ≡ drop 1 (progression next step n)
progression-rest next step zero = refl
progression-rest next step (suc n) = ap (progression (next +ℤ step) step) (omega arith)

-- a list with no first element is empty
pub none-empty : (is : List ℤ) → slice_get is 0 ≡ None → [] ≡ is
none-empty [] none = refl
none-empty (i ∷ is) none = absurd (let e : Some i ≡ None = none in cc)
