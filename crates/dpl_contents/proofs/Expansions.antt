-- The bounds of an expanded domain, range by range.
use Rattle.std.proofs.Common.{◌≡◌, Bool, true, false, not, ◌||◌, List, [], ◌∷◌, ℤ, ◌↔◌, refl}
use Rattle.dpl_sets.specs.Ranges.{IsBound, is_bound}
use Rattle.dpl_sets.specs.TextRanges.{TextRange}
use Rattle.dpl_range.proofs.LimitLemmas.{is_bound-IsBound}
use Rattle.dpl_language.specs.Ranges.{past_limit, bounds_past_limit}

or-none : (x y : Bool) → ((x || y) ≡ false) ↔ ((x ≡ false) × (y ≡ false))
or-none true y = ((λ e. absurd cc), (λ h. h.0))
or-none false y = ((λ e. (refl, e)), (λ h. h.1))

not-is : (b : Bool) → (not b ≡ false) ↔ (b ≡ true)
not-is true = ((λ e. refl), (λ e. refl))
not-is false = ((λ e. absurd cc), (λ e. absurd cc))

-- a bound is a bound where it isn't past the limit
past_limit-none : (z : ℤ) → (past_limit z ≡ false) ↔ IsBound z
past_limit-none z =
    let test = not-is (is_bound z) in
    let bound = is_bound-IsBound z in
    ((λ e. bound.0 (test.0 e)), (λ b. test.1 (bound.1 b)))

-- both bounds of a range
pub bounds-within : (r : TextRange) → (bounds_past_limit (r ∷ []) ≡ false) ↔ (IsBound r.value.low × IsBound r.value.high)
bounds-within r =
    let low = past_limit-none r.value.low in
    let high = past_limit-none r.value.high in
    let ends = or-none (past_limit r.value.low) (past_limit r.value.high) in
    let one = or-none (past_limit r.value.low || past_limit r.value.high) false in (
      (λ e. let both = ends.0 (one.0 e).0 in (low.0 both.0, high.0 both.1)),
      (λ b. one.1 (ends.1 (low.1 b.0, high.1 b.1), refl)),
    )

-- the first range of several, and the others
pub bounds-first : (r : TextRange) (rs : List TextRange) → (bounds_past_limit (r ∷ rs) ≡ false) ↔ ((bounds_past_limit (r ∷ []) ≡ false) × (bounds_past_limit rs ≡ false))
bounds-first r rs =
    let past = past_limit r.value.low || past_limit r.value.high in
    let all = or-none past (bounds_past_limit rs) in
    let one = or-none past false in
    ((λ e. (one.1 ((all.0 e).0, refl), (all.0 e).1)), (λ h. all.1 ((one.0 h.0).0, h.1)))

-- the second range and the third
pub second-within : (r s : TextRange) (rs : List TextRange) → bounds_past_limit (r ∷ s ∷ rs) ≡ false → bounds_past_limit (s ∷ []) ≡ false
second-within r s rs all = ((bounds-first s rs).0 ((bounds-first r (s ∷ rs)).0 all).1).0

pub third-within : (r s t : TextRange) → bounds_past_limit (r ∷ s ∷ t ∷ []) ≡ false → bounds_past_limit (t ∷ []) ≡ false
third-within r s t all = second-within s t [] ((bounds-first r (s ∷ t ∷ [])).0 all).1

-- and all three
pub three-within : (r s t : TextRange) → bounds_past_limit (r ∷ []) ≡ false → bounds_past_limit (s ∷ []) ≡ false → bounds_past_limit (t ∷ []) ≡ false → bounds_past_limit (r ∷ s ∷ t ∷ []) ≡ false
three-within r s t first second third = (bounds-first r (s ∷ t ∷ [])).1 (first, (bounds-first s (t ∷ [])).1 (second, third))
