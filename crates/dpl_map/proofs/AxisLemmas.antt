-- Which members of a range a coordinate owns, in closed form.
use Rattle.std.proofs.Common.{◌≡◌, ℕ, zero, suc, ◌+◌, ◌-◌, ◌*◌, ◌/◌, ◌%◌, ◌<◌, ◌≤◌, List, ap, ◌∙◌, arith, ℤ, pos, negsuc, ◌+ℤ◌, ◌-ℤ◌, ◌<ℤ◌, ◌≤ℤ◌, ◌↔◌, true, ◌==◌, ◌&&◌, int_le, filter, unsigned_abs, ⊎_elim, eqb-true, eq-eqb}
use Rattle.std.specs.Int.{int_rem_euclid, int_div_euclid}
use Rattle.std.specs.Cmp.{both_ways}
use Rattle.std.proofs.lemmas.Bool.{cases_lt}
use Rattle.std.proofs.lemmas.Int.{ints, by_lt_z}
use Rattle.std.proofs.lemmas.Nat.{mod_below, div_below, le-div, div-add-mod', mod-mul-add}
use Rattle.std.proofs.Math.Nat.{mul-le-mul_right, div-mul-le_self, mod-eq_of_lt}
use Rattle.dpl_range.specs.Congruence.{is_congruent}
use Rattle.dpl_sets.specs.Members.{count_of}
use Rattle.dpl_sets.specs.Ranges.{RangeValue, members_of, IsBound}
use Rattle.dpl_range.specs.Invariant.{IsRange}
use Rattle.dpl_range.proofs.MemberLemmas.{member-within}
use Rattle.dpl_map.specs.AxisFields.{IsAxis, IsRule}
use Rattle.dpl_map.specs.Maps.{AxisValue, RuleValue, Block, Cyclic, BlockCyclic, axis_coordinate, rule_coordinate}
use Rattle.dpl_map.specs.Places.{block_place, cyclic_place, block_cyclic_place}
use Rattle.dpl_range.proofs.Lists.{filter-alike}
use Rattle.dpl_map.proofs.FilterLemmas.{eq-tests}
use Rattle.dpl_map.proofs.PlaceLemmas.{block-below, block-above, block-at}

-- a quotient is at least c where the dividend is at least c divisors
le-quotient : (c x s : ℕ) → 0 < s → (c ≤ x / s) ↔ (c * s ≤ x)
le-quotient c x s positive = (
  (λ h. let rows = mul-le-mul_right s h in let whole = div-mul-le_self x s in omega (arith, rows, whole)),
  (λ h. le-div c x s positive h),
)

module _ (low high : ℤ) (n span : ℕ) (wide : high -ℤ low ≡ pos span) (positive : 0 < n) where
  -- the block of a coordinate from 1 on begins `start` above the low bound
  pub block-from : (c start : ℕ) (i : ℤ) → 0 < c → c < n → c * (span + 1) ≤ start * n → ((d : ℕ) → c * (span + 1) ≤ d * n → start ≤ d) → start ≤ span + 1 → (c ≤ block_place low high n i) ↔ ((low +ℤ pos start) ≤ℤ i)
  block-from c start i some below reached least within =
      by_lt_z i low
      (λ under. let is = block-below low high n i under in
      ((λ h. absurd (omega (arith, is))), (λ h. absurd (omega (arith, ints)))))
      (λ from. by_lt_z high i
      (λ over. let is = block-above low high n i (omega (arith, ints)) over in
      ((λ h. omega (arith, ints)), (λ h. omega (arith, is))))
      (λ to.
      let offset : i -ℤ low ≡ pos (unsigned_abs (i -ℤ low)) = omega (arith, ints) in
      let is = block-at low high n (unsigned_abs (i -ℤ low)) span i offset wide (omega (arith, ints)) in
      let quotient = le-quotient c (unsigned_abs (i -ℤ low) * n) (span + 1) (omega arith) in (
        (λ h.
            let reach = least (unsigned_abs (i -ℤ low)) (quotient.0 (omega (arith, is))) in omega (arith, ints, reach)),
        (λ h.
            let more : start ≤ unsigned_abs (i -ℤ low) = omega (arith, ints) in
            let rows = mul-le-mul_right n more in
            let enough = quotient.1 (omega (arith, rows)) in omega (arith, is, enough)),
      )))

  -- no coordinate is past the last
  pub block-last : (i : ℤ) → low ≤ℤ high → block_place low high n i < n
  block-last i ordered =
      by_lt_z i low
      (λ under. omega (arith, block-below low high n i under))
      (λ from. by_lt_z high i
      (λ over. omega (arith, block-above low high n i ordered over))
      (λ to.
      let offset : i -ℤ low ≡ pos (unsigned_abs (i -ℤ low)) = omega (arith, ints) in
      let is = block-at low high n (unsigned_abs (i -ℤ low)) span i offset wide (omega (arith, ints)) in
      let more : unsigned_abs (i -ℤ low) ≤ span = omega (arith, ints) in
      let rows = mul-le-mul_right n more in
      let below = div_below (unsigned_abs (i -ℤ low) * n) (span + 1) n (omega arith) (omega (arith, rows)) in
      omega (arith, is, below)))

-- a test between two bounds
pub between-test : (from to i : ℤ) → (from ≤ℤ i) × (i ≤ℤ to) → (int_le from i && int_le i to) ≡ true
between-test from to i within = grind (arith, ints)

pub test-between : (from to i : ℤ) → (int_le from i && int_le i to) ≡ true → (from ≤ℤ i) × (i ≤ℤ to)
test-between from to i holds = (grind (arith, ints), grind (arith, ints))

-- where the second is below the first nothing lies between, as between 1 and 0
pub between-none : (from to : ℤ) (is : List ℤ) → to <ℤ from → filter (λ i. int_le (pos 1) i && int_le i (pos 0)) is ≡ filter (λ i. int_le from i && int_le i to) is
between-none from to is apart =
    filter-alike _ _ is (λ k i at.
    both_ways _ _
    (λ h. absurd (let w = test-between (pos 1) (pos 0) i h in omega (arith, ints, w.0, w.1)))
    (λ h. absurd (let w = test-between from to i h in omega (arith, ints, w.0, w.1))))

-- what lies between the ends of a block goes to its coordinate
pub block-between : (r : RangeValue) (low high from to : ℤ) (n c : ℕ) → IsRange r → ((i : ℤ) → IsBound i → (c ≤ block_place low high n i) ↔ (from ≤ℤ i)) → ((i : ℤ) → IsBound i → (block_place low high n i ≤ c) ↔ (i ≤ℤ to)) → filter (λ i. int_le from i && int_le i to) (members_of r) ≡ filter (λ i. block_place low high n i == c) (members_of r)
block-between r low high from to n c limits begins ends =
    filter-alike _ _ (members_of r) (λ k i at.
    let within = member-within r.low r.high r.stride k i limits.stride_is_not_zero at in
    let bound : IsBound i = (omega (arith, ints, within.0, limits.low_is_bound), omega (arith, ints, within.1, limits.high_is_bound)) in
    let first = begins i bound in
    let last = ends i bound in
    both_ways _ _
    (λ h. let w = test-between from to i h in eq-eqb _ _ (let a = first.1 w.0 in let b = last.1 w.1 in omega (arith, a, b)))
    (λ h. let e = eqb-true (block_place low high n i) c h in between-test from to i (first.0 (omega (arith, e)), last.0 (omega (arith, e)))))

row-some : (q n : ℕ) → 0 < q * n → 0 < q
row-some zero n some = absurd (omega arith)
row-some (suc q) n some = omega arith

row-back : (q n : ℕ) → 0 < q → q * n ≡ (q - 1) * n + n
row-back zero n some = absurd (omega arith)
row-back (suc q) n some = let e : suc q - 1 ≡ q = omega arith in rw e (omega arith)

-- an integer is congruent to the start and c where its remainder from the start is c
congruent-cyclic : (z : ℤ) (n c : ℕ) → c < n → (unsigned_abs (z -ℤ pos c) % n == 0) ≡ (count_of (int_rem_euclid z (pos n)) == c)
congruent-cyclic (pos a) n c below =
    let g = a % n in
    let small : g < n = mod_below a n (omega arith) in
    let whole : a / n * n + g ≡ a = div-add-mod' a n in
    ⊎_elim
    (λ (before : a < c).
    let size : unsigned_abs (pos a -ℤ pos c) ≡ c - a = omega (arith, ints) in
    let left : (c - a) % n ≡ c - a = mod-eq_of_lt (omega arith) in
    let itself : a % n ≡ a = mod-eq_of_lt (omega arith) in
    rw size (eq-tests _ _ _ _ (λ h. absurd (omega (arith, left, h))) (λ h. absurd (omega (arith, itself, h)))))
    (λ (past : c ≤ a).
    let size : unsigned_abs (pos a -ℤ pos c) ≡ a - c = omega (arith, ints) in
    rw size
    (⊎_elim
    (λ (under : g < c).
    let rows : a / n * n ≡ (a / n - 1) * n + n = row-back (a / n) n (row-some (a / n) n (omega (arith, whole))) in
    let split : a - c ≡ (a / n - 1) * n + (n + g - c) = omega (arith, whole, rows) in
    let left : (a - c) % n ≡ n + g - c = ap (λ z. z % n) split ∙ mod-mul-add (a / n - 1) n (n + g - c) (omega arith) in
    eq-tests _ _ _ _ (λ h. absurd (omega (arith, left, h))) (λ h. absurd (omega (arith, h))))
    (λ (over : c ≤ g).
    let split : a - c ≡ a / n * n + (g - c) = omega (arith, whole) in
    let left : (a - c) % n ≡ g - c = ap (λ z. z % n) split ∙ mod-mul-add (a / n) n (g - c) (omega arith) in
    eq-tests _ _ _ _ (λ h. omega (arith, left, h)) (λ h. left ∙ omega (arith, h)))
    (cases_lt g c)))
    (cases_lt a c)
congruent-cyclic (negsuc a) n c below =
    let g = a % n in
    let small : g < n = mod_below a n (omega arith) in
    let whole : a / n * n + g ≡ a = div-add-mod' a n in
    let size : unsigned_abs (negsuc a -ℤ pos c) ≡ a + 1 + c = omega (arith, ints) in
    rw size
    (⊎_elim
    (λ (under : g + 1 + c < n).
    let split : a + 1 + c ≡ a / n * n + (g + 1 + c) = omega (arith, whole) in
    let left : (a + 1 + c) % n ≡ g + 1 + c = ap (λ z. z % n) split ∙ mod-mul-add (a / n) n (g + 1 + c) under in
    eq-tests _ _ _ _ (λ h. absurd (omega (arith, left, h))) (λ h. absurd (omega (arith, h))))
    (λ (over : n ≤ g + 1 + c).
    let split : a + 1 + c ≡ (a / n + 1) * n + (g + 1 + c - n) = omega (arith, whole) in
    let left : (a + 1 + c) % n ≡ g + 1 + c - n = ap (λ z. z % n) split ∙ mod-mul-add (a / n + 1) n (g + 1 + c - n) (omega arith) in
    eq-tests _ _ _ _ (λ h. omega (arith, left, h)) (λ h. left ∙ omega (arith, h)))
    (cases_lt (g + 1 + c) n))

pub class-cyclic : (start : ℤ) (n c : ℕ) (i : ℤ) → c < n → is_congruent n (start +ℤ pos c) i ≡ (cyclic_place start n i == c)
unfolding cyclic_place
class-cyclic start n c i below =
    let e : i -ℤ (start +ℤ pos c) ≡ i -ℤ start -ℤ pos c = omega (arith, ints) in
    ap (λ z. unsigned_abs z % n == 0) e ∙ congruent-cyclic (i -ℤ start) n c below

rem-below : (z : ℤ) (n : ℕ) → 0 < n → count_of (int_rem_euclid z (pos n)) < n
rem-below (pos a) n positive = mod_below a n positive
rem-below (negsuc a) n positive = omega arith

-- no axis gives a coordinate past its last one
pub axis-below : (axis : AxisValue) (i : ℤ) → IsAxis axis → axis_coordinate axis i < axis.extent
unfolding cyclic_place block_cyclic_place
axis-below axis i limits = go axis.rule limits.rule
  where
    go : (rule : RuleValue) → IsRule rule → rule_coordinate rule axis.extent i < axis.extent
    go (Block low high) rule =
        let wide : high -ℤ low ≡ pos (unsigned_abs (high -ℤ low)) = omega (arith, ints, rule.2) in
        block-last low high axis.extent (unsigned_abs (high -ℤ low)) wide limits.extent.0 i rule.2
    go (Cyclic start) rule = rem-below (i -ℤ start) axis.extent limits.extent.0
    go (BlockCyclic start size) rule = rem-below (int_div_euclid (i -ℤ start) size) axis.extent limits.extent.0
