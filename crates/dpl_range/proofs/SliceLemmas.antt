-- The part of a range's walk from one offset to another, and so the slice of a range.
use Rattle.std.proofs.Common.{◌≡◌, ℕ, ◌+◌, ◌-◌, ◌*◌, ◌<◌, ◌≤◌, ◌%◌, ◌/◌, ap, sym, ◌∙◌, arith, ℤ, pos, negsuc, ◌+ℤ◌, ◌-ℤ◌, ◌<ℤ◌, ◌≤ℤ◌, ◌↔◌, unsigned_abs, refl, Bool, true, false, filter, ◌&&◌, int_le, List, [], ◌∷◌, cond, slice_get, Some, None, subst, ⊎_elim}
use Rattle.std.specs.Cmp.{both_ways}
use Rattle.std.proofs.lemmas.Bool.{cases_lt}
use Rattle.std.proofs.lemmas.Option.{same_Some}
use Rattle.std.proofs.lemmas.Int.{ints, clamps, by_lt_z}
use Rattle.std.specs.Int.{int_max, int_min}
use Rattle.std.proofs.lemmas.Nat.{div-add-mod', mod_below}
use Rattle.std.proofs.Math.Nat.{mul-mod_left, add-mul, le_of_mul-le-mul_right, div-add-mod, lt_of_mul-lt-mul_right, mul-le-mul_right}
use Rattle.std.proofs.lemmas.Bool.Decides.{Decides-int_eq}
use Rattle.std.specs.Ordering.{int_eq}
use Rattle.dpl_sets.specs.Members.{members}
use Rattle.dpl_sets.specs.Ranges.{RangeValue, members_of, IsBound}
use Rattle.dpl_sets.specs.RangeSlices.{members_within, narrowed, begun_with, sliced}
use Rattle.dpl_range.specs.Invariant.{IsRange}
use Rattle.dpl_range.specs.Walk.{walked, nearer, begun, SameWay}
use Rattle.dpl_range.proofs.MemberLemmas.{span_of, slice_get-members, members-empty}
use Rattle.dpl_range.proofs.Lists.{false_unless, filter-alike}
use Rattle.dpl_range.proofs.Ordered.{IsMember, IsMember-from_place, Precedes, filter-members}

pub SameWay_self : (stride : ℤ) → SameWay stride stride
SameWay_self (pos s) = tt
SameWay_self (negsuc s) = tt

pub Precedes-same_way : (s t a b : ℤ) → SameWay s t → Precedes t a b → Precedes s a b
Precedes-same_way (pos s) (pos t) a b same order = order
Precedes-same_way (pos s) (negsuc t) a b same order = absurd same
Precedes-same_way (negsuc s) (pos t) a b same order = absurd same
Precedes-same_way (negsuc s) (negsuc t) a b same order = order

-- between the integers at two offsets of a walk are those at the offsets between
pub between-walked : (low high stride from to i : ℤ) (a b o : ℕ) → nearer stride from to ≡ walked low high stride a → nearer stride to from ≡ walked low high stride b → i ≡ walked low high stride o → ((from ≤ℤ i) × (i ≤ℤ to)) ↔ ((a ≤ o) × (o ≤ b))
between-walked low high (pos s) from to i a b o near far at =
    ((λ h. (omega (arith, ints), omega (arith, ints))), (λ h. (omega (arith, ints), omega (arith, ints))))
between-walked low high (negsuc s) from to i a b o near far at =
    ((λ h. (omega (arith, ints), omega (arith, ints))), (λ h. (omega (arith, ints), omega (arith, ints))))

-- the walk of what was begun later
pub walked-begun : (low high way stride near far : ℤ) (begin o : ℕ) → SameWay way stride → near ≡ walked low high way begin → walked (nearer way near far) (nearer way far near) stride o ≡ walked low high way (begin + o)
walked-begun low high (pos w) (pos s) near far begin o same at = omega (arith, ints)
walked-begun low high (pos w) (negsuc s) near far begin o same at = absurd same
walked-begun low high (negsuc w) (pos s) near far begin o same at = absurd same
walked-begun low high (negsuc w) (negsuc s) near far begin o same at = omega (arith, ints)

nearer-near : (way near far : ℤ) → nearer way (nearer way near far) (nearer way far near) ≡ near
nearer-near (pos w) near far = refl
nearer-near (negsuc w) near far = refl

nearer-far : (way near far : ℤ) → nearer way (nearer way far near) (nearer way near far) ≡ far
nearer-far (pos w) near far = refl
nearer-far (negsuc w) near far = refl

-- an integer is a member of what was begun later where the walk is there after some of its strides, and
-- not past the far bound
pub record IsAlong (r : RangeValue) (begin end step : ℕ) (i : ℤ) : Type 0 where
  pub strides : ℕ
  pub walk : i ≡ walked r.low r.high r.stride (begin + strides * step)
  pub within : begin + strides * step ≤ end

module _ (r : RangeValue) (begin end : ℕ) (far stride : ℤ) (i : ℤ) (same : SameWay r.stride stride) (at_far : far ≡ walked r.low r.high r.stride end) where
  pub IsAlong-begun : IsMember (begun r begin far stride) i → IsAlong r begin end (unsigned_abs stride) i
  IsAlong-begun m =
      let near = walked r.low r.high r.stride begin in
      let at = m.walk ∙ walked-begun r.low r.high r.stride stride near far begin (m.strides * unsigned_abs stride) same refl in
      let h = (between-walked r.low r.high r.stride (begun r begin far stride).low (begun r begin far stride).high i begin end (begin + m.strides * unsigned_abs stride) (nearer-near r.stride near far) (nearer-far r.stride near far ∙ at_far) at).0 (m.low, m.high) in
      record { strides = m.strides; walk = at; within = h.1 }

  pub IsMember-begun : IsAlong r begin end (unsigned_abs stride) i → IsMember (begun r begin far stride) i
  IsMember-begun a =
      let near = walked r.low r.high r.stride begin in
      let h = (between-walked r.low r.high r.stride (begun r begin far stride).low (begun r begin far stride).high i begin end (begin + a.strides * unsigned_abs stride) (nearer-near r.stride near far) (nearer-far r.stride near far ∙ at_far) a.walk).1 (omega arith, a.within) in
      record {
        low = h.0;
        high = h.1;
        strides = a.strides;
        walk = a.walk ∙ sym (walked-begun r.low r.high r.stride stride near far begin (a.strides * unsigned_abs stride) same refl);
      }

-- the test of a slice
pub passes : (from to i : ℤ) → from ≤ℤ i → i ≤ℤ to → (int_le from i && int_le i to) ≡ true
passes from to i above below = grind (arith, ints)

pub passed : (from to i : ℤ) → (int_le from i && int_le i to) ≡ true → (from ≤ℤ i) × (i ≤ℤ to)
passed from to i h = (grind (arith, ints), grind (arith, ints))

-- the least multiple of n from a on is no more than any other from a on
least_multiple : (n a begin k : ℕ) → 0 < n → begin % n ≡ 0 → begin < a + n → a ≤ k * n → begin ≤ k * n
least_multiple n a begin k positive whole least reached =
    let m = begin / n in
    let exact : m * n ≡ begin = omega (arith, div-add-mod begin n) in
    let fewer : m < k + 1 = lt_of_mul-lt-mul_right n (omega (arith, add-mul k 1 n)) in
    let e : m * n ≤ k * n = mul-le-mul_right n (omega arith) in
    omega arith

-- a range with no members is the filter of every range none of whose members passes
pub none-members : (r : RangeValue) (p : ℤ → Bool) → IsRange r → ((i : ℤ) → IsMember r i → p i ≡ true → ⊥) → members_of (record { low = pos 1; high = pos 0; stride = r.stride }) ≡ filter p (members_of r)
none-members r p limits rejected =
    filter-members r (record { low = pos 1; high = pos 0; stride = r.stride }) p limits
    (record { low_is_bound = (omega (arith, ints), omega (arith, ints)); high_is_bound = (omega (arith, ints), omega (arith, ints)); stride_is_not_zero = limits.stride_is_not_zero; stride_is_short = limits.stride_is_short })
    (λ a b order. order)
    (λ i m. absurd (omega (arith, ints, m.low, m.high)))
    (λ i m passes. absurd (rejected i m passes))

-- what begins with the first of some members
begun_with-first : (is : List ℤ) (i : ℤ) (r : RangeValue) → slice_get is 0 ≡ Some i → begun_with is r ≡ begun_with (i ∷ []) r
begun_with-first [] i r found = absurd (let e : None ≡ Some i = found in cc)
begun_with-first (j ∷ is) i r found = ap (λ x. begun_with (x ∷ []) r) (same_Some j i found)

-- the first member of a range whose bounds are in order
first-member : (low high stride : ℤ) → low ≤ℤ high → 0 < unsigned_abs stride → slice_get (members low high stride) 0 ≡ Some (walked low high stride 0)
first-member low high stride ordered positive =
    let d = span_of low high ordered in
    let none : 0 * unsigned_abs stride ≡ 0 = omega arith in
    rw none at (slice_get-members low high stride d.0 (unsigned_abs stride) 0 d.1 refl positive (omega arith))

-- a range that is begun later is what begins with the first of its members
begun_with-begun : (low high stride from to : ℤ) (begin b : ℕ) → nearer stride to from ≡ walked low high stride b → begin ≤ b → 0 < unsigned_abs stride → begun_with (members_of (begun (record { low = low; high = high; stride = stride }) begin (nearer stride to from) stride)) (record { low = from; high = to; stride = stride }) ≡ begun (record { low = low; high = high; stride = stride }) begin (nearer stride to from) stride
begun_with-begun low high (pos s) from to begin b far within positive =
    let first = first-member (low +ℤ pos begin) to (pos s) (omega (arith, ints)) positive in
    let at : low +ℤ pos begin +ℤ pos 0 ≡ low +ℤ pos begin = omega (arith, ints) in
    begun_with-first (members (low +ℤ pos begin) to (pos s)) (low +ℤ pos begin) (record { low = from; high = to; stride = pos s }) (first ∙ ap Some at)
begun_with-begun low high (negsuc s) from to begin b far within positive =
    let first = first-member from (high -ℤ pos begin) (negsuc s) (omega (arith, ints)) positive in
    let at : high -ℤ pos begin -ℤ pos 0 ≡ high -ℤ pos begin = omega (arith, ints) in
    begun_with-first (members from (high -ℤ pos begin) (negsuc s)) (high -ℤ pos begin) (record { low = from; high = to; stride = negsuc s }) (first ∙ ap Some at)

-- a slice between bounds `from` and `to` that lie within the range's own, at the offsets a and b
module _ (r : RangeValue) (from to : ℤ) (a b begin : ℕ) (limits : IsRange r) (near : nearer r.stride from to ≡ walked r.low r.high r.stride a) (far : nearer r.stride to from ≡ walked r.low r.high r.stride b) (whole : begin % unsigned_abs r.stride ≡ 0) (reaches : a ≤ begin) (least : begin < a + unsigned_abs r.stride) where
  -- a member of the slice is no earlier than the first multiple of the stride
  member-offset : (i : ℤ) → (m : IsMember r i) → from ≤ℤ i → i ≤ℤ to → (begin ≤ m.strides * unsigned_abs r.stride) × (m.strides * unsigned_abs r.stride ≤ b)
  member-offset i m above below =
      let h = (between-walked r.low r.high r.stride from to i a b (m.strides * unsigned_abs r.stride) near far m.walk).0 (above, below) in
      (least_multiple (unsigned_abs r.stride) a begin m.strides limits.stride_is_not_zero whole least h.0, h.1)

  pub cut-none : b < begin → members_of (record { low = pos 1; high = pos 0; stride = r.stride }) ≡ filter (λ i. int_le from i && int_le i to) (members_of r)
  cut-none past =
      none-members r (λ i. int_le from i && int_le i to) limits
      (λ i m passes. let h = passed from to i passes in
      let o = member-offset i m h.0 h.1 in
      omega arith)

  pub cut-members : begin ≤ b → IsRange (begun r begin (nearer r.stride to from) r.stride) → r.low ≤ℤ from → to ≤ℤ r.high → members_of (begun r begin (nearer r.stride to from) r.stride) ≡ filter (λ i. int_le from i && int_le i to) (members_of r)
  cut-members within result_limits from_within to_within =
      let n = unsigned_abs r.stride in
      let exact : begin / n * n ≡ begin = omega (arith, div-add-mod begin n) in
      filter-members r (begun r begin (nearer r.stride to from) r.stride) (λ i. int_le from i && int_le i to) limits result_limits
      (λ x y order. order)
      (λ i m.
      let along = IsAlong-begun r begin b (nearer r.stride to from) r.stride i (SameWay_self r.stride) far m in
      let offset : begin + along.strides * n ≡ (begin / n + along.strides) * n = omega (arith, add-mul (begin / n) along.strides n) in
      let h = (between-walked r.low r.high r.stride from to i a b (begin + along.strides * n) near far along.walk).1 (omega arith, along.within) in (
        record { low = omega (arith, ints); high = omega (arith, ints); strides = begin / n + along.strides; walk = along.walk ∙ ap (walked r.low r.high r.stride) offset },
        passes from to i h.0 h.1,
      ))
      (λ i m held.
      let h = passed from to i held in
      let o = member-offset i m h.0 h.1 in
      let t = m.strides - begin / n in
      let more : begin / n ≤ m.strides = le_of_mul-le-mul_right (omega arith) limits.stride_is_not_zero in
      let offset : m.strides * n ≡ begin + t * n = ap (λ k. k * n) (omega arith) ∙ add-mul (begin / n) t n ∙ omega arith in
      IsMember-begun r begin b (nearer r.stride to from) r.stride i (SameWay_self r.stride) far
      (record { strides = t; walk = m.walk ∙ ap (walked r.low r.high r.stride) offset; within = omega arith }))

  pub cut-value : begin ≤ b → IsRange (begun r begin (nearer r.stride to from) r.stride) → r.low ≤ℤ from → to ≤ℤ r.high → begun r begin (nearer r.stride to from) r.stride ≡ begun_with (members_within from to r) (record r { low = from; high = to })
  cut-value within result_limits from_within to_within =
      sym (begun_with-begun r.low r.high r.stride from to begin b far within limits.stride_is_not_zero)
      ∙ ap (λ is. begun_with is (record { low = from; high = to; stride = r.stride })) (cut-members within result_limits from_within to_within)

-- every integer between its bounds is a member of a range of stride 1
IsMember-unit : (low high i : ℤ) → low ≤ℤ i → i ≤ℤ high → IsMember (record { low = low; high = high; stride = pos 1 }) i
IsMember-unit low high i above below =
    let d = span_of low i above in
    record { low = above; high = below; strides = d.0; walk = sym d.1 ∙ ap (λ k. low +ℤ pos k) (omega arith) }

-- the slice of a range of stride 1
pub unit-members : (r : RangeValue) (from to low high : ℤ) → IsRange r → r.stride ≡ pos 1 → IsRange (record { low = low; high = high; stride = pos 1 }) → ((i : ℤ) → (low ≤ℤ i) ↔ ((r.low ≤ℤ i) × (from ≤ℤ i))) → ((i : ℤ) → (i ≤ℤ high) ↔ ((i ≤ℤ r.high) × (i ≤ℤ to))) → members_of (record { low = low; high = high; stride = pos 1 }) ≡ filter (λ i. int_le from i && int_le i to) (members_of r)
unit-members r from to low high limits unit result_limits lower upper =
    filter-members r (record { low = low; high = high; stride = pos 1 }) (λ i. int_le from i && int_le i to) limits result_limits
    (λ a b order. subst (λ s. Precedes s a b) (sym unit) order)
    (λ i m. (
      subst (λ s. IsMember (record { low = r.low; high = r.high; stride = s }) i) (sym unit) (IsMember-unit r.low r.high i ((lower i).0 m.low).0 ((upper i).0 m.high).0),
      passes from to i ((lower i).0 m.low).1 ((upper i).0 m.high).1,
    ))
    (λ i m held. let h = passed from to i held in
    IsMember-unit low high i ((lower i).1 (m.low, h.0)) ((upper i).1 (m.high, h.1)))

pub nearer-high : (way a b high : ℤ) → a ≤ℤ high → b ≤ℤ high → nearer way a b ≤ℤ high
nearer-high (pos w) a b high a_below b_below = a_below
nearer-high (negsuc w) a b high a_below b_below = b_below

-- above two bounds is above the greater, and below two bounds below the lesser
pub int_max-le : (a b i : ℤ) → (int_max a b ≤ℤ i) ↔ ((a ≤ℤ i) × (b ≤ℤ i))
int_max-le a b i = ((λ h. (omega (arith, ints, clamps), omega (arith, ints, clamps))), (λ h. omega (arith, ints, clamps)))

pub le-int_min : (a b i : ℤ) → (i ≤ℤ int_min a b) ↔ ((i ≤ℤ a) × (i ≤ℤ b))
le-int_min a b i = ((λ h. (omega (arith, ints, clamps), omega (arith, ints, clamps))), (λ h. omega (arith, ints, clamps)))

pub IsBound-int_max : (a b : ℤ) → IsBound a → IsBound b → IsBound (int_max a b)
IsBound-int_max a b a_bound b_bound = (omega (arith, ints, clamps), omega (arith, ints, clamps))

pub IsBound-int_min : (a b : ℤ) → IsBound a → IsBound b → IsBound (int_min a b)
IsBound-int_min a b a_bound b_bound = (omega (arith, ints, clamps), omega (arith, ints, clamps))

-- how far an integer between the bounds of a walk stands after its first
offset_of : (low high stride i : ℤ) → low ≤ℤ i → i ≤ℤ high → (o : ℕ) × (i ≡ walked low high stride o)
offset_of low high (pos s) i above below = let d = span_of low i above in (d.0, sym d.1)
offset_of low high (negsuc s) i above below = let d = span_of i high below in (d.0, omega (arith, ints, d.1))

-- what is begun within the bounds of a range is one
IsRange-begun : (low high stride from to : ℤ) (begin b : ℕ) → IsRange (record { low = low; high = high; stride = stride }) → low ≤ℤ from → to ≤ℤ high → nearer stride to from ≡ walked low high stride b → begin ≤ b → IsRange (begun (record { low = low; high = high; stride = stride }) begin (nearer stride to from) stride)
IsRange-begun low high (pos s) from to begin b limits above below far within =
    record {
      low_is_bound = (omega (arith, ints, limits.low_is_bound, limits.high_is_bound), omega (arith, ints, limits.low_is_bound, limits.high_is_bound));
      high_is_bound = (omega (arith, ints, limits.low_is_bound, limits.high_is_bound), omega (arith, ints, limits.low_is_bound, limits.high_is_bound));
      stride_is_not_zero = limits.stride_is_not_zero;
      stride_is_short = limits.stride_is_short;
    }
IsRange-begun low high (negsuc s) from to begin b limits above below far within =
    record {
      low_is_bound = (omega (arith, ints, limits.low_is_bound, limits.high_is_bound), omega (arith, ints, limits.low_is_bound, limits.high_is_bound));
      high_is_bound = (omega (arith, ints, limits.low_is_bound, limits.high_is_bound), omega (arith, ints, limits.low_is_bound, limits.high_is_bound));
      stride_is_not_zero = limits.stride_is_not_zero;
      stride_is_short = limits.stride_is_short;
    }

low-nearer : (way a b low : ℤ) → low ≤ℤ a → low ≤ℤ b → low ≤ℤ nearer way a b
low-nearer (pos w) a b low a_above b_above = a_above
low-nearer (negsuc w) a b low a_above b_above = b_above

-- the least multiple of n from a on
reaching : (n a : ℕ) → 0 < n → (begin : ℕ) × (begin % n ≡ 0) × (a ≤ begin) × (begin < a + n)
reaching n a positive =
    let q = (a + n - 1) / n in
    let whole : q * n + (a + n - 1) % n ≡ a + n - 1 = div-add-mod' (a + n - 1) n in
    let below = mod_below (a + n - 1) n positive in
    (q * n, mul-mod_left q n, omega (arith, whole, below), omega (arith, whole, below))

module _ (r : RangeValue) (from to : ℤ) (limits : IsRange r) where
  pub slice-unit : IsBound from → IsBound to → r.stride ≡ pos 1 → members_of (record { low = int_max r.low from; high = int_min r.high to; stride = pos 1 }) ≡ filter (λ i. int_le from i && int_le i to) (members_of r)
  slice-unit from_bound to_bound unit =
      unit-members r from to (int_max r.low from) (int_min r.high to) limits unit
      (record {
        low_is_bound = IsBound-int_max r.low from limits.low_is_bound from_bound;
        high_is_bound = IsBound-int_min r.high to limits.high_is_bound to_bound;
        stride_is_not_zero = omega arith;
        stride_is_short = omega arith;
      })
      (int_max-le r.low from) (le-int_min r.high to)

  pub slice-none : int_min r.high to <ℤ int_max r.low from → members_of (record { low = pos 1; high = pos 0; stride = r.stride }) ≡ filter (λ i. int_le from i && int_le i to) (members_of r)
  slice-none apart =
      none-members r (λ i. int_le from i && int_le i to) limits
      (λ i m held. let h = passed from to i held in
      let above : int_max r.low from ≤ℤ i = (int_max-le r.low from i).1 (m.low, h.0) in
      let below : i ≤ℤ int_min r.high to = (le-int_min r.high to i).1 (m.high, h.1) in
      omega (arith, ints))

  -- the members are within the range's own bounds, so a test by the nearer bounds says the same
  pub slice-cut : filter (λ i. int_le (int_max r.low from) i && int_le i (int_min r.high to)) (members_of r) ≡ filter (λ i. int_le from i && int_le i to) (members_of r)
  slice-cut =
      filter-alike (λ i. int_le (int_max r.low from) i && int_le i (int_min r.high to)) (λ i. int_le from i && int_le i to) (members_of r)
      (λ k i found.
      let m = IsMember-from_place r k i limits found in
      both_ways (int_le (int_max r.low from) i && int_le i (int_min r.high to)) (int_le from i && int_le i to)
      (λ held. let h = passed (int_max r.low from) (int_min r.high to) i held in
      passes from to i ((int_max-le r.low from i).0 h.0).1 ((le-int_min r.high to i).0 h.1).1)
      (λ held. let h = passed from to i held in
      passes (int_max r.low from) (int_min r.high to) i ((int_max-le r.low from i).1 (m.low, h.0)) ((le-int_min r.high to i).1 (m.high, h.1))))

  -- a slice of stride 1 is what is narrowed
  pub sliced-unit : r.stride ≡ pos 1 → record { low = int_max r.low from; high = int_min r.high to; stride = pos 1 } ≡ sliced from to r
  sliced-unit unit =
      ap (λ (s : ℤ). narrowed from to (record { low = r.low; high = r.high; stride = s })) (sym unit)
      ∙ sym (ap (λ b. cond b (narrowed from to r) (begun_with (members_within from to r) (narrowed from to r))) ((Decides-int_eq r.stride (pos 1)).1 unit))

  -- and any other begins with the first of its members
  pub sliced-other : (r.stride ≡ pos 1 → ⊥) → begun_with (members_within from to r) (narrowed from to r) ≡ sliced from to r
  sliced-other other =
      sym (ap (λ b. cond b (narrowed from to r) (begun_with (members_within from to r) (narrowed from to r))) (false_unless (int_eq r.stride (pos 1)) (λ same. other ((Decides-int_eq r.stride (pos 1)).0 same))))

  -- which there are none of where the bounds are apart
  pub sliced-none : int_min r.high to <ℤ int_max r.low from → (r.stride ≡ pos 1 → ⊥) → record { low = pos 1; high = pos 0; stride = r.stride } ≡ sliced from to r
  sliced-none apart other =
      ap (λ is. begun_with is (narrowed from to r)) (sym (members-empty (pos 1) (pos 0) r.stride (omega (arith, ints))) ∙ slice-none apart)
      ∙ sliced-other other

  -- The members of a slice are those members that lie between the two bounds. A slice that is neither of stride 1 nor
  -- between bounds that are apart begins at the least multiple of the stride that reaches the nearer of them.
  pub members-sliced : IsBound from → IsBound to → members_of (sliced from to r) ≡ members_within from to r
  members-sliced from_bound to_bound =
      by_test (int_eq r.stride (pos 1)) refl
    where
      -- what begins with the first member between the nearer bounds
      picked : (s : RangeValue) → (r.stride ≡ pos 1 → ⊥) → s ≡ begun_with (members_within (int_max r.low from) (int_min r.high to) r) (narrowed from to r) → members_of s ≡ members_within (int_max r.low from) (int_min r.high to) r → members_of (sliced from to r) ≡ members_within from to r
      picked s other is members =
          ap members_of (sym (sliced-other other) ∙ ap (λ js. begun_with js (narrowed from to r)) (sym slice-cut) ∙ sym is) ∙ members ∙ slice-cut

      apart_or : (r.stride ≡ pos 1 → ⊥) → members_of (sliced from to r) ≡ members_within from to r
      apart_or other =
          by_lt_z (int_min r.high to) (int_max r.low from)
          (λ apart. ap members_of (sym (sliced-none apart other)) ∙ slice-none apart)
          (λ ordered.
          let above : r.low ≤ℤ (int_max r.low from) = omega (arith, ints, clamps) in
          let below : (int_min r.high to) ≤ℤ r.high = omega (arith, ints, clamps) in
          let near = offset_of r.low r.high r.stride (nearer r.stride (int_max r.low from) (int_min r.high to)) (low-nearer r.stride (int_max r.low from) (int_min r.high to) r.low above (omega (arith, ints))) (nearer-high r.stride (int_max r.low from) (int_min r.high to) r.high (omega (arith, ints)) below) in
          let far = offset_of r.low r.high r.stride (nearer r.stride (int_min r.high to) (int_max r.low from)) (low-nearer r.stride (int_min r.high to) (int_max r.low from) r.low (omega (arith, ints)) above) (nearer-high r.stride (int_min r.high to) (int_max r.low from) r.high below (omega (arith, ints))) in
          let begin = reaching (unsigned_abs r.stride) near.0 limits.stride_is_not_zero in
          ⊎_elim {A = far.0 < begin.0} {B = begin.0 ≤ far.0}
          (λ past.
          let none = cut-none r (int_max r.low from) (int_min r.high to) near.0 far.0 begin.0 limits near.1 far.1 begin.1 begin.2 begin.3 past in
          picked (record { low = pos 1; high = pos 0; stride = r.stride }) other
          (ap (λ js. begun_with js (narrowed from to r)) (sym (members-empty (pos 1) (pos 0) r.stride (omega (arith, ints))) ∙ none)) none)
          (λ within.
          let kept = IsRange-begun r.low r.high r.stride (int_max r.low from) (int_min r.high to) begin.0 far.0 limits above below far.1 within in
          picked (begun r begin.0 (nearer r.stride (int_min r.high to) (int_max r.low from)) r.stride) other
          (cut-value r (int_max r.low from) (int_min r.high to) near.0 far.0 begin.0 limits near.1 far.1 begin.1 begin.2 begin.3 within kept above below)
          (cut-members r (int_max r.low from) (int_min r.high to) near.0 far.0 begin.0 limits near.1 far.1 begin.1 begin.2 begin.3 within kept above below))
          (cases_lt far.0 begin.0))

      by_test : (b : Bool) → int_eq r.stride (pos 1) ≡ b → members_of (sliced from to r) ≡ members_within from to r
      by_test true e =
          let unit = (Decides-int_eq r.stride (pos 1)).0 e in
          ap members_of (sym (sliced-unit unit)) ∙ slice-unit from_bound to_bound unit
      by_test false e = apart_or (λ same. let t = (Decides-int_eq r.stride (pos 1)).1 same in absurd cc)
