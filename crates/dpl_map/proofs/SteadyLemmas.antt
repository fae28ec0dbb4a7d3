-- Integers between two that have one coordinate, and indices between two that have one owner.
-- By the block rule coordinates rise, so what lies between two of one coordinate has it too; by the block-cyclic rule so it is of blocks.
use Rattle.std.proofs.Common.{◌≡◌, ◌+◌, ◌*◌, ◌/◌, ◌<◌, ◌≤◌, ◌↔◌, ℕ, zero, suc, ℤ, pos, negsuc, ◌-ℤ◌, ◌≤ℤ◌, unsigned_abs, List, [], ◌∷◌, length, slice_get, Option, Some, None, refl, ap, sym, ◌∙◌, subst, arith}
use Rattle.std.specs.Int.{int_div_euclid, int_rem_euclid}
use Rattle.std.proofs.lemmas.Int.{ints, by_lt_z}
use Rattle.std.proofs.lemmas.Nat.{le-div}
use Rattle.std.proofs.lemmas.Option.{none-some, same_Some}
use Rattle.std.proofs.Math.Nat.{mul-le-mul_right, div-mul-le_self}
use Rattle.dpl_sets.specs.Members.{count_of}
use Rattle.dpl_domain.specs.Ranks.{last_of, IsPadded}
use Rattle.dpl_map.specs.AxisFields.{IsAxis, IsRule}
use Rattle.dpl_map.specs.Boxes.{AreBetween, IsSteady}
use Rattle.dpl_map.specs.MapFields.{IsMap}
use Rattle.dpl_map.specs.Maps.{AxisValue, RuleValue, Block, Cyclic, BlockCyclic, axis_coordinate, rule_coordinate, owner}
use Rattle.dpl_map.specs.Places.{block_place, block_cyclic_place}
use Rattle.dpl_map.proofs.AxisLemmas.{axis-below, block-last}
use Rattle.dpl_map.proofs.OwnerLemmas.{locale_of, owner-padded}
use Rattle.dpl_map.proofs.PlaceLemmas.{block-below, block-above, block-within}

quotient-rises : (a b s : ℕ) → a ≤ b → 0 < s → a / s ≤ b / s
quotient-rises a b s less positive = let whole = div-mul-le_self a s in le-div (a / s) b s positive (omega (arith, whole, less))

block-rises : (low high : ℤ) (n : ℕ) (i j : ℤ) → low ≤ℤ high → 0 < n → i ≤ℤ j → block_place low high n i ≤ block_place low high n j
block-rises low high n i j ordered positive less =
    by_lt_z i low
    (λ under. let is = block-below low high n i under in omega (arith, is))
    (λ from. by_lt_z high j
    (λ over.
    let wide : high -ℤ low ≡ pos (unsigned_abs (high -ℤ low)) = omega (arith, ints, ordered) in
    let is = block-above low high n j ordered over in
    let last = block-last low high n (unsigned_abs (high -ℤ low)) wide positive i ordered in
    omega (arith, is, last))
    (λ to.
    let is = block-within low high n i from (omega (arith, ints, less, to)) in
    let js = block-within low high n j (omega (arith, ints, less, from)) to in
    let more : unsigned_abs (i -ℤ low) ≤ unsigned_abs (j -ℤ low) = omega (arith, ints, from, less) in
    let quotients = quotient-rises (unsigned_abs (i -ℤ low) * n) (unsigned_abs (j -ℤ low) * n) (unsigned_abs (high -ℤ low) + 1) (mul-le-mul_right n more) (omega arith) in
    omega (arith, is, js, quotients)))

-- between two integers of one block lies that block alone
pub block-steady : (low high : ℤ) (n : ℕ) (i j : ℤ) → low ≤ℤ high → 0 < n → block_place low high n i ≡ block_place low high n j → (k : ℤ) → i ≤ℤ k → k ≤ℤ j → block_place low high n k ≡ block_place low high n i
block-steady low high n i j ordered positive same k from to =
    let before = block-rises low high n i k ordered positive from in
    let after = block-rises low high n k j ordered positive to in
    omega (arith, before, after, same)

pub block-axis : (axis : AxisValue) (from to low high : ℤ) → IsAxis axis → axis.rule ≡ Block from to → axis_coordinate axis low ≡ axis_coordinate axis high → IsSteady axis low high
block-axis axis from to low high limits is same i above below =
    let ordered : IsRule (Block from to) = subst IsRule is limits.rule in
    ap (λ r. rule_coordinate r axis.extent i) is
    ∙ block-steady from to axis.extent low high ordered.2 limits.extent.0 (sym (ap (λ r. rule_coordinate r axis.extent low) is) ∙ same ∙ ap (λ r. rule_coordinate r axis.extent high) is) i above below
    ∙ sym (ap (λ r. rule_coordinate r axis.extent low) is)

-- blocks that are dealt out in rounds rise too
div_euclid-rises : (x y : ℤ) (b : ℕ) → 0 < b → x ≤ℤ y → int_div_euclid x (pos b) ≤ℤ int_div_euclid y (pos b)
div_euclid-rises (pos a) (pos c) b some less = let rise = quotient-rises a c b (omega (arith, ints, less)) some in omega (arith, ints, rise)
div_euclid-rises (pos a) (negsuc c) b some less = absurd (omega (arith, ints, less))
div_euclid-rises (negsuc a) (pos c) b some less = omega (arith, ints)
div_euclid-rises (negsuc a) (negsuc c) b some less = let rise = quotient-rises c a b (omega (arith, ints, less)) some in omega (arith, ints, rise)

-- so between two integers of one such block lies that block alone
pub rounds-axis : (axis : AxisValue) (start size low high : ℤ) → pos 1 ≤ℤ size → axis.rule ≡ BlockCyclic start size → int_div_euclid (low -ℤ start) size ≡ int_div_euclid (high -ℤ start) size → IsSteady axis low high
unfolding block_cyclic_place
rounds-axis axis start (negsuc n) low high some is same i above below = absurd (omega (arith, ints, some))
rounds-axis axis start (pos n) low high some is same i above below =
    let positive : 0 < n = omega (arith, ints, some) in
    let before = div_euclid-rises (low -ℤ start) (i -ℤ start) n positive (omega (arith, ints, above)) in
    let after = div_euclid-rises (i -ℤ start) (high -ℤ start) n positive (omega (arith, ints, below)) in
    let between : int_div_euclid (i -ℤ start) (pos n) ≡ int_div_euclid (low -ℤ start) (pos n) = omega (arith, ints, before, after, same) in
    ap (λ r. rule_coordinate r axis.extent i) is
    ∙ ap (λ q. count_of (int_rem_euclid q (pos axis.extent))) between
    ∙ sym (ap (λ r. rule_coordinate r axis.extent low) is)

-- an axis of one coordinate has no other
pub axis-one : (axis : AxisValue) (i : ℤ) → IsAxis axis → axis.extent ≡ 1 → axis_coordinate axis i ≡ 0
axis-one axis i limits one = let below = axis-below axis i limits in omega (arith, below, one)

-- THE OWNER OF WHAT LIES BETWEEN TWO INDICES
pub between-lengths : (lows is highs : List ℤ) → AreBetween lows is highs → (length is ≡ length lows) × (length highs ≡ length lows)
between-lengths [] [] [] between = (refl, refl)
between-lengths [] [] (h ∷ highs) between = absurd between
between-lengths [] (i ∷ is) highs between = absurd between
between-lengths (l ∷ lows) [] highs between = absurd between
between-lengths (l ∷ lows) (i ∷ is) [] between = absurd between
between-lengths (l ∷ lows) (i ∷ is) (h ∷ highs) between =
    let rest = between-lengths lows is highs between.2 in
    (ap suc rest.0, ap suc rest.1)

module _ (o m i : AxisValue) (x y z u v w : ℤ) (first : IsSteady o x u) (second : IsSteady m y v) (third : IsSteady i z w) where
  pub owner-between : (rank : ℕ) → IsMap rank o m i → IsPadded (pos 0) rank x y → (t : List ℤ) → AreBetween (last_of rank x y z) t (last_of rank u v w) → owner (last_of rank o m i) t ≡ locale_of o m i x y z
  owner-between zero is padded t between = absurd (omega (arith, padded.from_one))
  owner-between (suc zero) is padded [] between = absurd between
  owner-between (suc zero) is padded (c ∷ []) between =
      let x_is : pos 0 ≡ x = sym (padded.first (omega arith)) in
      let y_is : pos 0 ≡ y = sym (padded.second (omega arith)) in
      let here = third c between.0 between.1 in
      owner-padded 1 o m i (pos 0) (pos 0) c is (record { from_one = padded.from_one; to_three = padded.to_three; first = λ _. refl; second = λ _. refl })
      ∙ ap (λ a. locale_of o m i a (pos 0) c) x_is ∙ ap (λ b. locale_of o m i x b c) y_is ∙ ap (λ n. (axis_coordinate o x * m.extent + axis_coordinate m y) * i.extent + n) here
  owner-between (suc zero) is padded (c ∷ d ∷ t) between = absurd between.2
  owner-between (suc (suc zero)) is padded [] between = absurd between
  owner-between (suc (suc zero)) is padded (b ∷ []) between = absurd between.2
  owner-between (suc (suc zero)) is padded (b ∷ c ∷ []) between =
      let x_is : pos 0 ≡ x = sym (padded.first (omega arith)) in
      let here = third c between.2.0 between.2.1 in
      let next = second b between.0 between.1 in
      owner-padded 2 o m i (pos 0) b c is (record { from_one = padded.from_one; to_three = padded.to_three; first = λ _. refl; second = λ below. absurd (omega (arith, below)) })
      ∙ ap (λ a. locale_of o m i a b c) x_is ∙ ap (λ n. (axis_coordinate o x * m.extent + n) * i.extent + axis_coordinate i c) next ∙ ap (λ n. (axis_coordinate o x * m.extent + axis_coordinate m y) * i.extent + n) here
  owner-between (suc (suc zero)) is padded (b ∷ c ∷ d ∷ t) between = absurd between.2.2
  owner-between (suc (suc (suc zero))) is padded [] between = absurd between
  owner-between (suc (suc (suc zero))) is padded (a ∷ []) between = absurd between.2
  owner-between (suc (suc (suc zero))) is padded (a ∷ b ∷ []) between = absurd between.2.2
  owner-between (suc (suc (suc zero))) is padded (a ∷ b ∷ c ∷ []) between =
      let here = third c between.2.2.0 between.2.2.1 in
      let next = second b between.2.0 between.2.1 in
      let front = first a between.0 between.1 in
      owner-padded 3 o m i a b c is (record { from_one = padded.from_one; to_three = padded.to_three; first = λ below. absurd (omega (arith, below)); second = λ below. absurd (omega (arith, below)) })
      ∙ ap (λ n. (n * m.extent + axis_coordinate m b) * i.extent + axis_coordinate i c) front ∙ ap (λ n. (axis_coordinate o x * m.extent + n) * i.extent + axis_coordinate i c) next ∙ ap (λ n. (axis_coordinate o x * m.extent + axis_coordinate m y) * i.extent + n) here
  owner-between (suc (suc (suc zero))) is padded (a ∷ b ∷ c ∷ d ∷ t) between = absurd between.2.2.2
  owner-between (suc (suc (suc (suc n)))) is padded t between = absurd (omega (arith, padded.to_three))

-- THE BOX OF A DIMENSION
abbrev pub IsBoxOf : List AxisValue → ℕ → Option (ℤ × ℤ × ℕ) → Type 0
IsBoxOf axes d r = (low high : ℤ) (n : ℕ) → (r ≡ Some (low, high, n)) ↔ (slice_get axes d ≡ Some (record { rule = Block low high; extent = n }))

module _ (axes : List AxisValue) (d : ℕ) (axis : AxisValue) (at : slice_get axes d ≡ Some axis) where
  pub box-absent : (r : Option (ℤ × ℤ × ℕ)) → r ≡ None → ((low high : ℤ) → axis.rule ≡ Block low high → ⊥) → IsBoxOf axes d r
  box-absent r none other low high n = (
    (λ is. absurd (none-some (low, high, n) (sym none ∙ is))),
    (λ there. absurd (other low high (ap (λ a. a.rule) (same_Some axis (record { rule = Block low high; extent = n }) (sym at ∙ there))))),
  )

  pub box-there : (from to : ℤ) → axis.rule ≡ Block from to → ((low high : ℤ) → axis.rule ≡ Block low high → ◌≡◌ {A = Option (ℤ × ℤ)} (Some (from, to)) (Some (low, high))) → IsBoxOf axes d (Some (from, to, axis.extent))
  box-there from to rule only low high n = (
    (λ is.
        let same : ◌≡◌ {A = ℤ × ℤ × ℕ} (from, to, axis.extent) (low, high, n) = same_Some (from, to, axis.extent) (low, high, n) is in
        at ∙ ap (λ (r : RuleValue). Some (record { rule = r; extent = axis.extent })) rule ∙ ap (λ (p : ℤ × ℤ × ℕ). Some (record { rule = Block p.0 p.1; extent = p.2 })) same),
    (λ there.
        let is : axis ≡ record { rule = Block low high; extent = n } = same_Some axis (record { rule = Block low high; extent = n }) (sym at ∙ there) in
        let bounds : ◌≡◌ {A = ℤ × ℤ} (from, to) (low, high) = same_Some (from, to) (low, high) (only low high (ap (λ a. a.rule) is)) in
        ap {A = ℤ × ℤ} {B = Option (ℤ × ℤ × ℕ)} (λ p. Some (p.0, p.1, axis.extent)) bounds ∙ ap {A = ℕ} {B = Option (ℤ × ℤ × ℕ)} (λ k. Some (low, high, k)) (ap (λ a. a.extent) is)),
  )

-- THE START OF A DIMENSION THAT GOES ROUND
abbrev pub IsRoundOf : List AxisValue → ℕ → Option (ℤ × ℕ) → Type 0
IsRoundOf axes d r = (start : ℤ) (n : ℕ) → (r ≡ Some (start, n)) ↔ (slice_get axes d ≡ Some (record { rule = Cyclic start; extent = n }))

module _ (axes : List AxisValue) (d : ℕ) (axis : AxisValue) (at : slice_get axes d ≡ Some axis) where
  pub round-absent : (r : Option (ℤ × ℕ)) → r ≡ None → ((start : ℤ) → axis.rule ≡ Cyclic start → ⊥) → IsRoundOf axes d r
  round-absent r none other start n = (
    (λ is. absurd (none-some (start, n) (sym none ∙ is))),
    (λ there. absurd (other start (ap (λ a. a.rule) (same_Some axis (record { rule = Cyclic start; extent = n }) (sym at ∙ there))))),
  )

  pub round-there : (from : ℤ) → axis.rule ≡ Cyclic from → ((start : ℤ) → axis.rule ≡ Cyclic start → from ≡ start) → IsRoundOf axes d (Some (from, axis.extent))
  round-there from rule only start n = (
    (λ is.
        let same : ◌≡◌ {A = ℤ × ℕ} (from, axis.extent) (start, n) = same_Some (from, axis.extent) (start, n) is in
        at ∙ ap (λ (r : RuleValue). Some (record { rule = r; extent = axis.extent })) rule ∙ ap (λ (p : ℤ × ℕ). Some (record { rule = Cyclic p.0; extent = p.1 })) same),
    (λ there.
        let is : axis ≡ record { rule = Cyclic start; extent = n } = same_Some axis (record { rule = Cyclic start; extent = n }) (sym at ∙ there) in
        ap {A = ℤ} {B = Option (ℤ × ℕ)} (λ i. Some (i, axis.extent)) (only start (ap (λ a. a.rule) is)) ∙ ap {A = ℕ} {B = Option (ℤ × ℕ)} (λ k. Some (start, k)) (ap (λ a. a.extent) is)),
  )
