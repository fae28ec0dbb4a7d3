-- The owner of a tuple by its numbers, with locales in front that a map doesn't have.
use Rattle.std.proofs.Common.{◌≡◌, ℕ, zero, suc, ◌+◌, ◌*◌, ◌<◌, ◌≤◌, List, length, refl, arith, ℤ, pos, false, nat_eq}
use Rattle.std.proofs.lemmas.Nat.{mul-add-lt}
use Rattle.std.proofs.Math.Nat.{mul-le-mul}
use Rattle.dpl_domain.specs.Ranks.{last_of, IsPadded}
use Rattle.dpl_map.specs.Maps.{AxisValue, axis_coordinate, locales, owner}
use Rattle.dpl_map.specs.MapFields.{IsMap, idle}
use Rattle.dpl_map.specs.Places.{cyclic_place}

pub nat_eq-false : (m n : ℕ) → (m ≡ n → ⊥) → nat_eq m n ≡ false
nat_eq-false m n different = grind arith

pub owner-other : (axes : List AxisValue) (t : List ℤ) → (length t ≡ length axes → ⊥) → owner axes t ≡ 0
unfolding owner
owner-other axes t different = rw (nat_eq-false (length t) (length axes) different) refl

pub length-last_of : {A : Type 0} (rank : ℕ) (a b c : A) → rank ≤ 3 → length (last_of rank a b c) ≡ rank
length-last_of zero a b c small = refl
length-last_of (suc zero) a b c small = refl
length-last_of (suc (suc zero)) a b c small = refl
length-last_of (suc (suc (suc zero))) a b c small = refl
length-last_of (suc (suc (suc (suc n)))) a b c small = absurd (omega arith)

-- the one coordinate of an idle axis
pub idle-coordinate : axis_coordinate idle (pos 0) ≡ 0
unfolding cyclic_place
idle-coordinate = refl

pub locales-padded : (rank : ℕ) (o m i : AxisValue) → IsMap rank o m i → locales (last_of rank o m i) ≡ o.extent * m.extent * i.extent
locales-padded zero o m i is =
    let front : o ≡ idle = is.first (omega arith) in
    let next : m ≡ idle = is.second (omega arith) in
    let last : i ≡ idle = is.third (omega arith) in
    rw (front, next, last) refl
locales-padded (suc zero) o m i is =
    let front : o ≡ idle = is.first (omega arith) in
    let next : m ≡ idle = is.second (omega arith) in
    rw (front, next) (omega arith)
locales-padded (suc (suc zero)) o m i is =
    let front : o ≡ idle = is.first (omega arith) in
    rw front (omega arith)
locales-padded (suc (suc (suc zero))) o m i is = omega arith
locales-padded (suc (suc (suc (suc n)))) o m i is = absurd (omega (arith, is.to_three))

-- the coordinate in the grid
abbrev pub locale_of : AxisValue → AxisValue → AxisValue → ℤ → ℤ → ℤ → ℕ
locale_of o m i x y z = (axis_coordinate o x * m.extent + axis_coordinate m y) * i.extent + axis_coordinate i z

pub owner-padded : (rank : ℕ) (o m i : AxisValue) (x y z : ℤ) → IsMap rank o m i → IsPadded (pos 0) rank x y → owner (last_of rank o m i) (last_of rank x y z) ≡ locale_of o m i x y z
unfolding owner
owner-padded zero o m i x y z is padded = absurd (omega (arith, padded.from_one))
owner-padded (suc zero) o m i x y z is padded =
    let front : o ≡ idle = is.first (omega arith) in
    let next : m ≡ idle = is.second (omega arith) in
    let x_is : x ≡ pos 0 = padded.first (omega arith) in
    let y_is : y ≡ pos 0 = padded.second (omega arith) in
    rw (front, next, x_is, y_is, idle-coordinate) (omega arith)
owner-padded (suc (suc zero)) o m i x y z is padded =
    let front : o ≡ idle = is.first (omega arith) in
    let x_is : x ≡ pos 0 = padded.first (omega arith) in
    rw (front, x_is, idle-coordinate) (omega arith)
owner-padded (suc (suc (suc zero))) o m i x y z is padded = omega arith
owner-padded (suc (suc (suc (suc n)))) o m i x y z is padded = absurd (omega (arith, padded.to_three))

-- a coordinate in the grid is below the number of locales
pub row-below : (a m n p q r : ℕ) → p < a → q < m → r < n → (p * m + q) * n + r < a * m * n
row-below a m n p q r p_below q_below r_below =
    let row = mul-add-lt p m q a p_below q_below in
    let e = mul-add-lt (p * m + q) n r (a * m) (omega (arith, row)) r_below in
    omega (arith, e)

-- there is a coordinate
pub locales-positive : (rank : ℕ) (o m i : AxisValue) → IsMap rank o m i → 0 < locales (last_of rank o m i)
locales-positive rank o m i is =
    let row : 1 * 1 ≤ o.extent * m.extent = mul-le-mul is.outer_limits.extent.0 is.middle_limits.extent.0 in
    let one : 1 ≤ o.extent * m.extent = omega (arith, row) in
    let all : 1 * 1 ≤ o.extent * m.extent * i.extent = mul-le-mul {n₁ = 1} {m₁ = 1} one is.inner_limits.extent.0 in
    omega (arith, all, locales-padded rank o m i is)
