-- What a map is made of, by three numbers, extents or ranges of which the last ones count.
use Rattle.std.proofs.Common.{◌≡◌, ℕ, zero, suc, ◌*◌, ◌≤◌, List, refl, arith, ℤ, pos, All}
use Rattle.std.proofs.lemmas.Int.{ints}
use Rattle.std.proofs.Math.Nat.{mul-le-mul_left, mul-le-mul_right}
use Rattle.dpl_sets.specs.Ranges.{RangeValue, IsBound}
use Rattle.dpl_domain.specs.Ranks.{last_of, IsPadded, IsFilled}
use Rattle.dpl_map.specs.Grids.{grid_size, IsGridSize}
use Rattle.dpl_map.specs.Maps.{AxisValue, Cyclic, BlockCyclic, cyclic_map, block_cyclic_map, IsBlocksize, IsBoxed, IsBlockMap}

-- the factors of a product from 1 on are from 1 on
factors : (a b : ℕ) → 1 ≤ a * b → (1 ≤ a) × (1 ≤ b)
factors zero b some = absurd (omega arith)
factors (suc a) zero some = absurd (omega arith)
factors (suc a) (suc b) some = (omega arith, omega arith)

-- an extent of a grid is no more than the locales of the grid
pub extents-small : (a b c : ℕ) → IsGridSize (a * b * c) → IsGridSize a × IsGridSize b × IsGridSize c
extents-small a b c size =
    let outer = factors (a * b) c size.0 in
    let inner = factors a b outer.0 in
    let rows : a * b * 1 ≤ a * b * c = mul-le-mul_left (a * b) outer.1 in
    let first : a * 1 ≤ a * b = mul-le-mul_left a inner.1 in
    let second : 1 * b ≤ a * b = mul-le-mul_right b inner.0 in
    let third : 1 * c ≤ a * b * c = mul-le-mul_right c outer.0 in
    ((inner.0, omega (arith, size.1)), (inner.1, omega (arith, size.1)), (outer.1, omega (arith, size.1)))

-- the coordinates of a tuple are within the limits where its three numbers are
pub All-bounds : (rank : ℕ) (a b c : ℤ) → IsPadded (pos 0) rank a b → IsBound a → IsBound b → IsBound c → All IsBound (last_of rank a b c)
All-bounds rank a b c padded first second third = go rank padded.to_three
  where
    go : (rank : ℕ) → rank ≤ 3 → All IsBound (last_of rank a b c)
    go zero small k d within = absurd (omega arith)
    go (suc zero) small zero d within = third
    go (suc zero) small (suc k) d within = absurd (omega arith)
    go (suc (suc zero)) small zero d within = second
    go (suc (suc zero)) small (suc zero) d within = third
    go (suc (suc zero)) small (suc (suc k)) d within = absurd (omega arith)
    go (suc (suc (suc n))) small zero d within = first
    go (suc (suc (suc n))) small (suc zero) d within = second
    go (suc (suc (suc n))) small (suc (suc zero)) d within = third
    go (suc (suc (suc n))) small (suc (suc (suc k))) d within = absurd (omega arith)

zero-bound : (a : ℤ) → a ≡ pos 0 → IsBound a
zero-bound a is = (omega (arith, ints), omega (arith, ints))

pub bounds-All : (rank : ℕ) (a b c : ℤ) → IsPadded (pos 0) rank a b → All IsBound (last_of rank a b c) → IsBound a × IsBound b × IsBound c
bounds-All zero a b c padded all = absurd (omega (arith, padded.from_one))
bounds-All (suc zero) a b c padded all = (zero-bound a (padded.first (omega arith)), zero-bound b (padded.second (omega arith)), all 0 c (omega arith))
bounds-All (suc (suc zero)) a b c padded all = (zero-bound a (padded.first (omega arith)), all 0 b (omega arith), all 1 c (omega arith))
bounds-All (suc (suc (suc zero))) a b c padded all = (all 0 a (omega arith), all 1 b (omega arith), all 2 c (omega arith))
bounds-All (suc (suc (suc (suc n)))) a b c padded all = absurd (omega (arith, padded.to_three))

-- and so are the sizes of blocks
pub All-sizes : (rank : ℕ) (a b c : ℤ) → IsPadded (pos 1) rank a b → IsBlocksize a → IsBlocksize b → IsBlocksize c → All IsBlocksize (last_of rank a b c)
All-sizes rank a b c padded first second third = go rank padded.to_three
  where
    go : (rank : ℕ) → rank ≤ 3 → All IsBlocksize (last_of rank a b c)
    go zero small k d within = absurd (omega arith)
    go (suc zero) small zero d within = third
    go (suc zero) small (suc k) d within = absurd (omega arith)
    go (suc (suc zero)) small zero d within = second
    go (suc (suc zero)) small (suc zero) d within = third
    go (suc (suc zero)) small (suc (suc k)) d within = absurd (omega arith)
    go (suc (suc (suc n))) small zero d within = first
    go (suc (suc (suc n))) small (suc zero) d within = second
    go (suc (suc (suc n))) small (suc (suc zero)) d within = third
    go (suc (suc (suc n))) small (suc (suc (suc k))) d within = absurd (omega arith)

one-size : (a : ℤ) → a ≡ pos 1 → IsBlocksize a
one-size a is = omega (arith, ints, is)

pub sizes-All : (rank : ℕ) (a b c : ℤ) → IsPadded (pos 1) rank a b → All IsBlocksize (last_of rank a b c) → IsBlocksize a × IsBlocksize b × IsBlocksize c
sizes-All zero a b c padded all = absurd (omega (arith, padded.from_one))
sizes-All (suc zero) a b c padded all = (one-size a (padded.first (omega arith)), one-size b (padded.second (omega arith)), all 0 c (omega arith))
sizes-All (suc (suc zero)) a b c padded all = (one-size a (padded.first (omega arith)), all 0 b (omega arith), all 1 c (omega arith))
sizes-All (suc (suc (suc zero))) a b c padded all = (all 0 a (omega arith), all 1 b (omega arith), all 2 c (omega arith))
sizes-All (suc (suc (suc (suc n)))) a b c padded all = absurd (omega (arith, padded.to_three))

abbrev pub cyclic_axis : ℤ → ℕ → AxisValue
cyclic_axis start n = record { rule = Cyclic start; extent = n }

pub cyclic_map-last_of : (rank : ℕ) (a b c : ℤ) (x y z : ℕ) → cyclic_map (last_of rank a b c) (last_of rank x y z) ≡ last_of rank (cyclic_axis a x) (cyclic_axis b y) (cyclic_axis c z)
cyclic_map-last_of zero a b c x y z = refl
cyclic_map-last_of (suc zero) a b c x y z = refl
cyclic_map-last_of (suc (suc zero)) a b c x y z = refl
cyclic_map-last_of (suc (suc (suc n))) a b c x y z = refl

abbrev pub block_cyclic_axis : ℤ → ℤ → ℕ → AxisValue
block_cyclic_axis start size n = record { rule = BlockCyclic start size; extent = n }

pub block_cyclic_map-last_of : (rank : ℕ) (a b c d e f : ℤ) (x y z : ℕ) → block_cyclic_map (last_of rank a b c) (last_of rank d e f) (last_of rank x y z) ≡ last_of rank (block_cyclic_axis a d x) (block_cyclic_axis b e y) (block_cyclic_axis c f z)
block_cyclic_map-last_of zero a b c d e f x y z = refl
block_cyclic_map-last_of (suc zero) a b c d e f x y z = refl
block_cyclic_map-last_of (suc (suc zero)) a b c d e f x y z = refl
block_cyclic_map-last_of (suc (suc (suc n))) a b c d e f x y z = refl

pub IsBlockMap-last_of : (rank : ℕ) (o m i : RangeValue) (x y z : ℕ) (a b c : AxisValue) → IsBoxed o x a → IsBoxed m y b → IsBoxed i z c → IsBlockMap (last_of rank o m i) (last_of rank x y z) (last_of rank a b c)
IsBlockMap-last_of zero o m i x y z a b c outer middle inner = tt
IsBlockMap-last_of (suc zero) o m i x y z a b c outer middle inner = (inner, tt)
IsBlockMap-last_of (suc (suc zero)) o m i x y z a b c outer middle inner = (middle, (inner, tt))
IsBlockMap-last_of (suc (suc (suc n))) o m i x y z a b c outer middle inner = (outer, (middle, (inner, tt)))

-- the locales of a grid are the product of its three extents
pub size-filled : (extents : List ℕ) (rank o m i : ℕ) → extents ≡ last_of rank o m i → IsFilled 1 rank o m i → grid_size extents ≡ o * m * i
size-filled extents zero o m i is filled =
    let first : o ≡ 1 = filled.first (omega arith) in
    let second : m ≡ 1 = filled.second (omega arith) in
    let third : i ≡ 1 = filled.third (omega arith) in
    rw (is, first, second, third) refl
size-filled extents (suc zero) o m i is filled =
    let first : o ≡ 1 = filled.first (omega arith) in
    let second : m ≡ 1 = filled.second (omega arith) in
    rw (is, first, second) (omega arith)
size-filled extents (suc (suc zero)) o m i is filled =
    let first : o ≡ 1 = filled.first (omega arith) in
    rw (is, first) (omega arith)
size-filled extents (suc (suc (suc zero))) o m i is filled = rw is (omega arith)
size-filled extents (suc (suc (suc (suc n)))) o m i is filled = absurd (omega (arith, filled.to_three))
