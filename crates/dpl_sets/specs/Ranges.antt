-- What a range is to the language and to a contract, and the limits of the language's ranges.
use Rattle.std.specs.Prelude.{ℕ, ◌^◌, ◌<◌, ◌≤◌, List, ℤ, pos, neg_ℤ, ◌≤ℤ◌, unsigned_abs, Bool, ◌&&◌, nat_lt, nat_le}
use Rattle.dpl_sets.specs.Members.{members}

-- a range value: its two bounds and its stride
pub record RangeValue : Type 0 where
  pub low : ℤ
  pub high : ℤ
  pub stride : ℤ

-- the list that a range is
abbrev pub members_of : RangeValue → List ℤ
members_of r = members r.low r.high r.stride

-- the limit of bounds, of strides and of the counts of ranges
abbrev pub limit : ℕ
limit = 2 ^ 60

-- a bound lies within -2^60..2^60
abbrev pub IsBound : ℤ → Type 0
IsBound i = (neg_ℤ (pos limit) ≤ℤ i) × (i ≤ℤ pos limit)

-- a stride is from 1 to 2^60 in size
abbrev pub IsStride : ℤ → Type 0
IsStride s = (0 < unsigned_abs s) × (unsigned_abs s ≤ limit)

-- the same two as tests
abbrev pub is_bound : ℤ → Bool
is_bound i = nat_le (unsigned_abs i) limit

abbrev pub is_stride : ℤ → Bool
is_stride s = nat_lt 0 (unsigned_abs s) && nat_le (unsigned_abs s) limit
