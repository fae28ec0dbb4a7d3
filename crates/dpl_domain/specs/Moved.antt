-- What the code keeps of a range that is moved.
use Rattle.std.specs.Prelude.{◌<◌, ◌^◌, ◌≤ℤ◌, pos, neg_ℤ, unsigned_abs}
use Rattle.dpl_sets.specs.Ranges.{RangeValue}

-- What holds of every range that is moved by a machine number: its bounds stay within -2^64..2^64.
pub record IsMoved (r : RangeValue) : Type 0 where
  pub low_from : neg_ℤ (pos (2 ^ 64)) ≤ℤ r.low
  pub low_to : r.low ≤ℤ pos (2 ^ 64)
  pub high_from : neg_ℤ (pos (2 ^ 64)) ≤ℤ r.high
  pub high_to : r.high ≤ℤ pos (2 ^ 64)
  pub stride_is_not_zero : 0 < unsigned_abs r.stride
