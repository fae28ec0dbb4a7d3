-- What holds of every range that is kept.
use Rattle.std.specs.Prelude.{◌^◌, ◌<◌, ◌≤◌, unsigned_abs}
use Rattle.dpl_sets.specs.Ranges.{RangeValue, IsBound}

-- Its bounds are bounds, and its stride is not 0. The stride of a congruence class of a range can be longer than
-- one that is written, and no longer than the bounds are apart.
pub record IsRange (r : RangeValue) : Type 0 where
  pub low_is_bound : IsBound r.low
  pub high_is_bound : IsBound r.high
  pub stride_is_not_zero : 0 < unsigned_abs r.stride
  pub stride_is_short : unsigned_abs r.stride ≤ 2 ^ 61
