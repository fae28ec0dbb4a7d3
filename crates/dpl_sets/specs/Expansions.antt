-- Expanded domains: each low bound moved down, each high bound moved up.
use Rattle.std.specs.Prelude.{◌≡◌, List, ℤ, pos, ◌+ℤ◌, ◌-ℤ◌, map, All}
use Rattle.dpl_sets.specs.Ranges.{RangeValue, IsBound}

-- A range with its low bound moved down by k, its high bound moved up by k, and its stride as it was. The bounds
-- are whole numbers without a limit, so what is moved has its members whether it is a range or not.
abbrev pub moved : ℤ → RangeValue → RangeValue
moved k r = record { low = r.low -ℤ k; high = r.high +ℤ k; stride = r.stride }

-- each dimension of a domain is moved by the same number
abbrev pub expanded : ℤ → List RangeValue → List RangeValue
expanded k ranges = map (moved k) ranges

-- a range has the stride 1
abbrev pub IsUnit : RangeValue → Type 0
IsUnit r = r.stride ≡ pos 1

-- both bounds of a range are within the limits
abbrev pub IsBounded : RangeValue → Type 0
IsBounded r = IsBound r.low × IsBound r.high

-- only a domain whose dimensions have the stride 1 is expanded
abbrev pub AreUnit : List RangeValue → Type 0
AreUnit ranges = All IsUnit ranges

-- and only where each moved bound is within the limits
abbrev pub AreBounded : List RangeValue → Type 0
AreBounded ranges = All IsBounded ranges
