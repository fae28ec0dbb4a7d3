-- When two ranges of the language are equal.
use Rattle.std.specs.Prelude.{◌≡◌, Bool, false, ℤ, pos}
use Rattle.dpl_sets.specs.Ranges.{RangeValue, members_of}
use Rattle.dpl_sets.specs.RangeSlices.{sliced}

-- A range of the language: its value, and whether it is strided, that is, whether its text has `by`, whatever the
-- stride.
pub record TextRange : Type 0 where
  pub value : RangeValue
  pub strided : Bool

-- without `by` the stride is 1
abbrev pub IsTextRange : TextRange → Type 0
IsTextRange r = r.strided ≡ false → r.value.stride ≡ pos 1

-- Two ranges are equal where their lists are, and where neither is strided their bounds too: the slices of an empty
-- range and what it is expanded to show its bounds.
pub record SameRange (r s : TextRange) : Type 0 where
  pub members : members_of r.value ≡ members_of s.value
  pub low : r.strided ≡ false → s.strided ≡ false → r.value.low ≡ s.value.low
  pub high : r.strided ≡ false → s.strided ≡ false → r.value.high ≡ s.value.high

-- a slice is strided where its range is
abbrev pub text_sliced : ℤ → ℤ → TextRange → TextRange
text_sliced low high r = record { value = sliced low high r.value; strided = r.strided }
