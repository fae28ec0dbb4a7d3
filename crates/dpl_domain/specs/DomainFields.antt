-- The sizes that a domain keeps beside its ranges.
use Rattle.std.specs.Prelude.{◌≡◌, ℕ, List, length}
use Rattle.dpl_sets.specs.Ranges.{RangeValue, members_of}
use Rattle.dpl_sets.specs.Indices.{indices, IsRank, IsSmall}
use Rattle.dpl_domain.specs.Ranks.{point}
use Rattle.dpl_domain.specs.DimensionFields.{fields_of}

-- how many indices a line has, along the last dimension
abbrev pub line_size : List RangeValue → ℕ
line_size ranges = length (members_of (fields_of point ranges).inner)

-- how many lines a plane has, along the dimension before it
abbrev pub line_count : List RangeValue → ℕ
line_count ranges = length (members_of (fields_of point ranges).middle)

pub record IsDomain (ranges : List RangeValue) (lines line size : ℕ) : Type 0 where
  pub rank : IsRank ranges
  pub small : IsSmall ranges
  pub lines_are : lines ≡ line_count ranges
  pub line_is : line ≡ line_size ranges
  pub size_is : size ≡ length (indices ranges)
