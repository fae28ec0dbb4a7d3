-- A range's value with its flag, which says whether the text strides it.
use Rattle.std.specs.Prelude.{Bool}
use Rattle.dpl_sets.specs.Ranges.{RangeValue}
use Rattle.dpl_sets.specs.TextRanges.{TextRange}

abbrev pub flagged : RangeValue → Bool → TextRange
flagged r strided = record { value = r; strided = strided }
