-- When two domains are equal in the language.
-- A value says nothing of how its text was written, so the stride has to tell it.
use Rattle.std.specs.Prelude.{List, pos, not, map}
use Rattle.std.specs.Ordering.{int_eq}
use Rattle.dpl_sets.specs.Ranges.{RangeValue}
use Rattle.dpl_sets.specs.TextRanges.{TextRange}

-- a range whose stride is 1 counts as one that the text makes unstrided, so that its bounds are compared
abbrev pub text_of : RangeValue → TextRange
text_of r = record { value = r; strided = not (int_eq r.stride (pos 1)) }

abbrev pub texts_of : List RangeValue → List TextRange
texts_of ranges = map text_of ranges
