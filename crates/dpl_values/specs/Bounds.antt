-- What the functions on bounds promise: a number that is one of the language's, or a fault.
-- A bound is a whole number without a limit; one that is no int is past the limit.
use Rattle.std.specs.Prelude.{◌≡◌, true, ℤ, Option, Some, None, Result}
use Rattle.dpl_sets.specs.TextRanges.{TextRange}
use Rattle.dpl_language.specs.Values.{Fault}
use Rattle.dpl_language.specs.Ranges.{past_limit, bounded}
use Rattle.dpl_nodes.specs.Typed.{dots_view}
use Rattle.dpl_values.specs.declared.range.Written.{Written}

-- the bound, or none where it is past the limit
abbrev pub FitsOrPast : ℤ → Option ℤ → Type 0
FitsOrPast z (Some n) = n ≡ z
FitsOrPast z None = past_limit z ≡ true

-- the range of bounds that are written, or the fault that is told at its dots
abbrev pub bounds_of : Written → Result TextRange Fault
bounds_of w = bounded w.at (dots_view w.dots) w.low w.number
