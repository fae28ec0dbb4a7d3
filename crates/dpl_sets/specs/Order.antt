-- The order of indices.
use Rattle.std.specs.Prelude.{List, ℤ, length}
use Rattle.std.specs.declared.cmp.Ordering.{Ordering}
use Rattle.std.specs.Ordering.{ordering_then, nat_cmp, int_cmp}
use Rattle.std.specs.Cmp.Lexicographic.{slice_cmp}

-- An index of a lower rank comes before one of a higher. Of two of one rank the one comes first whose coordinate
-- is the lesser in the first dimension in which they differ: row by row, the last dimension fastest.
abbrev pub row_order : List ℤ → List ℤ → Ordering
row_order s t = ordering_then (nat_cmp (length s) (length t)) (slice_cmp int_cmp s t)
