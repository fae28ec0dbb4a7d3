-- What the spans of a part tell of its row.
-- The invariant of a piece speaks of it, and so does what names an element.
use Rattle.std.specs.Prelude.{ℤ, List}
use Rattle.dpl_array.specs.Windows.{StandsOnLine, StandsOnPlane}
use Rattle.dpl_array.specs.declared.spans.Spans.{Spans}

-- the integers of its line and of its plane are indices of the row
pub record AreSpansOf (row : List (List ℤ)) (spans : Spans) : Type 0 where
  pub on_line : StandsOnLine row spans.line.low spans.line.size
  pub on_plane : StandsOnPlane row spans.grid.rows.low spans.grid.rows.size spans.grid.columns.low spans.grid.columns.size
