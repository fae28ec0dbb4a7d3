-- What reads of an array remember.
use Rattle.std.specs.Prelude.{◌≡◌, ℕ, Option, IfSome}
use Rattle.std.specs.Borrow.{Bor}
use Rattle.dpl_array.specs.Arrays.{ArrayValue, PieceValue, restriction}
use Rattle.dpl_array.specs.Windows.{IsLineOf, IsPlaneOf}
use Rattle.dpl_array.specs.declared.window.Line.{Line}
use Rattle.dpl_array.specs.declared.window.Plane.{Plane}

-- the piece that is remembered, if there is one, is the array's own of some locale
abbrev pub IsRemembered : {T : Type 0} → ArrayValue T → Option (Bor (PieceValue T)) → Type 0
IsRemembered a piece = IfSome piece (λ p. (l : ℕ) × (p.now ≡ restriction a l))

-- the line that is remembered has values of the array
abbrev pub IsLineIn : {T : Type 0} → ArrayValue T → Line T → Type 0
IsLineIn a l = IsLineOf a.elements l.values.now l.span.low l.span.size

-- and so has the plane
abbrev pub IsPlaneIn : {T : Type 0} → ArrayValue T → Plane T → Type 0
IsPlaneIn a p = IsPlaneOf a.elements p.values.now p.grid.rows.low p.grid.rows.size p.grid.columns.low p.grid.columns.size
