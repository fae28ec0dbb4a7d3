-- Halos: what a locale reads of an array and does not own.
-- Its turns are the indices that it owns of the loop's domain, by the map that places the turns.
use Rattle.std.specs.Prelude.{ℕ, List, ℤ, Bool, not, ◌&&◌, ◌==◌, filter}
use Rattle.dpl_sets.specs.Ranges.{RangeValue}
use Rattle.dpl_sets.specs.declared.subscript.Subscript.{Subscript}
use Rattle.dpl_map.specs.Maps.{AxisValue, owner}
use Rattle.dpl_map.specs.Parts.{part}
use Rattle.dpl_array.specs.Elements.{Elements}
use Rattle.dpl_array.specs.Arrays.{ArrayValue}
use Rattle.dpl_halo.specs.Listed.{is_listed}
use Rattle.dpl_halo.specs.Shifts.{reads}

-- another locale owns an index
abbrev pub is_foreign : List AxisValue → ℕ → List ℤ → Bool
is_foreign axes locale t = not (owner axes t == locale)

-- The remote elements of a locale for a loop and an array: those of the array whose index is read by a shifted read in one of the
-- locale's turns, and which another locale owns.
abbrev pub remote : {T : Type 0} → ArrayValue T → List RangeValue → List AxisValue → ℕ → List (List Subscript) → Elements T
remote a domain axes locale shifts = filter (λ e. is_listed (reads shifts (part domain axes locale)) e.0 && is_foreign a.map locale e.0) a.elements
