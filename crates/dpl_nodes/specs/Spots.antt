-- The places that the word of a fault has room for.
use Rattle.std.specs.Prelude.{◌<◌}
use Rattle.dpl_syntax.specs.declared.place.Place.{Place}

abbrev pub IsNear : Place → Type 0
IsNear at = (at.line < 2097152) × (at.column < 2097152)
