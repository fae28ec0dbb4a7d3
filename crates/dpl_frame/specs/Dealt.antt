-- By which map the turns of a forall are dealt out over the locales: by that of the array that they write first; where they write
-- none, by that of the name from which the loop's domain is derived; else locale 0 makes them all.
use Rattle.std.specs.Prelude.{ℕ, List, Option, Some, None}
use Rattle.dpl_map.specs.Maps.{AxisValue, whole_map}
use Rattle.dpl_frame.specs.Frames.{Framed, owned_by}

abbrev pub slot_map : Framed → Option ℕ → List AxisValue
slot_map f (Some slot) = owned_by f slot
slot_map f None = whole_map

abbrev pub dealt_by : Framed → Option ℕ → Option ℕ → List AxisValue
dealt_by f over (Some slot) = owned_by f slot
dealt_by f over None = slot_map f over
