-- The pieces so far.
-- This is what the loop of `Pieces::new` keeps.
use Rattle.std.proofs.Common.{◌≡◌, ◌<◌, ℕ, length, slice_get, Some}
use Rattle.dpl_map.specs.Parts.{part}
use Rattle.dpl_array.specs.Elements.{filled}
use Rattle.dpl_array.proofs.pieces.Pieces.new.Given as goal

abbrev pub invariant-loop-locale : goal.invariant-loop-locale
invariant-loop-locale g l =
    (length l.held.items ≡ l.locale)
    × ((k : ℕ) → k < l.locale → slice_get l.held.items k ≡ Some (Some (record { domain = l.domain; map = l.map; locale = k; elements = filled (part l.domain l.map k) l.value })))
