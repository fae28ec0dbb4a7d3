-- The starts of the domains so far, and where the next one begins.
-- This is what the loop of `starts_of` keeps.
use Rattle.std.proofs.Common.{◌≡◌, ◌<◌, ℕ, length, slice_index_or}
use Rattle.dpl_array.specs.Rows.{start_of}
use Rattle.dpl_array.proofs.place.starts_of.Given as goal

abbrev pub invariant-loop-part : goal.invariant-loop-part
invariant-loop-part l =
    (length l.starts.items ≡ l.part-index)
    × (l.size ≡ start_of l.parts l.part-index)
    × ((k : ℕ) → k < l.part-index → slice_index_or l.starts.items k 0 ≡ start_of l.parts k)
