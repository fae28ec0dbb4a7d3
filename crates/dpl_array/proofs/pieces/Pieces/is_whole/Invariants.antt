-- The places so far have their pieces.
-- This is what the loop of `Pieces::is_whole` keeps.
use Rattle.std.proofs.Common.{◌≡◌, ◌<◌, ℕ, true, is_some, None, slice_index_or}
use Rattle.dpl_array.proofs.pieces.Pieces.is_whole.Given as goal

abbrev pub invariant-loop-slot : goal.invariant-loop-slot
invariant-loop-slot g l = (k : ℕ) → k < l.slot-index → is_some (slice_index_or l.slot-items k None) ≡ true
