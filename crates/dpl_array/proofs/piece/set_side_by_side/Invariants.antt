-- The values so far stand side by side.
-- This is what the loop of `set_side_by_side` keeps.
use Rattle.std.proofs.Common.{◌≡◌}
use Rattle.dpl_array.specs.Rows.{set_each, side_by_side}
use Rattle.dpl_array.proofs.piece.set_side_by_side.Given as goal

abbrev pub invariant-loop-k : goal.invariant-loop-k
invariant-loop-k g l = l.row ≡ set_each (side_by_side l.place) l.values l.k l.initial.row
