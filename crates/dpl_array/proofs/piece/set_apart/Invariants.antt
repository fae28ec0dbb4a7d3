-- The values so far stand at their places.
-- This is what the loop of `set_apart` keeps.
use Rattle.std.proofs.Common.{◌≡◌}
use Rattle.dpl_array.specs.Rows.{apart_by, set_each}
use Rattle.dpl_array.proofs.piece.set_apart.Given as goal

abbrev pub invariant-loop-k : goal.invariant-loop-k
invariant-loop-k g l = l.row ≡ set_each (apart_by l.pace l.place) l.values l.k l.initial.row
