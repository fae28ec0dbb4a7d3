-- The values so far.
-- This is what the loop of `row` keeps.
use Rattle.std.proofs.Common.{◌≡◌, ◌≤◌, ◌-◌, replicate, vec_len}
use Rattle.dpl_array.proofs.piece.row.Given as goal

abbrev pub invariant-loop-value : goal.invariant-loop-value
invariant-loop-value g l = (l.values.items ≡ replicate (vec_len l.values) l.value) × (vec_len l.values ≤ l.size)

abbrev pub decreases-loop-value : goal.decreases-loop-value
decreases-loop-value g l = l.size - vec_len l.values
