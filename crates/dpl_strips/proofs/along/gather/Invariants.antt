use Rattle.std.proofs.Common.{◌≡◌, ◌<◌, ◌≤◌, ◌-◌, ℕ, pos, Some, get_or}
use Rattle.dpl_array.specs.Elements.{behind}
use Rattle.dpl_memory.specs.Memory.{array_at, held_at}
use Rattle.dpl_strips.proofs.along.gather.Given as goal

-- the words so far stand along the row
abbrev pub invariant-loop-size : goal.invariant-loop-size
invariant-loop-size g l = record {
  row : l.strip.row ≡ l.initial.strip.row;
  within : l.size ≤ l.wanted;
  stand : (k : ℕ) → k < l.size → held_at (behind k l.at) (array_at l.slot l.frame.memory) ≡ Some (get_or l.strip.words k (pos 0));
}

abbrev pub decreases-loop-size : goal.decreases-loop-size
decreases-loop-size g l = l.wanted - l.size
