use Rattle.std.proofs.Common.{◌≡◌, ◌<◌, ◌≤◌, ◌-◌, ℕ, true, length, is_some}
use Rattle.dpl_array.specs.Elements.{behind, put_in_row}
use Rattle.dpl_memory.specs.Memory.{array_at, with_array, held_at, held_with}
use Rattle.dpl_frame.specs.Frames.{with_memory}
use Rattle.dpl_elements.proofs.row.put_along.Given as goal

-- so many words are put along the row
abbrev pub invariant-loop-made : goal.invariant-loop-made
invariant-loop-made g l = record {
  within : l.made ≤ length l.words;
  there : (k : ℕ) → k < l.made → is_some (held_at (behind k l.at) (array_at l.slot l.fn.frame.memory)) ≡ true;
  changes : l.frame ≡ with_memory (with_array l.slot (put_in_row held_with l.at l.words l.made (array_at l.slot l.fn.frame.memory)) l.fn.frame.memory) l.fn.frame;
}

abbrev pub decreases-loop-made : goal.decreases-loop-made
decreases-loop-made g l = length l.words - l.made
