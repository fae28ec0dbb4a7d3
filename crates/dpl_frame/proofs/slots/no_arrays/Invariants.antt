-- Each slot so far is without an array.
use Rattle.std.proofs.Common.{◌≡◌, map, replicate}
use Rattle.dpl_memory.specs.Memory.{no_array}
use Rattle.dpl_frame.specs.Frames.{held_in}
use Rattle.dpl_frame.proofs.slots.no_arrays.Given as goal

abbrev pub invariant-loop : goal.invariant-loop
invariant-loop l = map held_in l.arrays.items ≡ replicate l.counter no_array
