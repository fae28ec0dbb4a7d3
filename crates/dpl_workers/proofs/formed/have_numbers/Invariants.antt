-- There are numbers in all slots, if there are in those that are left.
use Rattle.std.proofs.Common.{◌<◌, length, drop}
use Rattle.std.specs.List.{AllByRecursion}
use Rattle.dpl_workers.proofs.formed.have_numbers.Given as goal

abbrev pub invariant-loop-slot : goal.invariant-loop-slot
invariant-loop-slot l =
    AllByRecursion (λ slot. slot < length l.frame.memory.words.numbers) (drop l.slot-index l.slots)
    → AllByRecursion (λ slot. slot < length l.frame.memory.words.numbers) l.slots
