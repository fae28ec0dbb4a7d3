-- Those that were gone through are the same.
use Rattle.std.proofs.Common.{◌≡◌, length, map, take}
use Rattle.dpl_memory.specs.Memory.{intents_by_slot}
use Rattle.dpl_nodes.specs.Steps.{intent_view}
use Rattle.dpl_workers.proofs.formed.are_same.Given as goal

abbrev pub invariant-loop-intent : goal.invariant-loop-intent
invariant-loop-intent l =
    intents_by_slot (map intent_view (take (length l.yielded) l.intents)) ≡ intents_by_slot (map intent_view (take (length l.yielded) l.others))
