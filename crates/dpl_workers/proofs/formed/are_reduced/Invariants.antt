-- So it is of all reduce variables, if it is of those that are left.
use Rattle.std.proofs.Common.{map, drop}
use Rattle.dpl_memory.specs.Memory.{intents_by_slot}
use Rattle.dpl_nodes.specs.Steps.{intent_view}
use Rattle.dpl_workers.specs.Formed.{AreReduced}
use Rattle.dpl_workers.proofs.formed.are_reduced.Given as goal

abbrev pub invariant-loop-k : goal.invariant-loop-k
invariant-loop-k l =
    AreReduced l.numbers l.frame.memory (intents_by_slot (map intent_view (drop l.k l.intents)))
    → AreReduced l.numbers l.frame.memory (intents_by_slot (map intent_view l.intents))
