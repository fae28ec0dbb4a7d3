-- The slot is that of one of all reduce variables, where it is that of one that is left.
use Rattle.std.proofs.Common.{◌≡◌, map, drop}
use Rattle.dpl_memory.specs.Memory.{is_among, intents_by_slot}
use Rattle.dpl_nodes.specs.Steps.{intent_view}
use Rattle.dpl_workers.proofs.formed.is_reduced.Given as goal

abbrev pub invariant-loop-intent : goal.invariant-loop-intent
invariant-loop-intent l =
    is_among l.slot (map (λ p. p.0) (intents_by_slot (map intent_view (drop l.intent-index l.intents))))
    ≡ is_among l.slot (map (λ p. p.0) (intents_by_slot (map intent_view l.intents)))
