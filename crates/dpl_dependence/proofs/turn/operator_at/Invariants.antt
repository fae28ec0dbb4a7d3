-- None of the reduce variables so far has the slot.
use Rattle.std.proofs.Common.{◌≡◌, drop, map}
use Rattle.dpl_words.specs.Words.{intent_at}
use Rattle.dpl_memory.specs.Memory.{intents_by_slot}
use Rattle.dpl_nodes.specs.Steps.{intent_view}
use Rattle.dpl_dependence.proofs.turn.operator_at.Given as goal

abbrev pub invariant-loop-intent : goal.invariant-loop-intent
invariant-loop-intent l = intent_at l.slot (intents_by_slot (map intent_view l.intents)) ≡ intent_at l.slot (intents_by_slot (map intent_view (drop l.intent-index l.intents)))
