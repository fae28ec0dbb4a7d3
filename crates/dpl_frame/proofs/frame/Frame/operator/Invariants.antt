use Rattle.std.proofs.Common.{◌≡◌, drop, map}
use Rattle.dpl_words.specs.Words.{intent_at}
use Rattle.dpl_memory.specs.Memory.{intents_by_slot}
use Rattle.dpl_nodes.specs.Steps.{intent_view}
use Rattle.dpl_frame.proofs.frame.Frame.operator.Given as goal

-- what is left to look through gives what all gives
abbrev pub invariant-loop-intent : goal.invariant-loop-intent
invariant-loop-intent g l =
    intent_at l.slot (intents_by_slot (map intent_view (drop l.intent-index l.intent-items))) ≡ intent_at l.slot l.self.memory.words.intents
