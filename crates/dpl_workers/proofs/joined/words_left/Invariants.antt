-- The words so far, with those of the variables that are left, are the words of all.
use Rattle.std.proofs.Common.{◌≡◌, map, drop}
use Rattle.dpl_memory.specs.Memory.{intents_by_slot}
use Rattle.dpl_nodes.specs.Steps.{intent_view}
use Rattle.dpl_workers.specs.Joined.{words_behind}
use Rattle.dpl_workers.proofs.joined.words_left.Given as goal

abbrev pub invariant-loop-intent : goal.invariant-loop-intent
invariant-loop-intent l =
    words_behind l.words.items (intents_by_slot (map intent_view (drop l.intent-index l.intents))) l.worked l.frame.memory
    ≡ words_behind l.initial.words.items (intents_by_slot (map intent_view l.intents)) l.worked l.frame.memory
