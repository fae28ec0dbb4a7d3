-- The variables from one on have their words.
use Rattle.std.proofs.Common.{◌≡◌, map, drop}
use Rattle.dpl_memory.specs.Memory.{intents_by_slot}
use Rattle.dpl_nodes.specs.Steps.{intent_view}
use Rattle.dpl_frame.specs.Frames.{with_memory}
use Rattle.dpl_workers.specs.Joined.{reduced_to}
use Rattle.dpl_workers.proofs.joined.set_words.Given as goal

abbrev pub invariant-loop-k : goal.invariant-loop-k
invariant-loop-k l =
    l.frame ≡ with_memory (reduced_to (intents_by_slot (map intent_view (drop l.k l.intents))) (drop l.k l.words) l.initial.frame.memory) l.initial.frame
