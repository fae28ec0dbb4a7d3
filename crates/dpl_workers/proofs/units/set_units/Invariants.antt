-- The variables from one on have their words over nothing.
use Rattle.std.proofs.Common.{◌≡◌, map, drop}
use Rattle.dpl_memory.specs.Memory.{intents_by_slot}
use Rattle.dpl_nodes.specs.Steps.{intent_view}
use Rattle.dpl_frame.specs.Frames.{with_memory}
use Rattle.dpl_workers.specs.Formed.{with_units}
use Rattle.dpl_workers.proofs.units.set_units.Given as goal

abbrev pub invariant-loop-k : goal.invariant-loop-k
invariant-loop-k g l =
    l.frame ≡ with_memory (with_units (intents_by_slot (map intent_view (drop l.k l.intents))) l.initial.frame.memory) l.initial.frame
