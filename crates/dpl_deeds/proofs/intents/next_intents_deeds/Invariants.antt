use Rattle.std.proofs.Common.{◌≡◌, ◌++◌, map, drop}
use Rattle.dpl_tree.specs.Statements.{next_intent_view}
use Rattle.dpl_deeds.specs.Parts.{next_intents_deeds as next_intents_deeds_of}
use Rattle.dpl_deeds.specs.View.{deed_view}
use Rattle.dpl_deeds.proofs.intents.next_intents_deeds.Given as goal

-- what is left adds what all added at first
abbrev pub invariant-loop-next : goal.invariant-loop-next
invariant-loop-next l =
    (map deed_view l.deeds.items ++ next_intents_deeds_of (map next_intent_view (drop l.next-index l.others)))
    ≡ (map deed_view l.initial.deeds.items ++ next_intents_deeds_of (map next_intent_view l.others))
