use Rattle.std.proofs.Common.{◌≡◌, drop}
use Rattle.dpl_language.specs.Phrases.{reduce_intents}
use Rattle.dpl_rules.specs.Sights.{reduces as reduces_of}
use Rattle.dpl_assignments.specs.Around.{intents_in}
use Rattle.dpl_assignments.proofs.around.is_reduced_by_others.Given as goal

-- those that are left tell as all do
abbrev pub invariant-loop-next : goal.invariant-loop-next
invariant-loop-next l = reduces_of (reduce_intents (intents_in (drop l.next-index l.others))) l.name ≡ reduces_of (reduce_intents (intents_in l.others)) l.name
