use Rattle.std.proofs.Common.{◌≡◌, map, drop}
use Rattle.dpl_tree.specs.Statements.{next_intent_view}
use Rattle.dpl_bodies.specs.Intents.{next_operator as next_operator_of}
use Rattle.dpl_bodies.proofs.scope.next_operator.Given as goal

-- those that are left reduce the name by the operator by which all do
abbrev pub invariant-loop-next : goal.invariant-loop-next
invariant-loop-next l = next_operator_of (map next_intent_view (drop l.next-index l.others)) l.name ≡ next_operator_of (map next_intent_view l.others) l.name
