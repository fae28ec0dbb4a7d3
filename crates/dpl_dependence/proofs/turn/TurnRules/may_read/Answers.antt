-- A slot that has no operator is that of no reduce variable.
use Rattle.std.proofs.Common.{map, rules}
use Rattle.dpl_memory.specs.Memory.{intents_by_slot}
use Rattle.dpl_nodes.specs.Steps.{intent_view}
use Rattle.dpl_dependence.proofs.Slots.{none-reduced}
use Rattle.dpl_dependence.proofs.turn.TurnRules.may_read.Goals as goal

pub returns : goal.returns
returns c h = none-reduced c.args.slot (intents_by_slot (map intent_view c.args.self.now.reduced.now)) (grind (rules, c.operator_at.ensures, c.is_none.ensures))
