-- What was tested is what the law asks.
use Rattle.std.proofs.Common.{map}
use Rattle.dpl_memory.specs.Memory.{intents_by_slot}
use Rattle.dpl_standing.specs.Standing.{InTurn}
use Rattle.dpl_nodes.specs.Steps.{intent_view}
use Rattle.dpl_readings.specs.Readings.{steps_in}
use Rattle.dpl_program.proofs.Bodies.{tested-apart}
use Rattle.dpl_program.proofs.body.BodyTurns.apart.Goals as goal

pub returns : goal.returns
returns c limits =
    let b = c.args.self.now in
    let changed = b.changed.now in
    tested-apart limits b.rank b.names changed.written.now (intents_by_slot (map intent_view changed.reduced.now)) (steps_in InTurn b.steps.now)
    changed.numbers.now changed.tuples.now
    (c.are_own.ensures.numbers c.if-not-are_own.false) (c.are_own.ensures.tuples c.if-not-are_own.false) (c.are_independent.ensures c.if-not-are_independent.false)
