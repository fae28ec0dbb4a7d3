-- The turns are made as in a forall, where they stand in turns.
use Rattle.dpl_standing.specs.Standing.{InTurn}
use Rattle.dpl_program.proofs.body.BodyTurns.make_row.Goals as goal

pub returns-clause-done : goal.returns-clause-done
returns-clause-done g c = c.make_row.ensures.done InTurn
