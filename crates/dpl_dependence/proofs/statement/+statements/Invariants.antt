use Rattle.std.proofs.Common.{drop}
use Rattle.dpl_standing.specs.Standing.{InTurn}
use Rattle.dpl_readings.specs.Readings.{steps_in}
use Rattle.dpl_dependence.specs.Turns.{AllMayStand}
use Rattle.dpl_dependence.proofs.statement.+statements.Given as goal

-- where the statements that are left may stand, all may
abbrev pub invariant-all_may_stand-loop-step : goal.invariant-all_may_stand-loop-step
invariant-all_may_stand-loop-step l = AllMayStand l.rules (steps_in InTurn (drop l.step-index l.steps)) → AllMayStand l.rules (steps_in InTurn l.steps)
