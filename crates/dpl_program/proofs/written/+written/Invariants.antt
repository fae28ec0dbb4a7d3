use Rattle.std.proofs.Common.{◌≡◌, drop}
use Rattle.dpl_standing.specs.Standing.{InTurn}
use Rattle.dpl_readings.specs.Readings.{steps_in}
use Rattle.dpl_readings.specs.Written.{written_among}
use Rattle.dpl_program.proofs.written.+written.Given as goal

-- what the statements that are left write first is what all do
abbrev pub invariant-written-loop-step : goal.invariant-written-loop-step
invariant-written-loop-step l = written_among (steps_in InTurn (drop l.step-index l.steps)) ≡ written_among (steps_in InTurn l.steps)
