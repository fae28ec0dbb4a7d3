-- Where the statements that are left are calm, all are.
use Rattle.std.proofs.Common.{drop}
use Rattle.dpl_standing.specs.Standing.{Standing}
use Rattle.dpl_readings.specs.Readings.{steps_in}
use Rattle.dpl_coming.specs.Calm.{AreCalm}
use Rattle.dpl_steps.proofs.calm.+calm.Given as goal

abbrev pub invariant-are_calm-loop-step : goal.invariant-are_calm-loop-step
invariant-are_calm-loop-step l = (w : Standing) → AreCalm (steps_in w (drop l.step-index l.steps)) → AreCalm (steps_in w l.steps)
