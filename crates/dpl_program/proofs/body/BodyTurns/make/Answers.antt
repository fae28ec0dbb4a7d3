-- In a turn nothing is told but how its statements end.
use Rattle.std.proofs.Common.{sym, ap}
use Rattle.dpl_language.specs.Statements.{exec_all}
use Rattle.dpl_memory.specs.Memory.{in_memory}
use Rattle.dpl_standing.specs.Standing.{InTurn}
use Rattle.dpl_frame.specs.Frames.{Framed}
use Rattle.dpl_loop.proofs.Ends.{ends-alike, ends-where}
use Rattle.dpl_readings.specs.Readings.{steps_in}
use Rattle.dpl_coming.proofs.Walking.{ends-in-turn}
use Rattle.dpl_program.proofs.body.BodyTurns.make.Goals as goal

pub returns-clause-ends : goal.returns-clause-ends
returns-clause-ends g c done =
    let body = steps_in InTurn c.args.self.now.steps.now in
    ends-alike ⊥ c.run.result c.run.new.frame.memory done _ _
    (ap (λ (f : Framed). exec_all f.limits in_memory body f.memory done) (sym c.bind.ensures))
    (ends-where _ ⊥ c.run.result c.run.new.frame.memory done _ (λ m. m.2) (ends-in-turn _ _ _ c.bind.new.frame.memory c.run.new.frame.memory _ c.run.result c.run.ensures.ends done))
