-- In a turn it is nothing, and nothing is done.
use Rattle.std.proofs.Common.{Ok, refl}
use Rattle.dpl_coming.specs.Walks.{InTurn}
use Rattle.dpl_coming.proofs.Walking.{walks-over}
use Rattle.dpl_program.proofs.body.TurnContextContext.write.Goals as goal

pub returns-clause-ends : goal.returns-clause-ends
returns-clause-ends g c =
    walks-over InTurn _ _ (Ok tt) _ c.args._frame.now.memory c.args._frame.now.memory _ (λ rest done. refl)
