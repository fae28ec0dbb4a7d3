-- Workers may share an assignment to a whole array.
use denote.Param.Send.{sendable}
use Rattle.dpl_program.proofs.Shared.{wholes-sync}
use Rattle.dpl_program.proofs.context.fn.run_by.make_whole.Goals as goal

pub forall-requires-sync-T : goal.forall-requires-sync-T
forall-requires-sync-T g c κs within = search (wholes-sync, sendable)
