-- Workers may share a body.
use denote.Param.Send.{sendable}
use Rattle.dpl_program.proofs.Shared.{body-sync}
use Rattle.dpl_program.proofs.forall.turns_of.Goals as goal

pub forall-requires-sync-T : goal.forall-requires-sync-T
forall-requires-sync-T g c κs within = search (body-sync, sendable)
