-- Where not all that is written is found, no turn is made.
-- These are the answers to the goals of `make_batch`.
use Rattle.dpl_elements.proofs.RowTurns.{none-done}
use Rattle.dpl_batches.proofs.batch.make_batch.Goals as goal

pub returns-in_default-clause-done : goal.returns-in_default-clause-done
returns-in_default-clause-done g c w = none-done _ c.args.row c.args.frame.now.memory
