-- A store that is unmade leaves nothing.
-- These are the answers to the goals of `put`.
use Rattle.std.proofs.Common.{sym, ap, rules}
use Rattle.dpl_frame.specs.Frames.{with_memory}
use Rattle.dpl_batches.proofs.Stores.{turns-unmade}
use Rattle.dpl_batches.proofs.store.put.Goals as goal

pub returns-then-not-store-clause-stored : goal.returns-then-not-store-clause-stored
returns-then-not-store-clause-stored g c =
    ap (λ m. with_memory m c.args.frame.now) (sym (turns-unmade c.args.store.now c.args.size c.args.frame.now.memory (search rules)))
