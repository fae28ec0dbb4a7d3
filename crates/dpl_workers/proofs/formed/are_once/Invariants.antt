-- All slots stand there once, if those do that are left.
use Rattle.std.proofs.Common.{drop}
use Rattle.dpl_apart.specs.Rows.{AreOnce}
use Rattle.dpl_workers.proofs.formed.are_once.Given as goal

abbrev pub invariant-loop-k : goal.invariant-loop-k
invariant-loop-k l = AreOnce (drop l.k l.slots) → AreOnce l.slots
