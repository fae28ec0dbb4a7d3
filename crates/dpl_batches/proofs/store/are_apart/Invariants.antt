use Rattle.std.proofs.Common.{◌≤◌, drop, length}
use Rattle.dpl_batches.specs.Stores.{AreApart, HaveRoom, AreUnmade}
use Rattle.dpl_batches.proofs.store.are_apart.Given as goal

-- those behind are as they are asked to be
abbrev pub invariant-loop-left : goal.invariant-loop-left
invariant-loop-left l = record {
  within : l.left ≤ length l.stores;
  apart : AreApart l.names (drop l.left l.stores);
  room : HaveRoom (drop l.left l.stores);
  unmade : AreUnmade (drop l.left l.stores);
}

abbrev pub decreases-loop-left : goal.decreases-loop-left
decreases-loop-left l = l.left
