use Rattle.std.proofs.Common.{map, drop}
use Rattle.dpl_strips.specs.Strips.{IsFree}
use Rattle.dpl_batches.specs.Stores.{unmade}
use Rattle.dpl_batches.proofs.store.is_kept.Given as goal

-- where it is none of those that are left, it is none at all
abbrev pub invariant-loop-k : goal.invariant-loop-k
invariant-loop-k l = IsFree (map unmade (drop l.k l.stores)) l.slot → IsFree (map unmade (drop l.from l.stores)) l.slot
