use Rattle.std.proofs.Common.{◌≡◌, ◌≤◌, ◌<◌, ℕ, map, drop, length, option_map}
use Rattle.dpl_standing.specs.Standing.{Standing}
use Rattle.dpl_readings.specs.Readings.{steps_in}
use Rattle.dpl_batches.specs.Stores.{unmade, AreApart, HaveElements}
use Rattle.dpl_batches.proofs.Found.{LeftToFind}
use Rattle.dpl_batches.proofs.batch.+found.Given as goal

-- the statements that are left come, from here, to what all come to at the start
abbrev pub invariant-statements-loop-k : goal.invariant-statements-loop-k
invariant-statements-loop-k g l = record {
  fewer : l.left ≤ l.size;
  few : length l.stores ≤ 4;
  apart : AreApart l.lanes.names.now l.stores;
  alike : map unmade l.stores ≡ map unmade l.initial.stores;
  there : (k : ℕ) → k < l.left → k < 64 → HaveElements l.initial.stores k l.frame.memory → HaveElements l.stores k l.frame.memory;
  does : (w : Standing) → LeftToFind l.frame.limits l.lanes.names.now l.lanes.row l.frame.memory (option_map (λ ms. ms.now) l.lanes.mask) (steps_in w l.body) l.initial.stores (steps_in w (drop l.k l.body)) l.left l.stores;
}
