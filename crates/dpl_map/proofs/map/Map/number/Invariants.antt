-- The domain that has the index stands between the two ends.
use Rattle.std.proofs.Common.{◌≤◌, ◌-◌, ℕ, length}
use Rattle.dpl_domain.specs.Ranks.{last_of}
use Rattle.dpl_map.specs.Orders.{IsAt, AreRowByRow}
use Rattle.dpl_map.proofs.map.Map.number.Given as goal

abbrev pub invariant-loop-from : goal.invariant-loop-from
invariant-loop-from l = record {
  ordered : l.from ≤ l.to;
  within : l.to ≤ length l.domains;
  between : AreRowByRow (last_of (length l.self) l.outer l.middle l.inner) l.self l.domains → (k j : ℕ) → IsAt l.domains k j l.index → (l.from ≤ k) × (k ≤ l.to);
}

abbrev pub decreases-loop-from : goal.decreases-loop-from
decreases-loop-from l = l.to - l.from
