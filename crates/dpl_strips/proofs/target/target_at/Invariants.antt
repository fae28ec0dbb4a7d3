use Rattle.std.proofs.Common.{◌≡◌, drop, map}
use Rattle.dpl_strips.specs.Strips.{written, written_at}
use Rattle.dpl_strips.proofs.target.target_at.Given as goal

-- what is left to look through gives what all gives
abbrev pub invariant-loop-target : goal.invariant-loop-target
invariant-loop-target l = written_at l.slot (map written (drop l.target-index l.targets)) ≡ written_at l.slot (map written l.targets)
