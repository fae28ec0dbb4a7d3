-- No byte so far is a `=`.
use Rattle.std.proofs.Common.{◌≡◌, ◌≤◌, ◌-◌, length, take, drop}
use Rattle.dpl_rules.specs.Sound.{name_and_value}
use Rattle.dpl_limits.proofs.Texts.{behind}
use Rattle.dpl_limits.proofs.value.name_and_value.Given as goal

abbrev pub invariant-loop-len : goal.invariant-loop-len
invariant-loop-len l = record {
  within : l.len ≤ length l.set;
  so_far : behind (take l.len l.set) (name_and_value (drop l.len l.set)) ≡ name_and_value l.set;
}

abbrev pub decreases-loop-len : goal.decreases-loop-len
decreases-loop-len l = length l.set - l.len
