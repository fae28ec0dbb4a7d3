-- What is left are digits that fit behind the number so far, if all are, and have the value of all.
use Rattle.std.proofs.Common.{◌≡◌, ◌≤◌, drop}
use Rattle.dpl_syntax.specs.Text.{value_after}
use Rattle.dpl_limits.proofs.Texts.{decimal_after}
use Rattle.dpl_limits.proofs.value.decimal_in.Given as goal

abbrev pub invariant-loop-byte : goal.invariant-loop-byte
invariant-loop-byte l = record {
  so_far : decimal_after l.most l.number (drop l.byte-index l.digits) ≡ decimal_after l.most 0 l.digits;
  value : value_after 10 l.number (drop l.byte-index l.digits) ≡ value_after 10 0 l.digits;
  small : l.number ≤ l.most;
}
