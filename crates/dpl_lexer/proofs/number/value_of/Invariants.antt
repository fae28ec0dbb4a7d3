use Rattle.std.proofs.Common.{◌≡◌, ◌≤◌, drop}
use Rattle.dpl_syntax.specs.Text.{value_after, greatest}
use Rattle.dpl_lexer.proofs.number.value_of.Given as goal

abbrev pub invariant-loop-byte : goal.invariant-loop-byte
invariant-loop-byte l = record {
  so_far : value_after l.base l.value (drop l.byte-index l.digits) ≡ value_after l.base 0 l.digits;
  small : l.value ≤ greatest;
}
