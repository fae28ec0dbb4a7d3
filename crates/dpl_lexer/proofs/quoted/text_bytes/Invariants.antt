use Rattle.std.proofs.Common.{◌≡◌, ◌≤◌, ◌-◌, ◌++◌, drop, length}
use Rattle.dpl_syntax.specs.Text.{text_value}
use Rattle.dpl_lexer.proofs.quoted.text_bytes.Given as goal

abbrev pub invariant-bytes : goal.invariant-bytes
invariant-bytes l = record {
  within : l.n ≤ length l.bytes;
  so_far : l.value.items ++ text_value (drop l.n l.bytes) ≡ text_value l.bytes;
}

abbrev pub decreases-bytes : goal.decreases-bytes
decreases-bytes l = length l.bytes - l.n
