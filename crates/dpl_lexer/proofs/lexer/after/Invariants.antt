use Rattle.std.proofs.Common.{◌≡◌, ◌≤◌, ◌+◌, drop}
use Rattle.dpl_syntax.specs.Text.{after}
use Rattle.dpl_lexer.proofs.lexer.after.Given as goal

abbrev pub invariant-loop-byte : goal.invariant-loop-byte
invariant-loop-byte l = record {
  is : after (record { line = l.line; column = l.column }) (drop l.byte-index l.bytes) ≡ after l.fn.at l.bytes;
  line_in : l.line ≤ l.fn.at.line + l.byte-index;
  column_in : l.column ≤ l.fn.at.column + l.byte-index;
}
