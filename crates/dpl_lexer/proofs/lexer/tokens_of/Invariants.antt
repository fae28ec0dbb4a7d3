use Rattle.std.proofs.Common.{◌≤◌, ◌+◌, length}
use Rattle.dpl_syntax.specs.Text.{Begins, start}
use Rattle.dpl_lexer.proofs.lexer.tokens_of.Given as goal

abbrev pub invariant-tokens : goal.invariant-tokens
invariant-tokens l = record {
  so_far : Begins start l.text l.tokens.items l.at l.rest;
  line_in : l.at.line + length l.rest ≤ 1048577;
  column_in : l.at.column + length l.rest ≤ 1048577;
}

abbrev pub decreases-tokens : goal.decreases-tokens
decreases-tokens l = length l.rest
