use Rattle.std.proofs.Common.{◌≢◌, ℕ, ◌<◌, ◌≤◌}
use Rattle.dpl_lexer.specs.Scan.{special_text, special_at}
use Rattle.dpl_lexer.proofs.keyword.special_of.Given as goal

abbrev pub invariant-loop-i : goal.invariant-loop-i
invariant-loop-i l = (j : ℕ) → l.from ≤ j → j < l.i → l.word ≢ special_text (special_at j)
