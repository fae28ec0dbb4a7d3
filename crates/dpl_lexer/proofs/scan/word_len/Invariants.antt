use Rattle.std.proofs.Common.{◌≡◌, ◌≤◌, ◌-◌, take, length, true}
use Rattle.dpl_syntax.specs.Gaps.{all_are}
use Rattle.dpl_syntax.specs.Text.{goes_on}
use Rattle.dpl_lexer.proofs.scan.word_len.Given as goal

abbrev pub invariant-loop-n : goal.invariant-loop-n
invariant-loop-n l = record { within : l.n ≤ length l.bytes; all : all_are goes_on (take l.n l.bytes) ≡ true }

abbrev pub decreases-loop-n : goal.decreases-loop-n
decreases-loop-n l = length l.bytes - l.n
