-- What was appended, and what stands under the rest, stand under all bytes before the column.
-- This is what the loop of `push_mark` keeps.
use Rattle.std.proofs.Common.{◌≡◌, ◌++◌, ◌-◌, length, take}
use Rattle.dpl_explain.specs.Excerpt.{blanks}
use Rattle.dpl_explain.proofs.excerpt.push_mark.Given as goal

abbrev pub invariant-bytes : goal.invariant-bytes
invariant-bytes l = l.lines.items ++ blanks l.rest ≡ l.fn.lines.items ++ blanks (take (l.column - 1) l.fn.line)

abbrev pub decreases-bytes : goal.decreases-bytes
decreases-bytes l = length l.rest
