-- What was appended, and the rest as it is shown, are the line as it is shown.
-- This is what the loop of `push_shown` keeps.
use Rattle.std.proofs.Common.{◌≡◌, ◌++◌, length}
use Rattle.dpl_explain.specs.Excerpt.{shown}
use Rattle.dpl_explain.proofs.excerpt.push_shown.Given as goal

abbrev pub invariant-bytes : goal.invariant-bytes
invariant-bytes l = l.lines.items ++ shown l.rest ≡ l.fn.lines.items ++ shown l.fn.line

abbrev pub decreases-bytes : goal.decreases-bytes
decreases-bytes l = length l.rest
