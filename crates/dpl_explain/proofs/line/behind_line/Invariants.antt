-- What stands behind the first line of the rest stands behind that of the text.
-- This is what the loop of `behind_line` keeps.
use Rattle.std.proofs.Common.{◌≡◌, length}
use Rattle.dpl_explain.specs.Excerpt.{behind_line}
use Rattle.dpl_explain.proofs.line.behind_line.Given as goal

abbrev pub invariant-bytes : goal.invariant-bytes
invariant-bytes l = behind_line l.rest ≡ behind_line l.fn.text

abbrev pub decreases-bytes : goal.decreases-bytes
decreases-bytes l = length l.rest
