-- The bytes so far are none of them a newline: the first line is them, and that of the others.
-- This is what the loop of `first_line` keeps.
use Rattle.std.proofs.Common.{length, ◌-◌, ◌≡◌, ◌≤◌, ◌++◌, take, drop}
use Rattle.dpl_explain.specs.Excerpt.{first_line}
use Rattle.dpl_explain.proofs.line.first_line.Given as goal

abbrev pub invariant-bytes : goal.invariant-bytes
invariant-bytes l = (l.end ≤ length l.text) × (first_line l.text ≡ take l.end l.text ++ first_line (drop l.end l.text))

abbrev pub decreases-bytes : goal.decreases-bytes
decreases-bytes l = length l.text - l.end
