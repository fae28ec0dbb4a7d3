-- What stands behind the lines that are left, from the rest on, stands behind all of them from the text on.
-- This is what the loop of `line_at` keeps.
use Rattle.std.proofs.Common.{◌≡◌, ◌-◌}
use Rattle.dpl_explain.specs.Excerpt.{behind_lines}
use Rattle.dpl_explain.proofs.line.from_line.Given as goal

abbrev pub invariant-loop : goal.invariant-loop
invariant-loop l = behind_lines (l.line - l.counter) l.rest ≡ behind_lines (l.line - 1) l.fn.text
