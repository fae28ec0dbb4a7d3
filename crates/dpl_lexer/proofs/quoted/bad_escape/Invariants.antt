use Rattle.std.proofs.Common.{◌≡◌, ◌≤◌, ◌-◌, ◌++◌, take, drop, length}
use Rattle.dpl_syntax.specs.Text.{well_escaped}
use Rattle.dpl_lexer.proofs.quoted.bad_escape.Given as goal

abbrev pub invariant-escape : goal.invariant-escape
invariant-escape l = record {
  within : l.n ≤ length l.bytes;
  so_far : well_escaped l.bytes ≡ take l.n l.bytes ++ well_escaped (drop l.n l.bytes);
}

abbrev pub decreases-escape : goal.decreases-escape
decreases-escape l = length l.bytes - l.n
