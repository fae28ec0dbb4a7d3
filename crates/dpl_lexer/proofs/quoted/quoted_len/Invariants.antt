use Rattle.std.proofs.Common.{◌≡◌, ◌≤◌, ◌-◌, drop, get_or, length}
use Rattle.dpl_syntax.specs.Text.{after_quote}
use Rattle.dpl_lexer.proofs.quoted.quoted_len.Given as goal

abbrev pub invariant-text : goal.invariant-text
invariant-text l = record {
  begun : 1 ≤ l.n;
  within : l.n ≤ length l.bytes;
  quote_is : l.quote ≡ get_or l.bytes 0 0;
  so_far : after_quote l.quote (drop l.n l.bytes) ≡ after_quote l.quote (drop 1 l.bytes);
}

abbrev pub decreases-text : goal.decreases-text
decreases-text l = length l.bytes - l.n
