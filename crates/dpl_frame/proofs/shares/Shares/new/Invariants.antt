-- The shares so far stand before the arrays as those that were given, and there are no more than are lent.
use Rattle.std.proofs.Common.{◌≡◌, ◌≤◌, length}
use Rattle.dpl_frame.specs.Shares.{own_before}
use Rattle.dpl_frame.proofs.shares.Shares.new.Given as goal

abbrev pub invariant-loop : goal.invariant-loop
invariant-loop l = record {
  same : own_before l.own.items l.lent ≡ own_before l.fn.own.items l.lent;
  count : length l.own.items ≡ l.counter;
  most : l.counter ≤ l.end;
  all : l.end ≡ length l.lent;
}
