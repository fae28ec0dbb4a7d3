use Rattle.std.proofs.Common.{◌≡◌, length}
use Rattle.dpl_frame.proofs.Redomained.{so_far}
use Rattle.dpl_frame.proofs.slots.SlotsArrays.redomain.Given as goal

-- the slots that are done, and those that are left, give what all give at the start
abbrev pub invariant-loop-k : goal.invariant-loop-k
invariant-loop-k l = record {
  count : length l.self ≡ l.k-end;
  moved : so_far l.slots l.domain l.k l.self ≡ so_far l.slots l.domain 0 l.initial.self;
}
