-- Lent slots come behind, until there are enough.
use Rattle.std.proofs.Common.{◌≡◌, ◌+◌, ◌-◌, ℕ, get_or, vec_len}
use Rattle.dpl_frame.specs.declared.share.Share.TheVariants.{Lent}
use Rattle.dpl_workers.proofs.jobs.make_room.Given as goal

abbrev pub invariant-loop-own : goal.invariant-loop-own
invariant-loop-own l = (k : ℕ) → get_or l.own.items k Lent ≡ get_or l.initial.own.items k Lent

abbrev pub decreases-loop-own : goal.decreases-loop-own
decreases-loop-own l = (l.slot + 1) - vec_len l.own
