-- What was looked at and what is left are the turns.
-- This is what the loop of `read` keeps.
use Rattle.dpl_halo.proofs.ReachLemmas.{IsRead}
use Rattle.dpl_halo.proofs.halo.read.Given as goal

abbrev pub invariant-loop-d : goal.invariant-loop-d
invariant-loop-d g l = IsRead l.array l.locale l.shift l.turns l.left l.fn.gathered l.gathered
