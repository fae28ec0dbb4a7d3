-- The arrays that were gone through are back, and workers have all else still.
use Rattle.std.proofs.Common.{◌≡◌}
use Rattle.std.specs.List.{AllByRecursion}
use Rattle.dpl_frame.specs.Frames.{with_memory}
use Rattle.dpl_workers.specs.declared.taken.Taken.{Taken}
use Rattle.dpl_workers.specs.Taken.{given_back, ArePieces, AllStay}
use Rattle.dpl_workers.proofs.given.give_back.Given as goal

abbrev pub invariant-loop-one : goal.invariant-loop-one
invariant-loop-one l = record {
  memory : l.frame ≡ with_memory (given_back l.yielded l.initial.worked l.initial.frame.memory) l.initial.frame;
  pieces : AllByRecursion (λ (t : Taken). ArePieces l.initial.worked t.slot) l.yielded;
  stay : AllStay l.initial.worked l.worked;
  limits : l.frame.limits ≡ l.initial.frame.limits;
}
