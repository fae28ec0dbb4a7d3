use Rattle.std.proofs.Common.{◌≡◌, ◌≤◌, ◌-◌, drop, length}
use Rattle.dpl_language.specs.Outcome.{Deeds, in_order}
use Rattle.dpl_language.specs.Loops.{named_turn}
use Rattle.dpl_loop.proofs.together.together.Given as goal

-- the turns that are left, from here, are those from the first place on
abbrev pub invariant-loop-place : goal.invariant-loop-place
invariant-loop-place g l = let turn = named_turn (g.T.Turns.turn l.turns l.initial.frame.limits) in let ts = g.P.Places.indices l.over in record {
  within : l.place ≤ length ts;
  ends : (done : Deeds) → in_order turn (drop l.place ts) l.frame.memory done ≡ in_order turn (drop l.fn.first ts) l.initial.frame.memory done;
  limits : l.frame.limits ≡ l.initial.frame.limits;
}

abbrev pub decreases-loop-place : goal.decreases-loop-place
decreases-loop-place g l = length (g.P.Places.indices l.over) - l.place
