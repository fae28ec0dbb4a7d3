use Rattle.std.proofs.Common.{◌≡◌, drop}
use Rattle.dpl_sets.specs.Indices.{indices}
use Rattle.dpl_language.specs.Outcome.{Deeds, in_order}
use Rattle.dpl_language.specs.Loops.{named_turn}
use Rattle.dpl_loop.proofs.loops.turns_of.Given as goal

-- the indices that are left, from here, are all indices from the start
abbrev pub invariant-loop-place : goal.invariant-loop-place
invariant-loop-place g l = record {
  ends : (done : Deeds) → let turn = named_turn (g.T.Turns.turn l.turns l.fn.frame.limits) in
      in_order turn (drop l.place (indices l.fn.domain)) l.frame.memory done ≡ in_order turn (indices l.fn.domain) l.fn.frame.memory done;
  left : l.indices ≡ drop l.place (indices l.fn.domain);
  limits : l.frame.limits ≡ l.fn.frame.limits;
}
