use Rattle.std.proofs.Common.{◌≡◌, ◌≤◌, ◌-◌, Result, drop, length}
use Rattle.dpl_sets.specs.Indices.{indices}
use Rattle.dpl_language.specs.Values.{Value, Index, Fault}
use Rattle.dpl_language.specs.Arithmetic.{unit_of}
use Rattle.dpl_language.specs.Expressions.{folded}
use Rattle.dpl_loop.specs.Values.{AnswersTell, StripsTell}
use Rattle.dpl_loop.specs.Folds.{in_turns, AreOperands}
use Rattle.dpl_loop.proofs.strips.fold_strips.Given as goal

-- the ints so far and those of the indices that are left, from here, are those of all indices from the start; and they are operands if
-- those that are left are
abbrev pub invariant-loop-place : goal.invariant-loop-place
invariant-loop-place g l = record {
  within : l.place ≤ length (indices l.domain);
  folds : (meaning : Index → Result Value Fault) → AnswersTell g.O.Operator.value (λ t before r after. g.F.Fn.post l.item_at (t, (before, tt)) (r, (after, tt))) meaning
      → StripsTell g.O.Operator.value (λ t s. g.S.Fn.post l.strip_at (t, tt) s) meaning
      → let op = g.O.Operator.op l.operator in
      folded op (in_turns meaning) (drop l.place (indices l.domain)) (g.O.Operator.value l.so_far) ≡ folded op (in_turns meaning) (indices l.domain) (unit_of op);
  operands : (meaning : Index → Result Value Fault) → AnswersTell g.O.Operator.value (λ t before r after. g.F.Fn.post l.item_at (t, (before, tt)) (r, (after, tt))) meaning
      → StripsTell g.O.Operator.value (λ t s. g.S.Fn.post l.strip_at (t, tt) s) meaning
      → let op = g.O.Operator.op l.operator in
      AreOperands op (in_turns meaning) (drop l.place (indices l.domain)) → AreOperands op (in_turns meaning) (indices l.domain);
}

abbrev pub decreases-loop-place : goal.decreases-loop-place
decreases-loop-place g l = length (indices l.domain) - l.place
