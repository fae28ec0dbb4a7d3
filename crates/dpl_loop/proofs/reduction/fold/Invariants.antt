use Rattle.std.proofs.Common.{◌≡◌, Result, drop}
use Rattle.dpl_sets.specs.Indices.{indices}
use Rattle.dpl_language.specs.Values.{Value, Index, Fault}
use Rattle.dpl_language.specs.Arithmetic.{unit_of}
use Rattle.dpl_language.specs.Expressions.{folded}
use Rattle.dpl_loop.specs.Values.{AnswersTell}
use Rattle.dpl_loop.specs.Folds.{in_turns, AreOperands}
use Rattle.dpl_loop.proofs.reduction.fold.Given as goal

-- the items so far and those of the indices that are left, from here, are those of all indices from the start; and they are operands if
-- those that are left are
abbrev pub invariant-loop-place : goal.invariant-loop-place
invariant-loop-place g l = record {
  folds : (meaning : Index → Result Value Fault) → AnswersTell g.O.Operator.value (λ t before r after. g.F.Fn.post l.item_at (t, (before, tt)) (r, (after, tt))) meaning
      → let op = g.O.Operator.op l.operator in
      folded op (in_turns meaning) (drop l.place (indices l.domain)) (g.O.Operator.value l.so_far) ≡ folded op (in_turns meaning) (indices l.domain) (unit_of op);
  operands : (meaning : Index → Result Value Fault) → AnswersTell g.O.Operator.value (λ t before r after. g.F.Fn.post l.item_at (t, (before, tt)) (r, (after, tt))) meaning
      → let op = g.O.Operator.op l.operator in
      AreOperands op (in_turns meaning) (drop l.place (indices l.domain)) → AreOperands op (in_turns meaning) (indices l.domain);
  left : l.left ≡ drop l.place (indices l.domain);
}
