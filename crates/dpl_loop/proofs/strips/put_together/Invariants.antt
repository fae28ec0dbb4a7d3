use Rattle.std.proofs.Common.{◌≡◌, ◌+◌, ◌≤◌, ◌<◌, ℕ, List, Some, Result, drop, slice_get}
use Rattle.dpl_array.specs.Elements.{behind}
use Rattle.dpl_language.specs.Values.{Value, Fault, Index}
use Rattle.dpl_language.specs.Expressions.{folded}
use Rattle.dpl_loop.specs.Values.{HoldsStrip}
use Rattle.dpl_loop.specs.Folds.{in_turns, AreOperands}
use Rattle.dpl_loop.proofs.strips.put_together.Given as goal

-- what is put together so far, with what follows it in a list, is what follows the place where the strip begins; and these are operands if
-- what follows it are
abbrev pub invariant-loop-k : goal.invariant-loop-k
invariant-loop-k g l = record {
  folds : (meaning : Index → Result Value Fault) (ts : List Index) (place : ℕ) → l.size ≤ l.strip.size → HoldsStrip g.O.Operator.value meaning l.strip
      → ((k : ℕ) → k < l.size → slice_get ts (place + k) ≡ Some (behind k l.strip.row))
      → let op = g.O.Operator.op l.operator in
      folded op (in_turns meaning) (drop (place + l.k) ts) (g.O.Operator.value l.so_far) ≡ folded op (in_turns meaning) (drop place ts) (g.O.Operator.value l.fn.before);
  operands : (meaning : Index → Result Value Fault) (ts : List Index) (place : ℕ) → l.size ≤ l.strip.size → HoldsStrip g.O.Operator.value meaning l.strip
      → ((k : ℕ) → k < l.size → slice_get ts (place + k) ≡ Some (behind k l.strip.row))
      → let op = g.O.Operator.op l.operator in
      AreOperands op (in_turns meaning) (drop (place + l.k) ts) → AreOperands op (in_turns meaning) (drop place ts);
}
