-- One int of the strip more is put to the others.
-- These are the answers to the goals of `put_together`.
use Rattle.std.proofs.Common.{◌≡◌, ◌+◌, ◌<◌, pos, get_or, drop, Ok, ap, ◌∙◌, arith, FitsSigned, w64, to_z, of_z, rules, subst}
use Rattle.std.proofs.lemmas.Int.{to_z-of_z}
use Rattle.dpl_array.specs.Elements.{behind}
use Rattle.dpl_language.specs.Outcome.{naming_value}
use Rattle.dpl_language.specs.Expressions.{folded}
use Rattle.dpl_loop.specs.Folds.{in_turns, AreOperands}
use Rattle.dpl_loop.proofs.Folding.{folded-next, operands-next}
use Rattle.dpl_loop.proofs.strips.put_together.Goals as goal

pub loop-k-init : goal.loop-k-init
loop-k-init g c = record {
  folds = λ meaning ts place fits holds row.
      let here : place + 0 ≡ place = omega arith in
      ap (λ n. folded (g.O.Operator.op c.args.operator.now) (in_turns meaning) (drop n ts) (g.O.Operator.value (to_z w64 (of_z w64 c.args.before)))) here;
  operands = λ meaning ts place fits holds row rest.
      let here : place + 0 ≡ place = omega arith in
      subst (λ n. AreOperands (g.O.Operator.op c.args.operator.now) (in_turns meaning) (drop n ts)) here rest;
}

pub loop-k-preserved : goal.loop-k-preserved
loop-k-preserved g c =
    let op = g.O.Operator.op c.args.operator.now in
    let value = g.O.Operator.value in
    let k = c.loop-k.k in
    let t = behind k c.args.strip.now.row in
    let word = get_or c.args.strip.now.words k (pos 0) in
    let word_fits : FitsSigned w64 word = search rules in
    let next_fits : FitsSigned w64 c.combined-so_far.result = search rules in
    let combines = simp to_z-of_z at c.combined-so_far.ensures.combined in
    let operand = simp to_z-of_z at c.combined-so_far.ensures.operand in
    let below : k < c.args.size = c.loop-k-test.true in
    record {
      folds = λ meaning ts place fits holds row.
          let is : in_turns meaning t ≡ Ok (value word) = ap (λ r. naming_value t r) (holds k (omega (arith, below, fits)) (omega (arith, below, c.requires))) in
          let later : place + (k + 1) ≡ place + k + 1 = omega arith in
          ap (λ n. folded op (in_turns meaning) (drop n ts) (value (to_z w64 (of_z w64 c.combined-so_far.result)))) later
          ∙ folded-next op (in_turns meaning) ts (place + k) t (value (to_z w64 c.loop-k.so_far-bits)) (row k below) (value word) (value (to_z w64 (of_z w64 c.combined-so_far.result))) is (ap value (to_z-of_z w64 c.combined-so_far.result next_fits) ∙ combines)
          ∙ c.loop-k.invariant.folds meaning ts place fits holds row;
      operands = λ meaning ts place fits holds row rest.
          let is : in_turns meaning t ≡ Ok (value word) = ap (λ r. naming_value t r) (holds k (omega (arith, below, fits)) (omega (arith, below, c.requires))) in
          let later : place + (k + 1) ≡ place + k + 1 = omega arith in
          c.loop-k.invariant.operands meaning ts place fits holds row
          (operands-next op (in_turns meaning) ts (place + k) t (value (to_z w64 c.loop-k.so_far-bits)) (row k below) (value word) is operand (subst (λ n. AreOperands op (in_turns meaning) (drop n ts)) later rest));
    }

pub returns-clause-folds : goal.returns-clause-folds
returns-clause-folds g c meaning ts place fits holds row =
    let op = g.O.Operator.op c.args.operator.now in
    let value = g.O.Operator.value in
    let before_fits : FitsSigned w64 c.args.before = c.ranges.before in
    let end : c.args.size ≡ c.loop-k.k = omega (arith, c.loop-k-test.false, c.loop-k.auto.k-end) in
    ap (λ n. folded op (in_turns meaning) (drop (place + n) ts) (value (to_z w64 c.loop-k.so_far-bits))) end
    ∙ c.loop-k.invariant.folds meaning ts place fits holds row
    ∙ ap (λ n. folded op (in_turns meaning) (drop place ts) (value n)) (to_z-of_z w64 c.args.before before_fits)

pub returns-clause-operands : goal.returns-clause-operands
returns-clause-operands g c meaning ts place fits holds row rest =
    let op = g.O.Operator.op c.args.operator.now in
    let end : c.args.size ≡ c.loop-k.k = omega (arith, c.loop-k-test.false, c.loop-k.auto.k-end) in
    c.loop-k.invariant.operands meaning ts place fits holds row (subst (λ n. AreOperands op (in_turns meaning) (drop (place + n) ts)) end rest)
