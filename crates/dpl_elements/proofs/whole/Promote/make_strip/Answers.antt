-- The ints at the indices go into the elements there side by side.
-- These are the answers to the goals of `make_strip`.
use Rattle.std.proofs.Common.{Some, ap, sym, subst, ◌∙◌, arith}
use Rattle.dpl_array.specs.Elements.{behind}
use Rattle.dpl_language.specs.Tree.{IntKind}
use Rattle.dpl_language.specs.Outcome.{with_value}
use Rattle.dpl_language.specs.Expressions.{value_of}
use Rattle.dpl_language.specs.Assignments.{change}
use Rattle.dpl_lowered.specs.LoweredExpressions.{EachTurn}
use Rattle.dpl_memory.specs.Memory.{Memory, in_memory}
use Rattle.dpl_nodes.specs.Typed.{promoted_int}
use Rattle.dpl_nodes.specs.Steps.{array_leaf}
use Rattle.dpl_frame.specs.Frames.{Framed}
use Rattle.dpl_loop.specs.Runs.{AreDone}
use Rattle.dpl_strips.specs.Strips.{IsSameAt}
use Rattle.dpl_elements.specs.Changes.{signed}
use Rattle.dpl_elements.specs.Wholes.{promoted}
use Rattle.dpl_elements.proofs.RowTurns.{whole-row}
use Rattle.dpl_elements.proofs.whole.Promote.make_strip.Goals as goal

pub returns-clause-done : goal.returns-clause-done
returns-clause-done g c =
    let turns = c.args.self.now in
    let f = c.args.frame.now in
    let first = c.args.row in
    let strip = c.promoted_ints.new.strip in
    let put = c.put_row.ensures.put in
    let sign = signed turns.op turns.sign.now in
    let changes = change f.limits in_memory (array_leaf IntKind turns.name.now) sign in
    let turn = promoted turns f.limits in
    subst (λ (m : Memory). AreDone turn first c.put_row.result f.memory m) (sym (ap (λ (f : Framed). f.memory) put.1))
    (whole-row f.limits turns.name.now sign turn first strip c.put_row.result f.memory put.0 put.2
    (λ k below u same done.
    let at = ap (behind k) (sym c.promoted_ints.ensures.row) in
    ap (λ r. with_value r (changes (behind k first)) u done)
    (ap (λ t. value_of f.limits in_memory (promoted_int EachTurn turns.e.now) (Some t) u) at
    ∙ c.promoted_ints.ensures.values k (omega (arith, below, c.put_row.ensures.strip)) (omega (arith, below, c.put_row.ensures.cap)) u (subst (λ t. IsSameAt t f.memory u) at same))))
