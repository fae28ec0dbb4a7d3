-- One int goes into elements side by side.
-- These are the answers to the goals of `make_strip`.
use Rattle.std.proofs.Common.{ap, sym, subst, ◌∙◌, arith, FitsSigned, w64, rules}
use Rattle.std.proofs.lemmas.Int.{to_z-of_z}
use Rattle.dpl_array.specs.Elements.{behind}
use Rattle.dpl_language.specs.Tree.{IntKind}
use Rattle.dpl_language.specs.Values.{Int}
use Rattle.dpl_language.specs.Assignments.{change}
use Rattle.dpl_memory.specs.Memory.{Memory, in_memory}
use Rattle.dpl_nodes.specs.Steps.{array_leaf}
use Rattle.dpl_frame.specs.Frames.{Framed}
use Rattle.dpl_loop.specs.Runs.{AreDone}
use Rattle.dpl_elements.specs.Changes.{signed}
use Rattle.dpl_elements.specs.Wholes.{filled}
use Rattle.dpl_elements.proofs.RowTurns.{whole-row}
use Rattle.dpl_elements.proofs.whole.Fill.make_strip.Goals as goal

pub returns-clause-done : goal.returns-clause-done
returns-clause-done g c =
    let turns = c.args.self.now in
    let f = c.args.frame.now in
    let first = c.args.row in
    let put = c.put_row.ensures.put in
    let fits : FitsSigned w64 turns.value = search rules in
    let sign = signed turns.op turns.sign.now in
    let turn = filled turns f.limits in
    subst (λ (m : Memory). AreDone turn first c.put_row.result f.memory m) (sym (ap (λ (f : Framed). f.memory) put.1))
    (whole-row f.limits turns.name.now sign turn first _ c.put_row.result f.memory put.0 put.2
    (λ k below u same done. ap (λ n. change f.limits in_memory (array_leaf IntKind turns.name.now) sign (behind k first) (Int n) u done) (sym (c.repeat.ensures.words k (omega (arith, below, c.put_row.ensures.cap)) ∙ to_z-of_z w64 turns.value fits))))
