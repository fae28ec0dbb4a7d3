-- The right side goes first, then the element is put.
use Rattle.std.proofs.Common.{refl, sym, ap, ◌∙◌, w64, FitsSigned, rules}
use Rattle.std.proofs.lemmas.Int.{to_z-of_z}
use Rattle.std.proofs.lemmas.Result.{err_from_is_err_and}
use Rattle.dpl_language.specs.Tree.{BoolKind, Set}
use Rattle.dpl_language.specs.Values.{Truth, index_of, kept_number}
use Rattle.dpl_language.specs.Outcome.{with_ok}
use Rattle.dpl_language.specs.Expressions.{values_of}
use Rattle.dpl_lowered.specs.Shapes.{nowhere}
use Rattle.dpl_memory.specs.Memory.{in_memory}
use Rattle.dpl_nodes.specs.Steps.{array_leaf}
use Rattle.dpl_nodes.specs.Typed.{truth_view, index_exprs}
use Rattle.dpl_nodes.proofs.Unread.{cell_read-truth}
use Rattle.dpl_elements.specs.Changes.{ends_as, put_memory}
use Rattle.dpl_elements.proofs.Elements.{exec-element-fault, exec-put}
use Rattle.dpl_elements.proofs.Changing.{gives-halts, gives-ends}
use Rattle.dpl_elements.proofs.element.set_truth_element.Goals as goal

pub returns-in_err-truth_value-clause-ends : goal.returns-in_err-truth_value-clause-ends
returns-in_err-truth_value-clause-ends g c done =
    let s = c.args.frame.now.memory in
    let p = err_from_is_err_and c.from_residual.result c.from_residual.ensures.1 in
    rw (p.1, p.2)
    (gives-halts _ _ Truth c.in_err-truth_value.field-0.0 _ s done _ (λ m. m.0)
    (λ f e. exec-element-fault c.args.frame.now.limits (array_leaf BoolKind c.args.name.now) c.args.t.now Set nowhere (truth_view c.args.e.now) s done f (cell_read-truth c.args.e.now) e)
    c.in_err-truth_value.ensures)

pub returns-clause-ends : goal.returns-clause-ends
returns-clause-ends g c done =
    let limits = c.args.frame.now.limits in
    let s = c.args.frame.now.memory in
    let word_fits : FitsSigned w64 c.word_of.result = search rules in
    let put = simp to_z-of_z at c.put_at.ensures.ends in
    gives-ends _ c.put_at.result c.put_at.new.frame.memory done _ _
    (exec-put limits BoolKind c.args.name.now c.args.t.now Set nowhere (truth_view c.args.e.now) s done (Truth c.in_ok-truth_value.field-0)
    (cell_read-truth c.args.e.now) c.in_ok-truth_value.ensures refl (λ old new. refl)
    ∙ ap (λ w. ends_as (with_ok (values_of limits in_memory (index_exprs c.args.t.now) s) (λ vs. put_memory c.args.name.now.at.now c.args.name.now.slot (index_of vs) w s)) done)
    (ap (λ b. kept_number (Truth b)) (sym c.get-value.ensures) ∙ sym c.word_of.ensures))
    put
