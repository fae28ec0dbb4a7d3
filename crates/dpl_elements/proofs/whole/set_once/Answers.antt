-- The right side is evaluated once, at an index that doesn't matter.
use Rattle.std.proofs.Common.{◌≡◌, inl, inr, Ok, FitsSigned, w64, sym, ap, ◌∙◌, rules}
use Rattle.std.proofs.lemmas.Int.{to_z-of_z}
use Rattle.std.proofs.lemmas.Result.{err_from_is_err_and}
use mir.Val.{of_z, to_z}
use Rattle.dpl_language.specs.Tree.{IntKind}
use Rattle.dpl_language.specs.Values.{Int}
use Rattle.dpl_lowered.specs.LoweredExpressions.{EachTurn}
use Rattle.dpl_nodes.specs.Typed.{promoted_int}
use Rattle.dpl_nodes.specs.Steps.{array_leaf}
use Rattle.dpl_nodes.proofs.Promotions.{cell_read-promoted_int, promoted_int-once}
use Rattle.dpl_elements.specs.Changes.{signed}
use Rattle.dpl_elements.proofs.Changing.{gives-halts}
use Rattle.dpl_elements.proofs.Dealing.{ends-wider}
use Rattle.dpl_elements.proofs.Wholes.{assign_array-value, assign_array-fault}
use Rattle.dpl_elements.proofs.whole.set_once.Goals as goal

pub returns-in_err-value-clause-ends : goal.returns-in_err-value-clause-ends
returns-in_err-value-clause-ends g c done =
    let limits = c.args.frame.now.limits in
    let s = c.args.frame.now.memory in
    let t = c.coordinate.result in
    let p = err_from_is_err_and c.from_residual.result c.from_residual.ensures.1 in
    rw (p.1, p.2)
    (gives-halts _ _ Int c.in_err-value.field-0.0 _ s done _ inr
    (λ f is. assign_array-fault limits (array_leaf IntKind c.args.name.now) (signed c.args.op c.args.sign.now) (promoted_int EachTurn c.args.e.now) c.args.domain t s done
    (cell_read-promoted_int EachTurn c.args.e.now) (promoted_int-once limits s EachTurn c.args.e.now t c.requires.once) f is)
    c.in_err-value.ensures)

pub returns-clause-ends : goal.returns-clause-ends
returns-clause-ends g c done =
    let limits = c.args.frame.now.limits in
    let s = c.args.frame.now.memory in
    let t = c.coordinate.result in
    let n = c.in_ok-value.value in
    let fits : FitsSigned w64 n = search rules in
    let same : to_z w64 (of_z w64 n) ≡ n = to_z-of_z w64 n fits in
    ends-wider _ _ c.each_within.result c.each_within.new.frame.memory done _ _ inl
    (assign_array-value limits (array_leaf IntKind c.args.name.now) (signed c.args.op c.args.sign.now) (promoted_int EachTurn c.args.e.now) c.args.domain t s done
    (cell_read-promoted_int EachTurn c.args.e.now) (promoted_int-once limits s EachTurn c.args.e.now t c.requires.once) (Int (to_z w64 (of_z w64 n))) (c.in_ok-value.ensures ∙ ap (λ n. Ok (Int n)) (sym same)))
    (c.each_within.ensures.ends done)
