-- The right side is evaluated once, at an index that doesn't matter.
use Rattle.std.proofs.Common.{◌≡◌, inl, inr, Ok, ap, ◌∙◌, rules}
use Rattle.std.proofs.lemmas.Result.{err_from_is_err_and}
use Rattle.dpl_language.specs.Tree.{BoolKind, Set}
use Rattle.dpl_language.specs.Values.{Truth}
use Rattle.dpl_lowered.specs.LoweredExpressions.{EachTurn}
use Rattle.dpl_nodes.specs.Typed.{promoted_truth}
use Rattle.dpl_nodes.specs.Steps.{array_leaf}
use Rattle.dpl_nodes.proofs.Promotions.{cell_read-promoted_truth, promoted_truth-once}
use Rattle.dpl_elements.specs.Changes.{signed}
use Rattle.dpl_elements.proofs.Changing.{gives-halts}
use Rattle.dpl_elements.proofs.Dealing.{ends-wider}
use Rattle.dpl_elements.proofs.Wholes.{assign_array-value, assign_array-fault}
use Rattle.dpl_elements.proofs.whole.set_truth_once.Goals as goal

pub returns-in_err-promoted_truth_value-clause-ends : goal.returns-in_err-promoted_truth_value-clause-ends
returns-in_err-promoted_truth_value-clause-ends g c done =
    let limits = c.args.frame.now.limits in
    let s = c.args.frame.now.memory in
    let t = c.coordinate.result in
    let p = err_from_is_err_and c.from_residual.result c.from_residual.ensures.1 in
    rw (p.1, p.2)
    (gives-halts _ _ Truth c.in_err-promoted_truth_value.field-0.0 _ s done _ inr
    (λ f is. assign_array-fault limits (array_leaf BoolKind c.args.name.now) (signed Set c.args.sign.now) (promoted_truth EachTurn c.args.e.now) c.args.domain t s done
    (cell_read-promoted_truth EachTurn c.args.e.now) (promoted_truth-once limits s EachTurn c.args.e.now t c.requires.once) f is)
    c.in_err-promoted_truth_value.ensures)

pub returns-clause-ends : goal.returns-clause-ends
returns-clause-ends g c done =
    let limits = c.args.frame.now.limits in
    let s = c.args.frame.now.memory in
    let t = c.coordinate.result in
    let got : c.in_ok-promoted_truth_value.field-0 ≡ c.get-value.result = search rules in
    ends-wider _ _ c.each_within.result c.each_within.new.frame.memory done _ _ inl
    (assign_array-value limits (array_leaf BoolKind c.args.name.now) (signed Set c.args.sign.now) (promoted_truth EachTurn c.args.e.now) c.args.domain t s done
    (cell_read-promoted_truth EachTurn c.args.e.now) (promoted_truth-once limits s EachTurn c.args.e.now t c.requires.once) (Truth c.get-value.result) (c.in_ok-promoted_truth_value.ensures ∙ ap (λ b. Ok (Truth b)) got))
    (c.each_within.ensures.ends done)
