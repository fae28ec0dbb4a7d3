-- An initial value is evaluated once, before the budget is tested, or at each index, behind it.
use Rattle.std.proofs.Common.{inl, inr, rules, FitsSigned, w64, sym, ap, ◌∙◌}
use Rattle.std.proofs.lemmas.Int.{to_z-of_z}
use Rattle.std.proofs.lemmas.Result.{err_from_is_err_and}
use mir.Val.{of_z, to_z}
use Rattle.dpl_language.specs.Tree.{IntKind}
use Rattle.dpl_language.specs.Values.{Int}
use Rattle.dpl_language.specs.Outcome.{Done}
use Rattle.dpl_language.specs.Expressions.{whole_in}
use Rattle.dpl_lowered.specs.LoweredExpressions.{EachTurn}
use Rattle.dpl_memory.specs.Memory.{in_memory}
use Rattle.dpl_frame.specs.Frames.{Framed}
use Rattle.dpl_nodes.specs.Typed.{promoted_int}
use Rattle.dpl_nodes.proofs.Promotions.{cell_read-promoted_int, promoted_int-once}
use Rattle.dpl_elements.specs.Arrays.{shell_over}
use Rattle.dpl_loop.proofs.Ends.{fault-ends}
use Rattle.dpl_elements.proofs.Changing.{gives-halts}
use Rattle.dpl_simple.proofs.ArrayItems.{array_of_item-fault, array_of_item-past, array_of_item-value, array_of_item-refused, array_of_item-gathered, gathers-halts}
use Rattle.dpl_simple.proofs.declare.declare_ints.Goals as goal

pub returns-in_err-word-in-None-clause-ends : goal.returns-in_err-word-in-None-clause-ends
returns-in_err-word-in-None-clause-ends g c done =
    let limits = c.args.frame.now.limits in
    let s = c.args.frame.now.memory in
    let e = promoted_int EachTurn c.args.e.now in
    let t = c.coordinate.result in
    let p = err_from_is_err_and c.from_residual.result c.from_residual.ensures.1 in
    rw (p.1, p.2)
    (gives-halts _ _ Int c.in_err-word-in-None.field-0.0 _ s done _ inr
    (λ f is. array_of_item-fault limits c.args.d.now.at.now IntKind c.args.d.now.slot (shell_over c.args.d.now.over IntKind c.args.domain) s done c.args.at.now e (whole_in limits in_memory e s)
    t c.in-None.ensures (cell_read-promoted_int EachTurn c.args.e.now) (promoted_int-once limits s EachTurn c.args.e.now t (sym c.in-None.ensures)) f is)
    c.in_err-word-in-None.ensures)

pub returns-in_err-within_budget-in-None-clause-ends : goal.returns-in_err-within_budget-in-None-clause-ends
returns-in_err-within_budget-in-None-clause-ends g c done =
    let limits = c.args.frame.now.limits in
    let s = c.args.frame.now.memory in
    let e = promoted_int EachTurn c.args.e.now in
    let t = c.coordinate.result in
    let f = c.in_err-within_budget-in-None.field-0.0 in
    let p = err_from_is_err_and c.from_residual-in_err-within_budget-in-None.result c.from_residual-in_err-within_budget-in-None.ensures.1 in
    rw p.1
    (fault-ends _ f p.0 s done _ p.2
    (array_of_item-past limits c.args.d.now.at.now IntKind c.args.d.now.slot (shell_over c.args.d.now.over IntKind c.args.domain) s done c.args.at.now e (whole_in limits in_memory e s)
    t c.in-None.ensures (cell_read-promoted_int EachTurn c.args.e.now) (promoted_int-once limits s EachTurn c.args.e.now t (sym c.in-None.ensures)) (Int c.in_ok-word-in-None.word) f c.in_ok-word-in-None.ensures
    c.in_err-within_budget-in-None.ensures))

pub returns-in_err-within_budget-in-Some-clause-ends : goal.returns-in_err-within_budget-in-Some-clause-ends
returns-in_err-within_budget-in-Some-clause-ends g c done =
    let limits = c.args.frame.now.limits in
    let s = c.args.frame.now.memory in
    let e = promoted_int EachTurn c.args.e.now in
    let f = c.in_err-within_budget-in-Some.field-0.0 in
    let p = err_from_is_err_and c.from_residual-in_err-within_budget-in-Some.result c.from_residual-in_err-within_budget-in-Some.ensures.1 in
    rw p.1
    (fault-ends _ f p.0 s done _ p.2
    (array_of_item-refused limits c.args.d.now.at.now IntKind c.args.d.now.slot (shell_over c.args.d.now.over IntKind c.args.domain) s done c.args.at.now e (whole_in limits in_memory e s)
    c.in-Some.field-0 f c.in-Some.ensures c.in_err-within_budget-in-Some.ensures))

pub returns-in_err-array-in-Some-clause-ends : goal.returns-in_err-array-in-Some-clause-ends
returns-in_err-array-in-Some-clause-ends g c done =
    let limits = c.args.frame.now.limits in
    let s = c.args.frame.now.memory in
    let e = promoted_int EachTurn c.args.e.now in
    let p = err_from_is_err_and c.from_residual-in_err-array-in-Some.result c.from_residual-in_err-array-in-Some.ensures.1 in
    rw (p.1, p.2)
    (gathers-halts _ _ c.in_err-array-in-Some.field-0.0 c.args.domain _ s done _ inl
    (λ f is. array_of_item-gathered limits c.args.d.now.at.now IntKind c.args.d.now.slot (shell_over c.args.d.now.over IntKind c.args.domain) s done c.args.at.now e (whole_in limits in_memory e s)
    c.in-Some.field-0 f c.in-Some.ensures c.in_ok-within_budget-in-Some.ensures is)
    c.in_err-array-in-Some.ensures)

pub returns-in_ok-declare_array-in-None-clause-ends : goal.returns-in_ok-declare_array-in-None-clause-ends
returns-in_ok-declare_array-in-None-clause-ends g c done =
    let limits = c.args.frame.now.limits in
    let s = c.args.frame.now.memory in
    let e = promoted_int EachTurn c.args.e.now in
    let t = c.coordinate.result in
    let n = c.in_ok-word-in-None.word in
    let fits : FitsSigned w64 n = search rules in
    array_of_item-value limits c.args.d.now.at.now IntKind c.args.d.now.slot (shell_over c.args.d.now.over IntKind c.args.domain) s done c.args.at.now e (whole_in limits in_memory e s)
    t c.in-None.ensures (cell_read-promoted_int EachTurn c.args.e.now) (promoted_int-once limits s EachTurn c.args.e.now t (sym c.in-None.ensures)) (Int n) (to_z w64 (of_z w64 n)) c.in_ok-word-in-None.ensures
    c.in_ok-within_budget-in-None.ensures (sym (to_z-of_z w64 n fits))
    ∙ ap (λ (f : Framed). Done f.memory done) (sym c.in_ok-declare_array-in-None.ensures.declared)
