-- The right side goes first, then the index, and then the change; an operator without a use for the old value puts the element.
use Rattle.std.proofs.Common.{rules, Ok, Err, w64, FitsSigned}
use Rattle.std.proofs.lemmas.Int.{to_z-of_z}
use Rattle.std.proofs.lemmas.Result.{err_from_is_err_and}
use Rattle.dpl_language.specs.Tree.{IntKind}
use Rattle.dpl_language.specs.Values.{Int}
use Rattle.dpl_nodes.specs.Typed.{int_view}
use Rattle.dpl_nodes.specs.Steps.{array_leaf}
use Rattle.dpl_nodes.proofs.Unread.{cell_read-int}
use Rattle.dpl_elements.proofs.Changing.{gives-halts, gives-ends}
use Rattle.dpl_loop.proofs.Ends.{ends-within}
use Rattle.dpl_elements.proofs.Elements.{exec-element, exec-element-fault, exec-put}
use Rattle.dpl_elements.proofs.element.set_element.Goals as goal

pub returns-in_err-value-clause-ends : goal.returns-in_err-value-clause-ends
returns-in_err-value-clause-ends g c done =
    let s = c.args.frame.now.memory in
    let p = err_from_is_err_and c.from_residual.result c.from_residual.ensures.1 in
    rw (p.1, p.2)
    (gives-halts _ _ Int c.in_err-value.field-0.0 _ s done _ (λ m. m.0)
    (λ f e. exec-element-fault c.args.frame.now.limits (array_leaf IntKind c.args.name.now) c.args.t.now c.args.op c.args.sign.now (int_view c.args.e.now) s done f (cell_read-int c.args.e.now) e)
    c.in_err-value.ensures)

pub returns-then-replaces-clause-ends : goal.returns-then-replaces-clause-ends
returns-then-replaces-clause-ends g c done =
    let value_fits : FitsSigned w64 c.in_ok-value.value = search rules in
    let put = simp to_z-of_z at c.put_at.ensures.ends in
    gives-ends _ c.put_at.result c.put_at.new.frame.memory done _ _
    (exec-put c.args.frame.now.limits IntKind c.args.name.now c.args.t.now c.args.op c.args.sign.now (int_view c.args.e.now) c.args.frame.now.memory done (Int c.in_ok-value.value)
    (cell_read-int c.args.e.now) c.in_ok-value.ensures (c.replaces.ensures.divides c.if-replaces.true) (c.replaces.ensures.value c.if-replaces.true))
    put

pub returns-in_err-index-clause-ends : goal.returns-in_err-index-clause-ends
returns-in_err-index-clause-ends g c done =
    let s = c.args.frame.now.memory in
    let p = err_from_is_err_and c.from_residual-in_err-index.result c.from_residual-in_err-index.ensures.1 in
    rw (p.1, p.2)
    (gives-halts _ _ (λ t. t) c.in_err-index.field-0.0 _ s done _ (λ m. m.0)
    (λ f e. exec-element c.args.frame.now.limits (array_leaf IntKind c.args.name.now) c.args.t.now c.args.op c.args.sign.now (int_view c.args.e.now) s done (Int c.in_ok-value.value) (Err f)
    (cell_read-int c.args.e.now) c.in_ok-value.ensures e)
    c.in_err-index.ensures)

pub returns-clause-ends : goal.returns-clause-ends
returns-clause-ends g c done =
    let value_fits : FitsSigned w64 c.in_ok-value.value = search rules in
    let changed = simp to_z-of_z at c.combine.ensures.ends done in
    ends-within _ c.combine.result c.combine.new.frame.memory done _ _
    (exec-element c.args.frame.now.limits (array_leaf IntKind c.args.name.now) c.args.t.now c.args.op c.args.sign.now (int_view c.args.e.now) c.args.frame.now.memory done (Int c.in_ok-value.value) (Ok c.in_ok-index.index)
    (cell_read-int c.args.e.now) c.in_ok-value.ensures c.in_ok-index.ensures)
    changed
