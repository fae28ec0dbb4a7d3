-- What is refused behind the declaration is an entry of the array as it was declared.
use Rattle.std.proofs.Common.{inl, inr, sym, ◌∙◌}
use Rattle.std.proofs.lemmas.Result.{err_from_is_err_and}
use Rattle.dpl_loop.proofs.Ends.{ends-where, halts-where}
use Rattle.dpl_elements.proofs.Dealing.{ends-wider}
use Rattle.dpl_simple.proofs.filled.declare_array_by.Goals as goal

pub returns-then-is_open-clause-ends : goal.returns-then-is_open-clause-ends
returns-then-is_open-clause-ends g c done =
    ends-where _ _ c.declare_array.result c.declare_array.new.frame.memory done _ inl (c.declare_array.ensures.ends done)

pub returns-in_err-declare_array-clause-ends : goal.returns-in_err-declare_array-clause-ends
returns-in_err-declare_array-clause-ends g c done =
    let h = c.in_err-declare_array.field-0.0 in
    let p = err_from_is_err_and c.from_residual.result c.from_residual.ensures.1 in
    rw (p.1, p.2) (halts-where _ _ h c.declare_array-2.new.frame.memory done _ inl (c.in_err-declare_array.ensures.ends done))

pub returns-clause-ends : goal.returns-clause-ends
returns-clause-ends g c done =
    let declared = c.in_ok-declare_array.ensures in
    ends-wider _ _ c.enter_array.result c.enter_array.new.frame.memory done _ _
    (λ entry. inr (sym c.fills.ensures ∙ c.if-not-fills.false, c.declare_array-2.new.frame, declared.layout, declared.ends, entry))
    (declared.ends done) (c.enter_array.ensures.ends done)
