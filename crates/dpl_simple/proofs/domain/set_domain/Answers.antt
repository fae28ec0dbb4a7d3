-- The domain's value is tested where arrays are over it, and then the domain and its arrays change.
use Rattle.std.proofs.Common.{◌≡◌, true, false, ◌&&◌, rules, refl, sym, ap, ◌∙◌}
use Rattle.std.proofs.lemmas.Result.{err_from_is_err_and}
use Rattle.dpl_language.specs.Values.{Domain, fault, ArrayTooLarge}
use Rattle.dpl_language.specs.Ranges.{too_large}
use Rattle.dpl_language.specs.Outcome.{Done, Stop, unless}
use Rattle.dpl_memory.specs.Memory.{is_some_array, redomained_from, redomained_in}
use Rattle.dpl_nodes.specs.Typed.{domain_view}
use Rattle.dpl_nodes.specs.Steps.{domain_leaf}
use Rattle.dpl_frame.specs.Frames.{Framed, with_memory}
use Rattle.dpl_nodes.proofs.Unread.{cell_read-domain}
use Rattle.dpl_elements.proofs.Elements.{exec-domain, exec-domain-fault, for_array-fault, for_array-value, and-false}
use Rattle.dpl_loop.proofs.Ends.{fault-ends}
use Rattle.dpl_elements.proofs.Changing.{gives-halts}
use Rattle.dpl_simple.proofs.domain.set_domain.Goals as goal
use Rattle.dpl_simple.proofs.domain.set_domain.Goals.{then-not-is_empty+in_ok-for_array, else-not-is_empty}

pub returns-in_err-value-clause-ends : goal.returns-in_err-value-clause-ends
returns-in_err-value-clause-ends g c done =
    let p = err_from_is_err_and c.from_residual.result c.from_residual.ensures.1 in
    rw (p.1, p.2)
    (gives-halts _ _ Domain c.in_err-value.field-0.0 _ c.args.frame.now.memory done _ (λ m. m.0)
    (λ f e. exec-domain-fault c.args.frame.now.limits c.args.name.now (domain_view c.args.e.now) c.args.frame.now.memory done f (cell_read-domain c.args.e.now) e)
    c.in_err-value.ensures)

pub returns-in_err-for_array-clause-ends : goal.returns-in_err-for_array-clause-ends
returns-in_err-for_array-clause-ends g c done =
    let x = c.args.name.now in
    let s = c.args.frame.now.memory in
    let rs = c.in_ok-value.value in
    let f = c.in_err-for_array.field-0.0 in
    let told = for_array-fault x.at.now rs f (sym c.in_err-for_array.ensures) in
    let some : is_some_array x.arrays.now ≡ true = search rules in
    let p = err_from_is_err_and c.from_residual-in_err-for_array.result c.from_residual-in_err-for_array.ensures.1 in
    rw p.1
    (fault-ends _ f p.0 s done _ p.2
    (exec-domain c.args.frame.now.limits x (domain_view c.args.e.now) s done rs (cell_read-domain c.args.e.now) c.in_ok-value.ensures
    ∙ rw (told.0, some) (ap (λ f. Stop f done) told.1)))

pub returns-clause-ends : goal.returns-clause-ends
returns-clause-ends g c done =
    let x = c.args.name.now in
    let s = c.args.frame.now.memory in
    let rs = c.in_ok-value.value in
    let fits : (too_large rs && is_some_array x.arrays.now) ≡ false = elim c.if-not-is_empty.branch [
      | then-not-is_empty+in_ok-for_array w ↦ rw (for_array-value x.at.now rs w.in_ok-for_array.field-0 (sym w.in_ok-for_array.ensures)).0 refl
      | else-not-is_empty w ↦ (let none : is_some_array x.arrays.now ≡ false = search rules in rw none (and-false (too_large rs)))
    ] in
    exec-domain c.args.frame.now.limits x (domain_view c.args.e.now) s done rs (cell_read-domain c.args.e.now) c.in_ok-value.ensures
    ∙ ap (λ b. unless b (fault ArrayTooLarge x.at.now) (λ s done. Done (redomained_in (domain_leaf x).name rs s) done) s done) fits
    ∙ ap (λ (f : Framed). Done f.memory done)
    (sym (c.in_ok-redomain.ensures.moved
    ∙ ap (λ (f : Framed). with_memory (record f.memory { arrays = redomained_from 0 x.arrays.now rs f.memory.arrays }) f) c.set_domain.ensures))
