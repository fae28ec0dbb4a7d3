-- The domain is evaluated and tested, then the elements are, and then the array has its root.
use Rattle.std.proofs.Common.{◌≡◌, Ok, inl, inr, ap, sym, subst, ◌∙◌}
use Rattle.std.proofs.lemmas.Result.{err_from_is_err_and}
use Rattle.dpl_language.specs.Values.{Domain}
use Rattle.dpl_language.specs.Outcome.{Done, then_do}
use Rattle.dpl_language.specs.Roots.{derived_over, derived_root}
use Rattle.dpl_memory.specs.Memory.{in_memory}
use Rattle.dpl_nodes.specs.Steps.{over_items}
use Rattle.dpl_loop.proofs.Ends.{fault-ends, halts-alike, halts-where, then_do-halts}
use Rattle.dpl_elements.proofs.Changing.{gives-halts}
use Rattle.dpl_frame.specs.Roots.{map_of_root}
use Rattle.dpl_simple.specs.Lineages.{slot_root}
use Rattle.dpl_simple.specs.Refusals.{EachInInitial, MayRefuseElements, array_map}
use Rattle.dpl_simple.proofs.Rooting.{derived-slot, dealt-array, dealing_array}
use Rattle.dpl_simple.proofs.ArrayItems.{for_array-same, exec-unsized, exec-too_large, exec-array_declared}
use Rattle.dpl_simple.proofs.declare.declare_array.Goals as goal

pub returns-in_err-domain-clause-ends : goal.returns-in_err-domain-clause-ends
returns-in_err-domain-clause-ends g c done =
    let p = err_from_is_err_and c.from_residual.result c.from_residual.ensures.1 in
    rw (p.1, p.2)
    (gives-halts _ _ Domain c.in_err-domain.field-0.0 _ c.args.frame.now.memory done _ inr
    (λ f e. exec-unsized c.args.frame.now.limits c.args.d.now c.args.frame.now.memory done f e)
    c.in_err-domain.ensures)

pub returns-in_err-domain-2-clause-ends : goal.returns-in_err-domain-2-clause-ends
returns-in_err-domain-2-clause-ends g c done =
    let f = c.in_err-domain-2.field-0.0 in
    let p = err_from_is_err_and c.from_residual-in_err-domain-2.result c.from_residual-in_err-domain-2.ensures.1 in
    rw p.1
    (fault-ends _ f p.0 c.args.frame.now.memory done _ p.2
    (exec-too_large c.args.frame.now.limits c.args.d.now c.args.frame.now.memory done c.in_ok-domain.domain f c.in_ok-domain.ensures c.in_err-domain-2.ensures.is))

pub returns-in_err-declare_over-clause-ends : goal.returns-in_err-declare_over-clause-ends
returns-in_err-declare_over-clause-ends g c done =
    let limits = c.args.frame.now.limits in
    let s = c.args.frame.now.memory in
    let d = c.args.d.now in
    let h = c.in_err-declare_over.field-0.0 in
    let next = c.declare_over.new.frame.memory in
    let rs = c.in_ok-domain-2.domain in
    let may = g.G.Gate.may_refuse c.args.gate.now in
    let root = c.root.ensures ∙ c.derived-lineage.ensures rs ∙ ap (λ o. slot_root o rs s) c.origin.ensures in
    let dealt : c.map_of-map.result ≡ array_map c.args.frame.now d rs = c.map_of-map.ensures ∙ ap (map_of_root c.args.frame.now.layout) root in
    let is = c.in_ok-domain.ensures ∙ ap (λ rs. Ok (Domain rs)) (sym (for_array-same d.at.now c.in_ok-domain.domain rs c.in_ok-domain-2.ensures.is)) in
    let p = err_from_is_err_and c.from_residual-in_err-declare_over.result c.from_residual-in_err-declare_over.ensures.1 in
    rw (p.1, p.2)
    (halts-where _ _ h next done _
    (λ refuses. inl (rs, is, subst (λ map. MayRefuseElements may c.args.frame.now map rs (EachInInitial d.initial)) dealt refuses))
    (halts-alike _ h next next done _ _
    (exec-array_declared limits d s done c.in_ok-domain.domain rs c.in_ok-domain.ensures c.in_ok-domain-2.ensures.is)
    (then_do-halts _ h next next done _ (dealing_array limits s d) (c.in_err-declare_over.ensures.ends done))))

pub returns-clause-ends : goal.returns-clause-ends
returns-clause-ends g c done =
    let limits = c.args.frame.now.limits in
    let s = c.args.frame.now.memory in
    let d = c.args.d.now in
    let over = derived_over (over_items d.over) in
    let held = c.array_domain.result in
    exec-array_declared limits d s done c.in_ok-domain.domain c.in_ok-domain-2.domain c.in_ok-domain.ensures c.in_ok-domain-2.ensures.is
    ∙ ap (λ o. then_do o (dealing_array limits s d)) (c.in_ok-declare_over.ensures.ends done)
    ∙ ap (λ m. Done m done)
    (dealt-array d.slot (λ rs. derived_root limits in_memory over rs s) _ held c.declare_over.new.frame c.deal.new.self
    c.array_domain.ensures
    (c.root-root.ensures ∙ c.derived-lineage.ensures held ∙ ap (λ o. slot_root o held s) c.origin.ensures ∙ sym (derived-slot limits s over held))
    c.deal.ensures)
