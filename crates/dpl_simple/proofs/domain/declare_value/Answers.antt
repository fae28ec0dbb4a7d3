-- The value goes into the domain's slot, which has its root.
use Rattle.std.proofs.Common.{List, Ok, ap, ◌∙◌}
use Rattle.std.proofs.lemmas.Result.{err_from_is_err_and}
use Rattle.dpl_sets.specs.TextRanges.{TextRange}
use Rattle.dpl_language.specs.Values.{Domain, ranges_in}
use Rattle.dpl_language.specs.Outcome.{Done, with_ok}
use Rattle.dpl_nodes.proofs.Unread.{cell_read-domain}
use Rattle.dpl_elements.specs.Changes.{ends_as}
use Rattle.dpl_elements.proofs.Changing.{gives-halts}
use Rattle.dpl_simple.specs.Lineages.{valued_root}
use Rattle.dpl_simple.proofs.Rooting.{rooted_memory, dealt-domain, exec-valued}
use Rattle.dpl_simple.proofs.domain.declare_value.Goals as goal

pub returns-in_err-value-clause-ends : goal.returns-in_err-value-clause-ends
returns-in_err-value-clause-ends g c done =
    let limits = c.args.frame.now.limits in
    let s = c.args.frame.now.memory in
    let root = λ (rs : List TextRange). valued_root limits c.args.e.now c.args.placing.now rs s in
    let p = err_from_is_err_and c.from_residual.result c.from_residual.ensures.1 in
    rw (p.1, p.2)
    (gives-halts _ _ Domain c.in_err-value.field-0.0 _ s done _ (λ m. m.0)
    (λ f e.
    exec-valued limits s c.args.slot done c.args.e (cell_read-domain c.args.e.now) c.args.placing.now
    ∙ ap (λ r. ends_as (with_ok r (λ v. Ok (rooted_memory c.args.slot s root (ranges_in v)))) done) e)
    c.in_err-value.ensures)

pub returns-clause-ends : goal.returns-clause-ends
returns-clause-ends g c done =
    let limits = c.args.frame.now.limits in
    let s = c.args.frame.now.memory in
    let root = λ (rs : List TextRange). valued_root limits c.args.e.now c.args.placing.now rs s in
    exec-valued limits s c.args.slot done c.args.e (cell_read-domain c.args.e.now) c.args.placing.now
    ∙ ap (λ r. ends_as (with_ok r (λ v. Ok (rooted_memory c.args.slot s root (ranges_in v)))) done) c.in_ok-value.ensures
    ∙ ap (λ m. Done m done)
    (dealt-domain c.args.slot root _ c.domain.result c.in_ok-value.value c.args.frame.now c.declare_domain.new.self c.deal.new.self
    c.declare_domain.ensures c.domain.ensures (c.root-root.ensures ∙ c.in_ok-lineage.ensures c.domain.result) c.deal.ensures)
