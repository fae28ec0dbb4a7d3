-- What tells the root, by what is said of the map.
use Rattle.std.proofs.Common.{sym, ap, ◌∙◌}
use Rattle.dpl_language.specs.Roots.{derived_from, root_by}
use Rattle.dpl_nodes.specs.Typed.{domain_view}
use Rattle.dpl_simple.specs.Lineages.{slot_root, valued_root}
use Rattle.dpl_simple.proofs.Rooting.{derived-slot, block-root, cyclic-root}
use Rattle.dpl_simple.proofs.lineage.with_value.Goals as goal

pub returns-in-Derived : goal.returns-in-Derived
returns-in-Derived g c rs =
    let limits = c.args.frame.now.limits in
    let s = c.args.frame.now.memory in
    let e = c.args.e.now in
    c.derived.ensures rs
    ∙ ap (λ o. slot_root o rs s) c.origin.ensures
    ∙ sym (ap (λ p. valued_root limits e p rs s) c.in-Derived.is ∙ derived-slot limits s (derived_from (domain_view e)) rs)

pub returns-in_ok-named-in-Mapped : goal.returns-in_ok-named-in-Mapped
returns-in_ok-named-in-Mapped g c rs =
    ap (λ d. root_by d rs) c.in_ok-named-in-Mapped.ensures
    ∙ sym (ap (λ p. valued_root c.args.frame.now.limits c.args.e.now p rs c.args.frame.now.memory) c.in-Mapped.is)

pub returns-in-BlockCreated : goal.returns-in-BlockCreated
returns-in-BlockCreated g c rs =
    let limits = c.args.frame.now.limits in
    let s = c.args.frame.now.memory in
    let e = c.args.e.now in
    sym (ap (λ p. valued_root limits e p rs s) c.in-BlockCreated.is ∙ block-root limits s e c.args.value rs c.requires)

pub returns-in-CyclicCreated : goal.returns-in-CyclicCreated
returns-in-CyclicCreated g c rs =
    let limits = c.args.frame.now.limits in
    let s = c.args.frame.now.memory in
    let e = c.args.e.now in
    ap (λ d. root_by d rs) c.from_least.ensures
    ∙ sym (ap (λ p. valued_root limits e p rs s) c.in-CyclicCreated.is ∙ cyclic-root limits s e c.args.value rs c.requires)
