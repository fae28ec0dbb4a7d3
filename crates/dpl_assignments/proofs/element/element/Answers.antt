-- The array's name stands for its leaf, and the index for the expressions.
use Rattle.std.proofs.Common.{refl, sym, subst}
use Rattle.dpl_language.specs.Tree.{Named}
use Rattle.dpl_tree.specs.View.{name_view, exprs_view}
use Rattle.dpl_typed.specs.Lowered.{leaves_of, exprs_leaves}
use Rattle.dpl_typed.specs.Stands.{AreArguments}
use Rattle.dpl_typed.proofs.Standing.{if_ok}
use Rattle.dpl_assignments.proofs.Indexing.{if_some, indexed-named}
use Rattle.dpl_assignments.proofs.element.element.Goals as goal

pub returns-clause-node : goal.returns-clause-node
returns-clause-node c =
    let ss = c.args.scopes.now in
    let e = c.args.written.now in
    let es = exprs_leaves ss (exprs_view e.exprs) in
    if_ok c.of_value.result
    (λ r h. λ sighted found near simple spelt.
    if_some r (λ x is. indexed-named ss e x is)
    (h (λ m. leaves_of ss m (Named (name_view e.name))) es (c.in-Ok-named.ensures.node ss (name_view e.name) refl sighted found near)
    (subst (λ ps. AreArguments ps es) (sym c.deref.ensures.value) (c.in-Ok.ensures.node simple spelt))))
    c.of_value.ensures.node
