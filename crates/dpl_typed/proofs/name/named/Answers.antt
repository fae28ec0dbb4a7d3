-- The variable of a declaration's type stands for the name's leaf.
use Rattle.std.proofs.Common.{◌≡◌, Some, sym, ap, subst, ◌∙◌}
use Rattle.std.specs.Prelude.{option_map}
use Rattle.dpl_language.specs.Tree.{Named}
use Rattle.dpl_rules.specs.Sights.{type_declared}
use Rattle.dpl_scopes.specs.declared.declared.Declared.{Declared}
use Rattle.dpl_scopes.specs.Slots.{slot_in}
use Rattle.dpl_scopes.specs.Types.{type_view, of_type}
use Rattle.dpl_scopes.specs.View.{declared_view}
use Rattle.dpl_typed.specs.Leaves.{value_kind, kind_by, leaf_view}
use Rattle.dpl_typed.specs.Lowered.{leaves_of}
use Rattle.dpl_typed.specs.Stands.{StandsFor}
use Rattle.dpl_typed.proofs.Names.{leaf_view-named}
use Rattle.dpl_typed.proofs.Standing.{if_ok, stands-same}
use Rattle.dpl_typed.proofs.name.named.Goals as goal

pub returns-clause-node : goal.returns-clause-node
returns-clause-node c =
    let declared = c.in-Some.declared in
    let typed = c.in-Some-value_type in
    if_ok c.variable.result
    (λ r h. λ scopes x at sighted found near.
    let kind : value_kind (type_view typed.t) ≡ Some found.0 =
    sym (ap (λ o. kind_by (of_type o)) typed.is) ∙ ap (λ o. kind_by (type_declared (option_map declared_view o))) (sym c.in-Some.is)
    ∙ ap (λ o. kind_by (type_declared o)) sighted.0 ∙ found.2 in
    let slot : slot_in scopes x.name ≡ Some declared.slot = sym sighted.1 ∙ ap (option_map (λ (d : Declared). d.slot)) c.in-Some.is in
    stands-same r (λ m. leaf_view m x.at found.0 declared.slot) (λ m. leaves_of scopes m (Named x))
    (λ m. leaf_view-named scopes m x found.0 declared.slot found.2 slot)
    (subst (λ a. StandsFor r (λ m. leaf_view m a found.0 declared.slot)) (sym at) (h found.0 kind near)))
    c.variable.ensures.node
