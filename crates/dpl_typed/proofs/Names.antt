-- What stands for a name is its declaration's variable.
-- A variable of a kind stands as its leaf does.
use Rattle.std.proofs.Common.{◌≡◌, ℕ, Some, refl, sym, ap, ◌∙◌}
use Rattle.std.specs.Prelude.{◌&&◌}
use Rattle.dpl_syntax.specs.declared.place.Place.{Place}
use Rattle.dpl_language.specs.Names.{Text}
use Rattle.dpl_language.specs.Tree.{Placed, Named}
use Rattle.dpl_rules.specs.Sights.{Scopes}
use Rattle.dpl_scopes.specs.Slots.{slot_in}
use Rattle.dpl_lowered.specs.Known.{may_be_array}
use Rattle.dpl_lowered.specs.Shapes.{placed}
use Rattle.dpl_lowered.specs.LoweredExpressions.{Times, Once, EachTurn, each_turn}
use Rattle.dpl_memory.specs.Memory.{VariableKind, PlainKind, DomainKind, TupleKind, CellKind, ArrayKind, variable, known_kind, known_variable}
use Rattle.dpl_typed.specs.Leaves.{kind_in, leaf_by, leaf_in, leaf_view}
use Rattle.dpl_typed.specs.Lowered.{leaves_of}

leaf_view-placed : (m : Times) (at : Place) (k : VariableKind) (slot : ℕ) → leaf_view m at k slot ≡ Named (placed (each_turn m && may_be_array (known_kind k)) (record { at = at; name = variable k slot }))
leaf_view-placed Once at (PlainKind k) slot = refl
leaf_view-placed Once at DomainKind slot = refl
leaf_view-placed Once at TupleKind slot = refl
leaf_view-placed Once at (ArrayKind k) slot = refl
leaf_view-placed Once at (CellKind c) slot = refl
leaf_view-placed EachTurn at (PlainKind k) slot = refl
leaf_view-placed EachTurn at DomainKind slot = refl
leaf_view-placed EachTurn at TupleKind slot = refl
leaf_view-placed EachTurn at (ArrayKind k) slot = refl
leaf_view-placed EachTurn at (CellKind c) slot = refl

-- a name in sight is its declaration's variable
pub leaf_view-named : (scopes : Scopes) (m : Times) (x : Placed Text) (k : VariableKind) (slot : ℕ) → kind_in scopes x.name ≡ Some k → slot_in scopes x.name ≡ Some slot
    → leaf_view m x.at k slot ≡ leaves_of scopes m (Named x)
leaf_view-named scopes m x k slot kind at =
    let is : variable k slot ≡ leaf_in scopes x.name = sym (ap (λ o. leaf_by o (slot_in scopes x.name)) kind ∙ ap (leaf_by (Some k)) at) in
    leaf_view-placed m x.at k slot ∙ ap (λ y. Named (placed (each_turn m && may_be_array (known_variable y)) (record { at = x.at; name = y }))) is
