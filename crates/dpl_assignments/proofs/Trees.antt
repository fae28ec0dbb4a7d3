-- An assignment as it is run, by what is made of its parts: to a name, which has its declaration's slot, and to an element.
-- A right side is evaluated once, or at each index.
use Rattle.std.proofs.Common.{◌≡◌, ℕ, Some, sym, ap, ◌∙◌}
use Rattle.std.specs.Prelude.{◌||◌}
use Rattle.dpl_syntax.specs.declared.place.Place.{Place}
use Rattle.dpl_language.specs.Tree.{Placed, AssignTree, Exprs, ItemTree, Whole, StmtTree, Assigned}
use Rattle.dpl_language.specs.Arithmetic.{assign_divides}
use Rattle.dpl_language.specs.Names.{Text}
use Rattle.dpl_agreement.specs.Renamed.{renamed_exprs}
use Rattle.dpl_agreement.proofs.RenamedTwice.{renamed_exprs-twice}
use Rattle.dpl_rules.specs.Sights.{Scopes}
use Rattle.dpl_scopes.specs.Slots.{slot_in}
use Rattle.dpl_lowered.specs.Known.{may_be_array, may_be_whole}
use Rattle.dpl_lowered.specs.Shapes.{nowhere, placed}
use Rattle.dpl_lowered.specs.LoweredExpressions.{Times, Once, lowered_exprs}
use Rattle.dpl_lowered.specs.LoweredStatements.{times_by, lowered_sign}
use Rattle.dpl_memory.specs.Memory.{VariableKind, Variable, variable, known_kind, known_variable}
use Rattle.dpl_memory.specs.Resolved.{variable_of}
use Rattle.dpl_nodes.specs.Typed.{index_exprs}
use Rattle.dpl_nodes.specs.Steps.{placed_leaf}
use Rattle.dpl_tree.specs.declared.statement.Element.{Element as ElementNode}
use Rattle.dpl_tree.specs.View.{exprs_view}
use Rattle.dpl_typed.specs.declared.typed.Typed.{Typed}
use Rattle.dpl_typed.specs.Leaves.{kind_in, leaf_by, leaf_in}
use Rattle.dpl_typed.specs.Lowered.{exprs_leaves}
use Rattle.dpl_typed.specs.Typed.{typed_item}
use Rattle.dpl_bound.specs.Sights.{bound_in}
use Rattle.dpl_bound.specs.Bounds.{with_arrays}
use Rattle.dpl_bound.specs.Run.{side_leaves, stmt_leaves}
use Rattle.dpl_assignments.specs.declared.element.Indexed.{Indexed}
use Rattle.dpl_assignments.specs.Made.{given_to, element_changed, changed_at, IsIndexed}
use Rattle.dpl_assignments.specs.Told.{element_tree}

-- ---- to a name
abbrev to_leaf : Scopes → Placed Text → AssignTree → ItemTree Text → Variable → StmtTree Variable
to_leaf ss x sign item l =
    Assigned (Whole (placed (may_be_whole (known_kind l.kind)) (record { at = x.at; name = with_arrays ss l })))
    (lowered_sign (may_be_array (known_kind l.kind) || assign_divides sign.op) sign) (side_leaves ss (times_by (may_be_array (known_kind l.kind))) item) nowhere

abbrev to_kind : Scopes → Placed Text → AssignTree → VariableKind → ℕ → ItemTree Variable → StmtTree Variable
to_kind ss x sign k slot i =
    Assigned (Whole (placed (may_be_whole (known_kind k)) (record { at = x.at; name = with_arrays ss (variable k slot) })))
    (lowered_sign (may_be_array (known_kind k) || assign_divides sign.op) sign) i nowhere

pub to-name : (ss : Scopes) (x : Placed Text) (sign : AssignTree) (item : ItemTree Text) (semicolon : Place) (t : Typed) (k : VariableKind) (slot : ℕ)
    → kind_in ss x.name ≡ Some k → slot_in ss x.name ≡ Some slot → ((m : Times) → typed_item m t ≡ side_leaves ss m item)
    → stmt_leaves ss (Assigned (Whole x) sign item semicolon) ≡ given_to ss x.at k slot sign.op sign.at (λ m. typed_item m t)
to-name ss x sign item semicolon t k slot kind at is =
    let leaf : leaf_in ss x.name ≡ variable k slot = ap (λ k. leaf_by k (slot_in ss x.name)) kind ∙ ap (leaf_by (Some k)) at in
    ap (to_leaf ss x sign item) leaf ∙ ap (to_kind ss x sign k slot) (sym (is (times_by (may_be_array (known_kind k)))))

-- ---- to an element
abbrev to_index : Scopes → ElementNode → AssignTree → Exprs Variable → ItemTree Variable → StmtTree Variable
to_index ss e sign es i = element_changed (placed_leaf e.name.at (leaf_in ss e.name.text.now)) es sign.op sign.at i

pub to-element : (ss : Scopes) (e : ElementNode) (sign : AssignTree) (item : ItemTree Text) (semicolon : Place) (t : Typed) (x : Indexed)
    → IsIndexed ss e x → typed_item Once t ≡ side_leaves ss Once item
    → stmt_leaves ss (Assigned (element_tree e) sign item semicolon) ≡ changed_at x sign.op sign.at (typed_item Once t)
to-element ss e sign item semicolon t x h is =
    let exprs = lowered_exprs known_variable (renamed_exprs variable_of (renamed_exprs (bound_in ss) (exprs_view e.exprs))) in
    let bound : exprs ≡ exprs_leaves ss (exprs_view e.exprs) = ap (lowered_exprs known_variable) (renamed_exprs-twice variable_of (bound_in ss) (exprs_view e.exprs)) in
    ap (to_index ss e sign exprs) (sym is) ∙ ap (λ es. to_index ss e sign es (typed_item Once t)) (bound ∙ sym h.index)
    ∙ ap (λ y. element_changed y (index_exprs x.index.now) sign.op sign.at (typed_item Once t)) (sym h.name)
