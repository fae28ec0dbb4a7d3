-- A step that is made of what was judged stands for the assignment.
-- What stands for the right side was found with its type.
use Rattle.std.proofs.Common.{◌≡◌, Option, sym, ap, ◌∙◌, subst}
use Rattle.std.specs.Prelude.{IfSome}
use Rattle.dpl_syntax.specs.declared.place.Place.{Place}
use Rattle.dpl_language.specs.Tree.{Placed, AssignTree, ItemTree, Whole, Assigned}
use Rattle.dpl_language.specs.Names.{Text}
use Rattle.dpl_lowered.specs.LoweredExpressions.{Once}
use Rattle.dpl_tree.specs.declared.statement.Element.{Element as ElementNode}
use Rattle.dpl_rules.specs.Sights.{Scopes}
use Rattle.dpl_nodes.specs.declared.step.Step.{Step}
use Rattle.dpl_nodes.specs.Steps.{step_view}
use Rattle.dpl_typed.specs.declared.typed.Typed.{Typed}
use Rattle.dpl_typed.specs.Leaves.{kind_by}
use Rattle.dpl_typed.specs.Stands.{StandsForItem}
use Rattle.dpl_typed.specs.Typed.{typed_item}
use Rattle.dpl_bound.specs.Run.{side_leaves, stmt_leaves}
use Rattle.dpl_assignments.specs.declared.element.Indexed.{Indexed}
use Rattle.dpl_assignments.specs.Made.{given_to, changed_at, IsIndexed}
use Rattle.dpl_assignments.specs.Told.{element_tree}
use Rattle.dpl_assignments.proofs.Judged.{IsGiven, IsGivenAt}
use Rattle.dpl_assignments.proofs.Trees.{to-name, to-element}

pub name-step : (ss : Scopes) (x : Placed Text) (sign : AssignTree) (item : ItemTree Text) (semicolon : Place) (found : Option Typed) (g : IsGiven ss x.name sign.op found) (s : Step)
    → StandsForItem found (λ m. side_leaves ss m item) → step_view s ≡ given_to ss x.at g.kind g.slot sign.op sign.at (λ m. typed_item m g.value)
    → stmt_leaves ss (Assigned (Whole x) sign item semicolon) ≡ step_view s
name-step ss x sign item semicolon found g s stands made =
    let is = subst (λ o. StandsForItem o (λ m. side_leaves ss m item)) g.is stands in
    to-name ss x sign item semicolon g.value g.kind g.slot (ap kind_by g.declared ∙ g.of_kind) g.at is.0 ∙ sym made

pub element-step : (ss : Scopes) (e : ElementNode) (sign : AssignTree) (item : ItemTree Text) (semicolon : Place) (x : Option Indexed) (found : Option Typed) (g : IsGivenAt sign.op x found) (s : Step)
    → IfSome x (IsIndexed ss e) → StandsForItem found (λ m. side_leaves ss m item) → step_view s ≡ changed_at g.element sign.op sign.at (typed_item Once g.value)
    → stmt_leaves ss (Assigned (element_tree e) sign item semicolon) ≡ step_view s
element-step ss e sign item semicolon x found g s indexed stands made =
    let is = subst (λ o. StandsForItem o (λ m. side_leaves ss m item)) g.is stands in
    to-element ss e sign item semicolon g.value g.element (subst (λ o. IfSome o (IsIndexed ss e)) g.there indexed) (is.0 Once) ∙ sym made
