-- What assignments owe, part by part.
-- Each is a part of a rule of dpl_rules.
use Rattle.std.specs.Prelude.{◌≡◌, Bool, false, List, ◌++◌, Option, option_map}
use Rattle.dpl_syntax.specs.declared.refusal.Breach.{Breach}
use Rattle.dpl_language.specs.Tree.{Placed, AssignTree, ItemTree, TargetTree, Whole, Element, Assigned}
use Rattle.dpl_language.specs.Names.{Text}
use Rattle.dpl_tree.specs.declared.statement.Element.{Element as ElementNode}
use Rattle.dpl_tree.specs.declared.statement.Assignment.{Assignment as AssignmentNode}
use Rattle.dpl_tree.specs.View.{item_view, exprs_view, name_view}
use Rattle.dpl_tree.specs.Statements.{target_view, sign_view}
use Rattle.dpl_rules.specs.Types.{ValueType, Scalar}
use Rattle.dpl_rules.specs.Breaches.{least_from}
use Rattle.dpl_rules.specs.Verdicts.{Verdict, type_by, broken_by, with_type}
use Rattle.dpl_rules.specs.Sights.{Scopes, lookup, type_declared, Reducing, Sight}
use Rattle.dpl_rules.specs.Operators.{round_verdict}
use Rattle.dpl_rules.specs.Expressions.{name_verdict, expr_parts, exprs_breaches, side_part, side_breaches}
use Rattle.dpl_rules.specs.Deeds.{Deed}
use Rattle.dpl_rules.specs.Doings.{stmt_deeds}
use Rattle.dpl_rules.specs.Bodies.{promoted_breaches}
use Rattle.dpl_rules.specs.Assignments.{written_name, fitting_target, may_reduce_in, assignment_breaches}
use Rattle.dpl_assignments.specs.declared.element.Indexed.{Indexed}

-- what a statement has in sight
abbrev pub within : Scopes → Option Reducing → Bool → Sight
within scopes forall in_task = record { scopes = scopes; forall = forall; in_task = in_task }

-- an element that is written: as it is spelled, and what its rule says
abbrev pub element_tree : ElementNode → TargetTree Text
element_tree e = Element (name_view e.name) e.shape e.from (exprs_view e.exprs) e.upto

abbrev pub element_verdict : Scopes → ElementNode → Verdict
element_verdict scopes e =
    with_type (type_by (name_verdict e.name.at (lookup scopes e.name.text.now))) (round_verdict e.name.at e.from (expr_parts scopes (exprs_view e.exprs)))

-- the type of an element, if there is one
abbrev pub indexed_type : Indexed → ValueType
indexed_type x = Scalar x.kind

abbrev pub indexed_types : Option Indexed → Option ValueType
indexed_types x = option_map indexed_type x

abbrev pub TellsElement : Option ValueType → List Breach → Option Indexed → Option Breach → Option Breach → Type 0
TellsElement type breaches result old new = (indexed_types result ≡ type) × (new ≡ least_from old breaches)

-- an assignment to a name, and one to an element
abbrev pub whole_told : Scopes → Option Reducing → Placed Text → AssignTree → ItemTree Text → List Breach
whole_told scopes forall x sign item =
    written_name x.at (lookup scopes x.name) ++ side_breaches scopes item
    ++ fitting_target sign (may_reduce_in forall (lookup scopes x.name)) (side_part scopes item) (type_declared (lookup scopes x.name))
    ++ promoted_breaches scopes (Whole x) item

abbrev pub element_told : Scopes → ElementNode → AssignTree → ItemTree Text → List Breach
element_told scopes e sign item =
    written_name e.name.at (lookup scopes e.name.text.now) ++ (exprs_breaches scopes (exprs_view e.exprs) ++ broken_by (element_verdict scopes e))
    ++ side_breaches scopes item ++ fitting_target sign false (side_part scopes item) (type_by (element_verdict scopes e))

-- the first of a breach that was told before and an assignment's, in a task or not
abbrev pub AssignmentTold : Scopes → Option Reducing → AssignmentNode → Option Breach → Option Breach → Type 0
AssignmentTold scopes forall a old new =
    (in_task : Bool) → new ≡ least_from old (assignment_breaches (within scopes forall in_task) (target_view a.target) (sign_view a.sign) (item_view a.value)
    ++ promoted_breaches scopes (target_view a.target) (item_view a.value))

-- what an assignment does
abbrev pub assigned_deeds : Scopes → TargetTree Text → AssignmentNode → List Deed
assigned_deeds scopes target a = stmt_deeds scopes (Assigned target (sign_view a.sign) (item_view a.value) a.semicolon)
