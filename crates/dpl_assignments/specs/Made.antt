-- What is made of an assignment: the tree of each form of a step, by what is assigned and what it is given.
-- A name that is no array's is given what is evaluated once, and each element of an array what is evaluated at its index.
use Rattle.std.specs.Prelude.{◌≡◌, ℕ, ◌||◌, false, Option, Some, None}
use Rattle.std.specs.Borrow.{Bor}
use Rattle.dpl_syntax.specs.declared.place.Place.{Place}
use Rattle.dpl_syntax.specs.declared.refusal.Breach.{Breach}
use Rattle.dpl_language.specs.Tree.{Placed, Assign, Set, Kind, IntKind, BoolKind, ExprTree, Exprs, ItemTree, One, TargetTree, Whole, Element, Square, StmtTree, Assigned}
use Rattle.dpl_language.specs.Arithmetic.{assign_divides}
use Rattle.dpl_language.specs.Names.{Text}
use Rattle.dpl_tree.specs.declared.statement.Element.{Element as ElementNode}
use Rattle.dpl_tree.specs.declared.statement.Assignment.{Assignment}
use Rattle.dpl_tree.specs.Statements.{sign_view}
use Rattle.dpl_tree.specs.View.{exprs_view, item_view}
use Rattle.dpl_rules.specs.Types.{Over, fits_array}
use Rattle.dpl_rules.specs.Sights.{Scopes}
use Rattle.dpl_lowered.specs.Known.{may_be_array, may_be_whole}
use Rattle.dpl_lowered.specs.Shapes.{nowhere, kept, placed}
use Rattle.dpl_lowered.specs.LoweredExpressions.{Times, EachTurn}
use Rattle.dpl_lowered.specs.LoweredStatements.{times_by}
use Rattle.dpl_memory.specs.Memory.{VariableKind, DomainKind, Variable, variable, known_kind}
use Rattle.dpl_nodes.specs.declared.step.ArrayName.{ArrayName}
use Rattle.dpl_nodes.specs.declared.tree.DomainExpr.{DomainExpr}
use Rattle.dpl_nodes.specs.declared.tree.PromotedInt.{PromotedInt}
use Rattle.dpl_nodes.specs.declared.tree.PromotedTruth.{PromotedTruth}
use Rattle.dpl_nodes.specs.Typed.{array_named, promoted_int, promoted_truth, index_exprs, domain_view}
use Rattle.dpl_nodes.specs.Spots.{IsNear}
use Rattle.dpl_nodes.specs.declared.step.Step.{Step}
use Rattle.dpl_nodes.specs.Steps.{placed_leaf, array_leaf, step_view}
use Rattle.dpl_typed.specs.declared.typed.Typed.{Typed}
use Rattle.dpl_typed.specs.Leaves.{leaf_in}
use Rattle.dpl_typed.specs.Lowered.{exprs_leaves}
use Rattle.dpl_typed.specs.Typed.{type_of_typed, typed_item}
use Rattle.dpl_bound.specs.Bounds.{with_arrays}
use Rattle.dpl_bound.specs.Run.{stmt_leaves}
use Rattle.dpl_assignments.specs.Plain.{IsPlain}
use Rattle.dpl_assignments.specs.declared.element.Indexed.{Indexed}

-- a step stands for an assignment of a form that runs, where nothing was told
abbrev pub MakesAssigned : Scopes → TargetTree Text → Assignment → Option Breach → Step → Type 0
MakesAssigned ss target written told step =
    told ≡ None → IsPlain ss target (sign_view written.sign) (item_view written.value)
    → stmt_leaves ss (Assigned target (sign_view written.sign) (item_view written.value) written.semicolon) ≡ step_view step

-- an assignment to a name, by its kind and its slot, with its place where a fault tells it, and with the arrays that change with it
abbrev pub given_to : Scopes → Place → VariableKind → ℕ → Assign → Place → (Times → ItemTree Variable) → StmtTree Variable
given_to ss at k slot op sign f =
    Assigned (Whole (placed (may_be_whole (known_kind k)) (record { at = at; name = with_arrays ss (variable k slot) })))
    (record { at = kept (may_be_array (known_kind k) || assign_divides op) sign; op = op; last = nowhere })
    (f (times_by (may_be_array (known_kind k)))) nowhere

-- a step that gives a domain to the name of a slot; the operator's place is told by no fault
abbrev pub SetsDomain : Scopes → Place → ℕ → DomainExpr → Step → Type 0
SetsDomain ss at slot e step =
    (sign : Place) → IsNear at → step_view step ≡ given_to ss at DomainKind slot Set sign (λ m. One (domain_view e))

-- one to a whole array, with its operator's place, and one to an element, with that place where a fault tells it
abbrev pub whole_changed : Placed Variable → Assign → Place → ItemTree Variable → StmtTree Variable
whole_changed x op at item = Assigned (Whole x) (record { at = at; op = op; last = nowhere }) item nowhere

abbrev pub element_changed : Placed Variable → Exprs Variable → Assign → Place → ItemTree Variable → StmtTree Variable
element_changed x es op at item =
    Assigned (Element x Square nowhere es nowhere) (record { at = kept (assign_divides op) at; op = op; last = nowhere }) item nowhere

-- what each element of an array of ints, or of truth values, is given, if the array takes it
abbrev pub AreInts : Typed → Option (Bor PromotedInt) → Type 0
AreInts t None = (over : Over) → fits_array IntKind over (type_of_typed t) ≡ false
AreInts t (Some e) = One (promoted_int EachTurn e.now) ≡ typed_item EachTurn t

abbrev pub AreTruths : Typed → Option (Bor PromotedTruth) → Type 0
AreTruths t None = (over : Over) → fits_array BoolKind over (type_of_typed t) ≡ false
AreTruths t (Some e) = One (promoted_truth EachTurn e.now) ≡ typed_item EachTurn t

-- an element of an array by its name, at an index; and of what stands for an expression
abbrev pub IsAt : Kind → ArrayName → Exprs Variable → Indexed → Type 0
IsAt k name es x = (x.kind ≡ k) × (x.array.now ≡ name) × (index_exprs x.index.now ≡ es)

abbrev pub IsElement : (Times → ExprTree Variable) → Exprs Variable → Indexed → Type 0
IsElement f es x = (array_named x.kind x.array.now.slot x.array.now.at.now ≡ f EachTurn) × (index_exprs x.index.now ≡ es)

-- an element that is written, with its array's name where a fault tells it
pub record IsIndexed (ss : Scopes) (e : ElementNode) (x : Indexed) : Type 0 where
  pub name : array_leaf x.kind x.array.now ≡ placed_leaf e.name.at (leaf_in ss e.name.text.now)
  pub index : index_exprs x.index.now ≡ exprs_leaves ss (exprs_view e.exprs)

-- an assignment to it, as one of an array of a kind, and of its own
abbrev pub changed_as : Kind → Indexed → Assign → Place → ItemTree Variable → StmtTree Variable
changed_as k x op at item = element_changed (array_leaf k x.array.now) (index_exprs x.index.now) op at item

abbrev pub changed_at : Indexed → Assign → Place → ItemTree Variable → StmtTree Variable
changed_at x op at item = changed_as x.kind x op at item
