-- What is done to a whole array, by its parts: it is declared over a domain, and it is assigned.
-- The place is the one of the sign, and the expression is promoted where it has a whole array.
use Rattle.std.specs.Prelude.{None, Option, List}
use Rattle.dpl_syntax.specs.declared.place.Place.{Place}
use Rattle.dpl_sets.specs.TextRanges.{TextRange}
use Rattle.dpl_language.specs.Tree.{Placed, Kind, Assign, ExprTree, One}
use Rattle.dpl_language.specs.Outcome.{Run}
use Rattle.dpl_language.specs.Environment.{Limits}
use Rattle.dpl_language.specs.Phrases.{declared_over}
use Rattle.dpl_language.specs.Expressions.{whole_in}
use Rattle.dpl_language.specs.Assignments.{assign_array}
use Rattle.dpl_language.specs.Declarations.{Shell, array_of, array_of_item}
use Rattle.dpl_memory.specs.Memory.{ArrayKind, Variable, variable, Memory, in_memory}
use Rattle.dpl_nodes.specs.declared.step.DeclaredOver.{DeclaredOver}
use Rattle.dpl_nodes.specs.declared.step.ArrayDeclaration.{ArrayDeclaration}
use Rattle.dpl_nodes.specs.declared.step.ArrayName.{ArrayName}
use Rattle.dpl_nodes.specs.Steps.{placed_leaf, array_leaf, over_items}
use Rattle.dpl_elements.specs.Changes.{signed}

-- an array that is declared, but for its elements
abbrev pub shell_over : DeclaredOver → Kind → List TextRange → Shell Variable
shell_over over kind rs = record { over = declared_over (over_items over); kind = kind; ranges = rs }

abbrev pub array_declared_as : Kind → ArrayDeclaration → Placed Variable
array_declared_as k d = placed_leaf d.at.now (variable (ArrayKind k) d.slot)

module _ (limits : Limits) where
  -- declared over a domain, without an initial value and with one
  abbrev pub declared_without : ArrayDeclaration → Kind → List TextRange → Run Memory
  declared_without d k rs = array_of limits in_memory (array_declared_as k d) (shell_over d.over k rs) None

  abbrev pub declared_with : ArrayDeclaration → Kind → List TextRange → Place → ExprTree Variable → Run Memory
  declared_with d k rs at e s =
      array_of_item limits in_memory (array_declared_as k d) (shell_over d.over k rs) at (One e) (whole_in limits in_memory e s) s

  -- assigned: an array in the expression tells that it is promoted
  abbrev pub array_set : Kind → ArrayName → Assign → Place → ExprTree Variable → List TextRange → Option (List TextRange) → Run Memory
  array_set k x op at e = assign_array limits in_memory (array_leaf k x) (signed op at) (One e)
