-- Operands of operators, by the type that stands for each and the tree that it is.
-- A whole array's elements stand for the array: an operator makes no difference between the two.
use Rattle.std.specs.Prelude.{◌≡◌, Option, Some, None}
use Rattle.dpl_language.specs.Tree.{IntKind, BoolKind, ExprTree}
use Rattle.dpl_lowered.specs.LoweredExpressions.{Times}
use Rattle.dpl_memory.specs.Memory.{Variable}
use Rattle.dpl_nodes.specs.Typed.{int_view, truth_view, promoted_int, promoted_truth}
use Rattle.dpl_rules.specs.Types.{ValueType, Scalar, Promoted, operand_of, is_bool}
use Rattle.dpl_scopes.specs.Types.{over_view}
use Rattle.dpl_typed.specs.declared.typed.Typed.{Typed}
use Rattle.dpl_typed.specs.Typed.{type_of_typed, typed_view}
use Rattle.dpl_operators.specs.declared.operand.Operand.{Operand}
use Rattle.dpl_operators.specs.declared.operand.Operand.TheVariants as operand

abbrev pub operand_type : Operand → ValueType
operand_type (operand.Int e) = Scalar IntKind
operand_type (operand.Truth e) = Scalar BoolKind
operand_type (operand.Ints over e) = Promoted IntKind (over_view over)
operand_type (operand.Truths over e) = Promoted BoolKind (over_view over)

abbrev pub operand_tree : Times → Operand → ExprTree Variable
operand_tree m (operand.Int e) = int_view e.now
operand_tree m (operand.Truth e) = truth_view e.now
operand_tree m (operand.Ints over e) = promoted_int m e.now
operand_tree m (operand.Truths over e) = promoted_truth m e.now

-- an operator sees the same in two types
abbrev pub AreAlike : ValueType → ValueType → Type 0
AreAlike t u = (operand_of t ≡ operand_of u) × (is_bool t ≡ is_bool u)

-- what an operator sees of a typed expression: nothing, where its type is none of an operand
abbrev pub IsOperandOf : Typed → Option Operand → Type 0
IsOperandOf t None = operand_of (type_of_typed t) ≡ None
IsOperandOf t (Some o) = AreAlike (type_of_typed t) (operand_type o) × ((m : Times) → operand_tree m o ≡ typed_view m t)
