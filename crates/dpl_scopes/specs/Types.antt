-- The types that those in memory stand for.
-- A declaration's name is its text.
use Rattle.std.specs.Prelude.{Option, option_map}
use Rattle.dpl_language.specs.Tree.{Kind}
use Rattle.dpl_rules.specs.Types.{Origin, Over, ValueType, Scalar, Range, Domain, Array, Promoted, Tuple, Locale, AllLocales, Cell, Operand}
use Rattle.dpl_scopes.specs.declared.value_type.Origin.{Origin as OriginNode}
use Rattle.dpl_scopes.specs.declared.value_type.Over.{Over as OverNode}
use Rattle.dpl_scopes.specs.declared.value_type.ValueType.{ValueType as TypeNode}
use Rattle.dpl_scopes.specs.declared.value_type.ValueType.TheVariants as node
use Rattle.dpl_scopes.specs.declared.value_type.Operand.{Operand as OperandNode}

abbrev pub origin_view : OriginNode → Origin
origin_view o = record { name = o.name.now; depth = o.depth }

abbrev pub over_view : OverNode → Over
over_view o = record { rank = o.rank; strided = o.strided; base = origin_view o.base }

abbrev pub array_view : Kind × OverNode → Kind × Over
array_view a = (a.0, over_view a.1)

abbrev pub type_view : TypeNode → ValueType
type_view (node.Scalar k) = Scalar k
type_view (node.Range strided) = Range strided
type_view (node.Domain rank strided) = Domain rank strided
type_view (node.Array k over) = Array k (over_view over)
type_view (node.Promoted k over) = Promoted k (over_view over)
type_view (node.Tuple rank) = Tuple rank
type_view node.Locale = Locale
type_view node.AllLocales = AllLocales
type_view (node.Cell k) = Cell k

abbrev pub operand_view : OperandNode → Operand
operand_view o = record { kind = o.kind; over = option_map over_view o.over }

abbrev pub of_type : Option TypeNode → Option ValueType
of_type t = option_map type_view t
