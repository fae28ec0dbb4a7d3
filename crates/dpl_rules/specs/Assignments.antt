-- The rules of assignments, of calls on cells, and of what is printed.
-- A right side that doesn't fit is told by its first token after `=` and `reduce=`, and by the operator after the others.
use Rattle.std.specs.Prelude.{Bool, true, false, ◌&&◌, ◌||◌, not, if◌then◌else◌, List, [], ◌∷◌, ◌++◌, Option, Some, None}
use Rattle.dpl_syntax.specs.declared.place.Place.{Place}
use Rattle.dpl_language.specs.Tree.{Placed, Kind, IntKind, Assign, Set, SetReduce, AssignTree, ExprTree, ItemTree, One, Exprs, TargetTree, Whole, Element, CallTree, ReadCall, ResetCall, WriteCall, ArgumentTree, TextArgument, ExprArgument}
use Rattle.dpl_language.specs.Names.{Text}
use Rattle.dpl_language.specs.Phrases.{bare_name}
use Rattle.dpl_rules.specs.Types.{ValueType, Scalar, Range, Domain, Array, Promoted, Tuple, Locale, AllLocales, Cell, same_kind, is_any_scalar, is_array, is_cell, has, is_locale, is_scalar, is_bool, is_domain_of, fits_array}
use Rattle.dpl_syntax.specs.declared.refusal.Code.TheVariants.{UnknownName, WrongType, ConstantWritten, CellMisused}
use Rattle.dpl_syntax.specs.declared.refusal.Breach.{Breach}
use Rattle.dpl_rules.specs.Verdicts.{Part, part, Verdict, type_by, broken_by, breach, owed, owed_type, wanted, where_given, with_type}
use Rattle.dpl_rules.specs.Places.{first_of}
use Rattle.dpl_rules.specs.Sights.{Declared, lookup, type_declared, is_constant, Reducing, is_reduced, Sight}
use Rattle.dpl_rules.specs.Operators.{round_verdict}
use Rattle.dpl_rules.specs.Expressions.{name_verdict, type_of, expr_parts, expr_breaches, exprs_breaches, side_part, side_breaches, cell_declared}

-- ---- the name that is written: it is known (C1), no constant (C4) and no cell (C12)
abbrev pub written_name : Place → Option Declared → List Breach
written_name at None = breach at UnknownName
written_name at (Some d) = owed (not (is_constant d.sort)) at ConstantWritten ++ owed (not (has is_cell d.type)) at CellMisused

-- ---- `=`
-- A range and a tuple name take no assignment; a domain takes domains of its rank, strided ones only where it is;
-- an array takes for each element what it can be given; a cell is C12 already.
abbrev pub set_breaches : Place → Part → ValueType → List Breach
set_breaches at side (Scalar k) = wanted (is_scalar k) side
set_breaches at side (Range strided) = breach at WrongType
set_breaches at side (Domain rank strided) = wanted (is_domain_of rank strided) side
set_breaches at side (Array k over) = wanted (fits_array k over) side
set_breaches at side (Tuple rank) = breach at WrongType
set_breaches at side Locale = wanted is_locale side
set_breaches at side _ = []

-- ---- `+= -= *= /= %=`: ints, or an array of ints and what each of its elements can be given
abbrev pub change_breaches : Place → Part → ValueType → List Breach
change_breaches at side (Scalar k) = owed_type (λ t. same_kind IntKind k && is_scalar k t) at side.type
change_breaches at side (Array k over) = owed_type (λ t. same_kind IntKind k && fits_array k over t) at side.type
change_breaches at side (Promoted k over) = []
change_breaches at side AllLocales = []
change_breaches at side (Cell k) = []
change_breaches at side _ = breach at WrongType

-- ---- an assignment to a target of some type; `reduce=` where it may stand gives a value of the variable's kind
abbrev pub fitting : AssignTree → Assign → Bool → Part → ValueType → List Breach
fitting sign Set may_reduce side t = set_breaches sign.at side t
fitting sign SetReduce may_reduce side t = if may_reduce then set_breaches sign.at side t else breach sign.at WrongType
fitting sign _ may_reduce side t = change_breaches sign.at side t

abbrev pub fitting_target : AssignTree → Bool → Part → Option ValueType → List Breach
fitting_target sign may_reduce side t = where_given t (λ t. fitting sign sign.op may_reduce side t)

-- `reduce=` stands only behind the bare name of a reduce variable of the forall around it
abbrev pub may_reduce_in : Option Reducing → Option Declared → Bool
may_reduce_in (Some r) (Some d) = is_reduced r d
may_reduce_in _ _ = false

-- ---- what `write` prints: texts, ints, bools, array names and, outside tasks, cell reads
-- a bare name may be an array
abbrev pub is_printed : Option (Placed Text) → ValueType → Bool
is_printed None t = is_any_scalar t
is_printed (Some x) t = is_any_scalar t || is_array t

-- ---- A cell's call: the name is a cell, which may be declared by `const`, and what is written is of its kind.
abbrev pub called_name : Place → Place → Option Declared → List Breach
called_name at word None = breach at UnknownName
called_name at word (Some d) = owed_type is_cell word d.type

abbrev pub call_word : CallTree Text → Place
call_word (ReadCall at w from upto) = at
call_word (ResetCall at from upto) = at
call_word (WriteCall at w from e upto) = at

module _ (sight : Sight) where
  -- an element that is written: only an array has some, and a cell is C12 already
  abbrev pub element_of : Placed Text → Place → Exprs Text → Verdict
  element_of x from es =
      with_type (type_by (name_verdict x.at (lookup sight.scopes x.name))) (round_verdict x.at from (expr_parts sight.scopes es))

  abbrev pub assignment_breaches : TargetTree Text → AssignTree → ItemTree Text → List Breach
  assignment_breaches (Whole x) sign item =
      written_name x.at (lookup sight.scopes x.name) ++ side_breaches sight.scopes item
      ++ fitting_target sign (may_reduce_in sight.forall (lookup sight.scopes x.name)) (side_part sight.scopes item)
      (type_declared (lookup sight.scopes x.name))
  assignment_breaches (Element x shape from es upto) sign item =
      written_name x.at (lookup sight.scopes x.name) ++ exprs_breaches sight.scopes es ++ broken_by (element_of x from es)
      ++ side_breaches sight.scopes item
      ++ fitting_target sign false (side_part sight.scopes item) (type_by (element_of x from es))

  abbrev pub call_argument : Option Kind → CallTree Text → List Breach
  call_argument k (WriteCall at w from e upto) =
      expr_breaches sight.scopes e ++ where_given k (λ k. owed_type (is_scalar k) (first_of e) (type_of sight.scopes e))
  call_argument k _ = []

  abbrev pub call_breaches : Placed Text → CallTree Text → List Breach
  call_breaches x call =
      called_name x.at (call_word call) (lookup sight.scopes x.name)
      ++ call_argument (cell_declared (type_declared (lookup sight.scopes x.name))) call

  -- in a task a cell read is no argument of `write`, and is C12 as in any expression
  abbrev pub argument_part : Bool → ExprTree Text → Part
  argument_part true e = part (first_of e) (type_of sight.scopes e)
  argument_part false e = side_part sight.scopes (One e)

  abbrev pub argument_of : Bool → ExprTree Text → List Breach
  argument_of true e = expr_breaches sight.scopes e
  argument_of false e = side_breaches sight.scopes (One e)

  abbrev pub printed_breaches : List (ArgumentTree Text) → List Breach
  printed_breaches [] = []
  printed_breaches (TextArgument at cs ∷ rest) = printed_breaches rest
  printed_breaches (ExprArgument e ∷ rest) =
      argument_of sight.in_task e ++ wanted (is_printed (bare_name e)) (argument_part sight.in_task e) ++ printed_breaches rest

  -- a condition is a bool, and `on` takes a locale
  abbrev pub condition_breaches : ExprTree Text → List Breach
  condition_breaches e = expr_breaches sight.scopes e ++ owed_type is_bool (first_of e) (type_of sight.scopes e)

  abbrev pub on_breaches : ExprTree Text → List Breach
  on_breaches e = expr_breaches sight.scopes e ++ owed_type is_locale (first_of e) (type_of sight.scopes e)
