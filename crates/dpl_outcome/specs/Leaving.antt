-- The variables that a run leaves, as entries of a frame. Of an array there stand its domain and its elements.
use Rattle.dpl_language.specs.Values.{Int as IntMeant, Truth as TruthMeant, Range as RangeMeant, Domain as DomainMeant}
use Rattle.std.specs.Prelude.{ℕ, bytes_eq, if◌then◌else◌, List, [], ◌∷◌, map, get_or, Option, Some, None}
use Rattle.dpl_language.specs.Tree.{IntKind, BoolKind}
use Rattle.dpl_language.specs.Environment.{Content, Plain}
use Rattle.dpl_language.specs.Names.{Text, Entry, Frame}
use Rattle.dpl_rules.specs.Types.{ValueType, Scalar, Range as RangeType, Domain as DomainType, Array, Promoted, Tuple, Locale, AllLocales, Cell}
use Rattle.dpl_rules.specs.Sights.{Scopes}
use Rattle.dpl_scopes.specs.Slots.{slot_in}
use Rattle.dpl_contents.specs.Range.{range_word}
use Rattle.dpl_memory.specs.Memory.{DomainKind, ArrayKind, Variable, variable, int_leaf, truth_leaf, range_leaf, Held, Memory, no_array}
use Rattle.dpl_memory.specs.Resolved.{array_content, content_in}
use Rattle.dpl_typed.specs.Leaves.{type_in}
use Rattle.dpl_outcome.specs.declared.left.Value.{Value}
use Rattle.dpl_outcome.specs.declared.left.Value.TheVariants.{Int, Bool, Range, Domain, Ints, Bools}
use Rattle.dpl_outcome.specs.declared.left.Variable.{Variable as LeftVariable}
use Rattle.dpl_outcome.specs.declared.left.Kept.{Kept}
use Rattle.dpl_outcome.specs.declared.left.Kept.TheVariants as kept
use Rattle.dpl_outcome.specs.declared.left.Named.{Named}

-- what a name holds among those that are left, where it is one of them
abbrev pub in_frame : Text → Frame → Option (Content Text)
in_frame x [] = None
in_frame x (e ∷ es) = if bytes_eq x e.name then Some e.content else in_frame x es

-- what is handed out of a variable
abbrev pub value_view : Value → Content Text
value_view (Int n) = Plain (IntMeant n)
value_view (Bool b) = Plain (TruthMeant b)
value_view (Range r) = Plain (RangeMeant (range_word r))
value_view (Domain d) = Plain (DomainMeant d)
value_view (Ints a) = array_content None IntKind a.now
value_view (Bools a) = array_content None BoolKind a.now

abbrev pub variable_view : LeftVariable → Entry
variable_view v = record { name = v.name.now; content = value_view v.value }

-- what is kept of one: its value, or the slot of its array
abbrev pub content_kept : List Held → Kept → Content Text
content_kept arrays (kept.Int n) = Plain (IntMeant n)
content_kept arrays (kept.Bool b) = Plain (TruthMeant b)
content_kept arrays (kept.Range r) = Plain (RangeMeant (range_word r))
content_kept arrays (kept.Domain d) = Plain (DomainMeant d)
content_kept arrays (kept.Ints slot) = array_content None IntKind (get_or arrays slot no_array)
content_kept arrays (kept.Bools slot) = array_content None BoolKind (get_or arrays slot no_array)

abbrev pub entry_kept : List Held → Named → Entry
entry_kept arrays v = record { name = v.name.items; content = content_kept arrays v.kept }

-- what a variable holds in a memory
abbrev pub value_held : Variable → Memory → Content Text
value_held x s = content_in x.kind x.slot None s

-- what a slot has for a type; what is no variable's that a declaration gives, and what isn't in sight, counts as the int in the first one
abbrev pub held_as : ValueType → ℕ → Memory → Content Text
held_as (Scalar IntKind) slot s = value_held (int_leaf slot) s
held_as (Scalar BoolKind) slot s = value_held (truth_leaf slot) s
held_as (RangeType strided) slot s = value_held (range_leaf slot) s
held_as (DomainType rank strided) slot s = value_held (variable DomainKind slot) s
held_as (Array k over) slot s = value_held (variable (ArrayKind k) slot) s
held_as (Promoted k over) slot s = value_held (int_leaf 0) s
held_as (Tuple rank) slot s = value_held (int_leaf 0) s
held_as Locale slot s = value_held (int_leaf 0) s
held_as AllLocales slot s = value_held (int_leaf 0) s
held_as (Cell k) slot s = value_held (int_leaf 0) s

abbrev pub held_by : Option ValueType → Option ℕ → Memory → Content Text
held_by None slot s = value_held (int_leaf 0) s
held_by (Some t) None s = value_held (int_leaf 0) s
held_by (Some t) (Some slot) s = held_as t slot s

-- names with what their slots have for their types
abbrev pub held_entry : Scopes → Memory → Text → Entry
held_entry scopes s x = record { name = x; content = held_by (type_in scopes x) (slot_in scopes x) s }

abbrev pub held_frame : Scopes → Memory → List Text → Frame
held_frame scopes s xs = map {A = Text} {B = Entry} (held_entry scopes s) xs
