-- What the check has in sight as names that are resolved: each declaration with its slot, the kind and the shape of its type,
-- and of an array the domain that it is over. The scopes of the check have the latest declaration first, and a frame has them in order.
use Rattle.std.specs.Prelude.{◌≡◌, ℕ, suc, ◌+◌, Bool, true, false, if◌then◌else◌, List, [], ◌∷◌, ◌++◌, length, Option, Some, None}
use Rattle.dpl_language.specs.Names.{Text}
use Rattle.dpl_agreement.specs.Scopes.{PlainForm}
use Rattle.dpl_rules.specs.Types.{Origin, ValueType, Scalar, Range, Domain, Array, Promoted, Tuple, Locale, AllLocales, Cell, same_origin}
use Rattle.dpl_rules.specs.Sights.{Declared, Scope, Scopes, find}
use Rattle.dpl_scopes.specs.Slots.{count_in}
use Rattle.dpl_memory.specs.Memory.{VariableKind}
use Rattle.dpl_memory.specs.Resolved.{Bound, Sighted, Sight, sighted}
use Rattle.dpl_typed.specs.Leaves.{kind_by, leaf_by, leaf_in}
use Rattle.dpl_bound.specs.Shapes.{shape_by, shape_in}

-- a name, resolved
abbrev pub bound_in : Scopes → Text → Bound
bound_in scopes x = record { text = x; variable = leaf_in scopes x; shape = shape_in scopes x }

abbrev pub bound_at : Declared → ℕ → Bound
bound_at d slot = record { text = d.origin.name; variable = leaf_by (kind_by d.type) (Some slot); shape = shape_by d.type }

-- The domain that an array is over by its bare name, as its type tells it; one that is over anything else is its own base.
-- Of a declaration there stand the scopes before it.
abbrev pub over_by : Scopes → Origin → Option ValueType → Option Bound
over_by before self None = None
over_by before self (Some (Scalar k)) = None
over_by before self (Some (Range strided)) = None
over_by before self (Some (Domain rank strided)) = None
over_by before self (Some (Array k over)) = if same_origin over.base self then None else Some (bound_in before over.base.name)
over_by before self (Some (Promoted k over)) = None
over_by before self (Some (Tuple rank)) = None
over_by before self (Some Locale) = None
over_by before self (Some AllLocales) = None
over_by before self (Some (Cell k)) = None

abbrev pub sighted_at : Scopes → Declared → ℕ → Sighted
sighted_at before d slot = record (sighted (bound_at d slot) PlainForm) { over = over_by before d.origin d.type }

-- the declarations of a scope, of which the first has this slot; outside it stand these scopes
abbrev pub frame_from : ℕ → Scopes → Scope → List Sighted
frame_from begin outside [] = []
frame_from begin outside (d ∷ ds) = frame_from begin outside ds ++ sighted_at (ds ∷ outside) d (length ds + begin) ∷ []

abbrev pub sight_of : Scopes → Sight
sight_of [] = []
sight_of (s ∷ ss) = frame_from (suc (count_in ss)) ss s ∷ sight_of ss

-- no name is of the type of promoted expressions
abbrev pub is_promoted_type : ValueType → Bool
is_promoted_type (Scalar k) = false
is_promoted_type (Range strided) = false
is_promoted_type (Domain rank strided) = false
is_promoted_type (Array k over) = false
is_promoted_type (Promoted k over) = true
is_promoted_type (Tuple rank) = false
is_promoted_type Locale = false
is_promoted_type AllLocales = false
is_promoted_type (Cell k) = false

abbrev pub is_promoted_by : Option ValueType → Bool
is_promoted_by None = false
is_promoted_by (Some t) = is_promoted_type t

-- Each declaration is of a variable's type, which has a kind, and stands as deep as its scope; and no scope declares a name twice.
abbrev pub IsKnownScope : ℕ → Scope → Type 0
IsKnownScope depth [] = Unit {0}
IsKnownScope depth (d ∷ ds) =
    ((k : VariableKind) × (kind_by d.type ≡ Some k) × (d.origin.depth ≡ depth) × (is_promoted_by d.type ≡ false)) × (find ds d.origin.name ≡ None) × IsKnownScope depth ds

abbrev pub AreKnownScopes : Scopes → Type 0
AreKnownScopes [] = Unit {0}
AreKnownScopes (s ∷ ss) = IsKnownScope (suc (length ss)) s × AreKnownScopes ss
