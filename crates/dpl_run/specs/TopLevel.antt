-- The names of a program's top level as they are in sight at its end, and of which kinds they are.
use Rattle.std.specs.Prelude.{◌≡◌, Option, Some, None}
use Rattle.dpl_language.specs.Names.{Text}
use Rattle.dpl_agreement.specs.Scopes.{PlainForm}
use Rattle.dpl_rules.specs.Sights.{Declared, Scopes, lookup}
use Rattle.dpl_memory.specs.Memory.{VariableKind}
use Rattle.dpl_memory.specs.Resolved.{Sighted, sighted}
use Rattle.dpl_typed.specs.Leaves.{kind_by}
use Rattle.dpl_bound.specs.Sights.{bound_in}
use Rattle.dpl_runnable.specs.Kinds.{IsDeclaredKind}

-- a name of the top level, as it is in sight; over which domain an array is makes no difference to what it holds
abbrev pub sighted_in : Scopes → Text → Sighted
sighted_in scopes x = sighted (bound_in scopes x) PlainForm

-- each name in sight is of a kind that a declaration gives: an int, a truth value, a range, a domain or an array
abbrev pub IsLeft : Option Declared → Type 0
IsLeft None = Unit {0}
IsLeft (Some d) = (k : VariableKind) × (kind_by d.type ≡ Some k) × IsDeclaredKind k

abbrev pub AreLeft : Scopes → Type 0
AreLeft scopes = (x : Text) → IsLeft (lookup scopes x)
