-- What a place of a program has in sight: a list of scopes, the innermost first, each with its declarations.
-- A name stands for its innermost declaration, from that declaration's end to the end of its scope.
use Rattle.std.specs.Prelude.{ℕ, nat_le, Bool, true, false, ◌&&◌, bytes_eq, if◌then◌else◌, List, [], ◌∷◌, length, option_and_then, Option, Some, None, is_some}
use Rattle.std.specs.Option.{option_or}
use Rattle.dpl_language.specs.Tree.{Op}
use Rattle.dpl_language.specs.Names.{Text}
use Rattle.dpl_rules.specs.Types.{Origin, ValueType}

-- how a name is declared: by `config const`, by `const`, by `var`, or as a loop's variable
pub data Sort : Type 0 where
  Configured : Sort
  Constant : Sort
  Variable : Sort
  LoopVariable : Sort

-- a declaration: its name and depth, its sort, and its type, if it has one
pub record Declared : Type 0 where
  pub origin : Origin
  pub sort : Sort
  pub type : Option ValueType

abbrev pub Scope : Type 0
Scope = List Declared

abbrev pub Scopes : Type 0
Scopes = List Scope

-- the declaration of a name in one scope, the latest where there are several
abbrev pub find : Scope → Text → Option Declared
find [] x = None
find (d ∷ ds) x = if bytes_eq x d.origin.name then Some d else find ds x

-- the innermost declaration of a name
abbrev pub lookup : Scopes → Text → Option Declared
lookup [] x = None
lookup (s ∷ ss) x = option_or (find s x) (lookup ss x)

-- a name that is declared in the innermost scope already
abbrev pub declared_here : Scopes → Text → Bool
declared_here [] x = false
declared_here (s ∷ ss) x = is_some (find s x)

-- one more scope, and one more name in the innermost
abbrev pub enter : Scopes → Scopes
enter ss = [] ∷ ss

abbrev pub add : Declared → Scopes → Scopes
add d [] = (d ∷ []) ∷ []
add d (s ∷ ss) = (d ∷ s) ∷ ss

-- the name, declared in the innermost scope
abbrev pub origin_in : Scopes → Text → Origin
origin_in ss x = record { name = x; depth = length ss }

-- a declaration that stands outside whatever was entered when so many scopes were open
abbrev pub is_outside : ℕ → Declared → Bool
is_outside depth d = nat_le d.origin.depth depth

-- constants are not written; a loop's variable is one
abbrev pub is_constant : Sort → Bool
is_constant Variable = false
is_constant _ = true

-- the type that a name has, if it is known and has one
abbrev pub type_declared : Option Declared → Option ValueType
type_declared d = option_and_then {T = Declared} {U = ValueType} (λ d. d.type) d

-- the reduce variables of a forall and their operators, and how many scopes are open around it
pub record Reducing : Type 0 where
  pub depth : ℕ
  pub variables : List (Text × Op)

-- a list of intents names the name
abbrev pub reduces : List (Text × Op) → Text → Bool
reduces [] x = false
reduces (v ∷ vs) x = if bytes_eq x v.0 then true else reduces vs x

-- a declaration that is a reduce variable of a forall
abbrev pub is_reduced : Reducing → Declared → Bool
is_reduced r d = is_outside r.depth d && reduces r.variables d.origin.name

-- What a statement has in sight: the scopes; the reduce variables of the innermost forall around, if there is one;
-- and whether a task runs it.
pub record Sight : Type 0 where
  pub scopes : Scopes
  pub forall : Option Reducing
  pub in_task : Bool

abbrev pub inside : Sight → Scopes → Sight
inside sight ss = record sight { scopes = ss }
