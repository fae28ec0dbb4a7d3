-- What is made of arguments: what is shown of what was found, and what each stands for.
-- An array is shown as a whole, by its name.
use Rattle.std.specs.Prelude.{◌≡◌, List, [], ◌∷◌, ◌++◌, Option, Some, None}
use Rattle.dpl_language.specs.Names.{Text}
use Rattle.dpl_language.specs.Tree.{ArgumentTree}
use Rattle.dpl_agreement.specs.Renamed.{renamed_argument}
use Rattle.dpl_rules.specs.Sights.{Scopes}
use Rattle.dpl_lowered.specs.LoweredStatements.{lowered_argument}
use Rattle.dpl_memory.specs.Memory.{Variable, known_variable}
use Rattle.dpl_memory.specs.Resolved.{variable_of}
use Rattle.dpl_nodes.specs.declared.step.Argument.{Argument}
use Rattle.dpl_nodes.specs.declared.step.Argument.TheVariants as node
use Rattle.dpl_nodes.specs.Steps.{argument_view}
use Rattle.dpl_typed.specs.declared.typed.Typed.{Typed}
use Rattle.dpl_typed.specs.declared.typed.Typed.TheVariants as typed
use Rattle.dpl_bound.specs.Sights.{bound_in}

abbrev pub typed_shown : Typed → Option Argument
typed_shown (typed.Int e) = Some (node.Int e)
typed_shown (typed.Truth e) = Some (node.Truth e)
typed_shown (typed.Range strided e) = None
typed_shown (typed.Domain rank strided e) = None
typed_shown (typed.Array k over slot at) = Some (node.Array k slot)
typed_shown (typed.Ints over e) = None
typed_shown (typed.Truths over e) = None
typed_shown (typed.Tuple rank slot) = None
typed_shown typed.Locale = None
typed_shown typed.AllLocales = None
typed_shown (typed.Cell k) = None

abbrev pub shown_of : Option Typed → Option Argument
shown_of None = None
shown_of (Some t) = typed_shown t

-- over leaves, and lowered
abbrev pub argument_leaves : Scopes → ArgumentTree Text → ArgumentTree Variable
argument_leaves ss a = lowered_argument known_variable (renamed_argument variable_of (renamed_argument (bound_in ss) a))

abbrev pub IsArgumentAs : Scopes → ArgumentTree Text → Option Argument → Type 0
IsArgumentAs ss a None = ⊥
IsArgumentAs ss a (Some b) = argument_leaves ss a ≡ argument_view b

abbrev pub AreArgumentsAs : Scopes → List (ArgumentTree Text) → List Argument → Type 0
AreArgumentsAs ss [] [] = Unit {0}
AreArgumentsAs ss [] (b ∷ bs) = ⊥
AreArgumentsAs ss (a ∷ rest) [] = ⊥
AreArgumentsAs ss (a ∷ rest) (b ∷ bs) = (argument_leaves ss a ≡ argument_view b) × AreArgumentsAs ss rest bs

-- one, if it is there
abbrev pub listed : Option Argument → List Argument
listed None = []
listed (Some b) = b ∷ []

-- arguments, behind those that were there
pub record AreBehind (ss : Scopes) (before : List Argument) (args : List (ArgumentTree Text)) (all : List Argument) : Type 0 where
  pub more : List Argument
  pub same : all ≡ before ++ more
  pub made : AreArgumentsAs ss args more

-- the same of those so far: with what is made of those that are left, it is what is made of all
pub record AreSoFar (ss : Scopes) (before : List Argument) (args left : List (ArgumentTree Text)) (all : List Argument) : Type 0 where
  pub more : List Argument
  pub same : all ≡ before ++ more
  pub made : (rest : List Argument) → AreArgumentsAs ss left rest → AreArgumentsAs ss args (more ++ rest)
