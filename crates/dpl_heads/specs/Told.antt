-- What heads of statements owe, part by part.
-- Each is a part of a rule of dpl_rules.
use Rattle.std.specs.Prelude.{◌≡◌, Bool, List, ◌++◌, Option}
use Rattle.dpl_syntax.specs.declared.refusal.Breach.{Breach}
use Rattle.dpl_language.specs.Tree.{ExprTree, ItemTree, VariablesTree, LoopWord, ForWord, ForallWord, CoforallWord}
use Rattle.dpl_language.specs.Names.{Text}
use Rattle.dpl_rules.specs.Types.{ValueType}
use Rattle.dpl_rules.specs.Breaches.{least_from}
use Rattle.dpl_rules.specs.Verdicts.{owed_type}
use Rattle.dpl_rules.specs.Places.{first_of}
use Rattle.dpl_rules.specs.Sights.{Scopes, Reducing, Sight}
use Rattle.dpl_rules.specs.Expressions.{type_of, expr_breaches}
use Rattle.dpl_rules.specs.Loops.{over_type, over_breaches, header_of}
use Rattle.dpl_scopes.specs.Types.{of_type}
use Rattle.dpl_types.specs.declared.want.Want.{Want}
use Rattle.dpl_types.specs.Wants.{takes}
use Rattle.dpl_heads.specs.declared.head.LoopWord.{LoopWord as WordNode}
use Rattle.dpl_heads.specs.declared.head.LoopWord.TheVariants.{For, Forall, Coforall}
use Rattle.dpl_heads.specs.declared.head.LoopHead.{LoopHead}

-- what a statement has in sight
abbrev pub within : Scopes → Option Reducing → Bool → Sight
within scopes forall in_task = record { scopes = scopes; forall = forall; in_task = in_task }

-- an expression of a wanted type
abbrev pub wanted_told : Scopes → Want → ExprTree Text → List Breach
wanted_told scopes want e = expr_breaches scopes e ++ owed_type (takes want) (first_of e) (type_of scopes e)

abbrev pub word_view : WordNode → LoopWord
word_view For = ForWord
word_view Forall = ForallWord
word_view Coforall = CoforallWord

-- what a loop owes before its variables are declared
abbrev pub head_told : Scopes → LoopWord → VariablesTree Text → ItemTree Text → List Breach
head_told scopes word xs item = over_breaches scopes item ++ header_of word xs item (over_type scopes item)

-- the type of a loop's variables, and the first of a breach that was told before and these
abbrev pub TellsHead : Option ValueType → List Breach → LoopHead → Option Breach → Option Breach → Type 0
TellsHead type breaches h old new = (of_type h.variable_type ≡ type) × (new ≡ least_from old breaches)
