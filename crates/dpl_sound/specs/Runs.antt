-- What a run by names leaves, and which replies a task is owed: what soundness says of right sides and declarations.
use Rattle.std.specs.Prelude.{◌≡◌, List, [], ◌∷◌, Option, Some, None}
use Rattle.dpl_history.specs.declared.cell.CellOp.{CellOp}
use Rattle.dpl_history.specs.declared.cell.Reply.{Reply}
use Rattle.dpl_history.specs.Cells.{IsReplyTo}
use Rattle.dpl_language.specs.Tree.{ItemTree, InitTree, ItemInit, CreateInit, InitialTree}
use Rattle.dpl_language.specs.Values.{Value}
use Rattle.dpl_language.specs.Names.{Text, State, by_name}
use Rattle.dpl_language.specs.Outcome.{Outcome, Done, Stop, Waits}
use Rattle.dpl_language.specs.Phrases.{ReadTree, item_read}
use Rattle.dpl_rules.specs.Types.{ValueType}
use Rattle.dpl_rules.specs.Sights.{Declared, Scopes}
use Rattle.dpl_rules.specs.Declarations.{init_part}
use Rattle.dpl_sound.specs.Typed.{HasType}
use Rattle.dpl_sound.specs.Stores.{StoreFits}

-- the store of a state has what the scopes declare
abbrev pub Keeps : Scopes → State → Type 0
Keeps scopes s = StoreFits scopes s.store

-- where a run is done, something holds of the state that it leaves
abbrev pub Leaves : (State → Type 0) → Outcome State → Type 0
Leaves P (Done s done) = P s
Leaves P (Stop f done) = Unit {0}
Leaves P (Waits at c op done) = Unit {0}

-- in a task the next reply is one to the operation
abbrev pub NextIsTo : CellOp → Option (List Reply) → Type 0
NextIsTo op None = Unit {0}
NextIsTo op (Some []) = Unit {0}
NextIsTo op (Some (r ∷ rs)) = IsReplyTo op r

-- where a right side is a cell read, the next reply is one to it
abbrev pub IsReplied : ItemTree Text → State → Type 0
IsReplied item s = (r : ReadTree Text) → item_read item ≡ Some r → NextIsTo r.op s.replies

-- ---- what a declaration rests on, beside its form
abbrev pub InitReplied : InitTree Text → State → Type 0
InitReplied (ItemInit item mapped) s = IsReplied item s
InitReplied (CreateInit c) s = Unit {0}

abbrev pub InitialReplied : Option (InitialTree Text) → State → Type 0
InitialReplied None s = Unit {0}
InitialReplied (Some i) s = InitReplied i.init s

-- An initial value has a type. In a sound program each has; where a name's declaration is refused, what is made of
-- that name has no type and is not told, so `var x: int = y;` gives x whatever y is.
abbrev pub InitialTyped : Scopes → Option (InitialTree Text) → Type 0
InitialTyped scopes None = Unit {0}
InitialTyped scopes (Some i) = (t : ValueType) × ((init_part scopes i.init).type ≡ Some t)

-- the command line gives a name a value of its type
abbrev pub GivenFits : Declared → State → Type 0
GivenFits d s = (t : ValueType) (v : Value) → d.type ≡ Some t → by_name.given d.origin.name s ≡ Some v → HasType v t
