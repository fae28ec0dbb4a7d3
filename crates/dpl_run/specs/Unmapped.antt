-- A program without its maps, and variables that are kept without roots.
-- Laws speak of them: without maps and without roots a program does the same, and ends the same way (proofs/MapsForgotten.antt).
use Rattle.std.specs.Prelude.{◌≡◌, ℕ, Option, Some, None, List, [], option_map}
use Rattle.dpl_syntax.specs.declared.place.Place.{Place}
use Rattle.dpl_history.specs.declared.history.Event.{Event}
use Rattle.dpl_language.specs.Tree.{DomainLiteral, One, TypeTree, DomainType, ArrayType, InitTree, ItemInit, CreateInit, TypedTree, InitialTree, DeclareTree, StmtTree, Declare, Block, If, Headed, Loop, Body, WordBody, BlockBody, Stmts, NoStmts, Then, Else, NoElse, ElseDo, ProgramTree}
use Rattle.dpl_language.specs.Values.{Value}
use Rattle.dpl_language.specs.Outcome.{no_deeds, Outcome, Done, Stop, Waits}
use Rattle.dpl_language.specs.Environment.{Environment, Limits}
use Rattle.dpl_language.specs.Declarations.{type_of}
use Rattle.dpl_language.specs.Statements.{exec_all}
use Rattle.dpl_language.specs.Names.{Text, State, by_name}
use Rattle.dpl_language.specs.Program.{settled, first_state, written}
use Rattle.dpl_language.specs.Together.{Happened}
use Rattle.dpl_says.specs.Says.{Ending, ending_of}

module _ {N : Type 0} where
  -- MAPS. A domain's type without its `dmapped`
  abbrev pub unmapped_type : TypeTree N → TypeTree N
  unmapped_type (DomainType d) = DomainType (record d { mapped = None })
  unmapped_type type = type

  abbrev pub unmapped_typed : TypedTree N → TypedTree N
  unmapped_typed t = record t { type = unmapped_type t.type }

  -- an initial value without its `dmapped`; in the place of `blockDist.createDomain(X)` stands `{X}`
  abbrev pub unmapped_init : InitTree N → InitTree N
  unmapped_init (ItemInit item mapped) = ItemInit item None
  unmapped_init (CreateInit c) = ItemInit (One (DomainLiteral c.from c.items c.upto)) None

  abbrev pub unmapped_initial : InitialTree N → InitialTree N
  unmapped_initial i = record i { init = unmapped_init i.init }

  -- of an array a created domain is no initial value
  abbrev pub unmapped_elements : Place → InitTree N → Option (InitialTree N)
  unmapped_elements equals (ItemInit item mapped) = Some (record { equals = equals; init = ItemInit item None })
  unmapped_elements equals (CreateInit c) = None

  abbrev pub initial_by : Option (TypeTree N) → Option (InitialTree N) → Option (InitialTree N)
  initial_by type None = None
  initial_by (Some (ArrayType a)) (Some i) = unmapped_elements i.equals i.init
  initial_by type (Some i) = Some (unmapped_initial i)

  abbrev pub unmapped_declare : DeclareTree N → DeclareTree N
  unmapped_declare d = record d {
    typed = option_map {T = TypedTree N} {U = TypedTree N} unmapped_typed d.typed;
    initial = initial_by (type_of d.typed) d.initial;
  }

  -- all else stays as it is
  abbrev mutual
    pub unmapped_stmt : StmtTree N → StmtTree N
    unmapped_stmt (Declare d) = Declare (unmapped_declare d)
    unmapped_stmt (Block from body upto) = Block from (unmapped_stmts body) upto
    unmapped_stmt (If at e first second) = If at e (unmapped_body first) (unmapped_else second)
    unmapped_stmt (Headed word at e body) = Headed word at e (unmapped_body body)
    unmapped_stmt (Loop word at xs within item intents body) = Loop word at xs within item intents (unmapped_body body)
    unmapped_stmt t = t

    pub unmapped_body : Body N → Body N
    unmapped_body (WordBody at t) = WordBody at (unmapped_stmt t)
    unmapped_body (BlockBody from ts upto) = BlockBody from (unmapped_stmts ts) upto

    pub unmapped_stmts : Stmts N → Stmts N
    unmapped_stmts NoStmts = NoStmts
    unmapped_stmts (Then t rest) = Then (unmapped_stmt t) (unmapped_stmts rest)

    pub unmapped_else : Else N → Else N
    unmapped_else NoElse = NoElse
    unmapped_else (ElseDo at t) = ElseDo at (unmapped_stmt t)

  -- a program in which no map is named
  abbrev pub unmapped : ProgramTree N → ProgramTree N
  unmapped t = record t { stmts = unmapped_stmts t.stmts }

-- ROOTS. The language's own environment, in which no declaration gives a name a root
abbrev pub rootless : Environment Text State
rootless = record by_name { deal = λ x root s. s }

-- what a program means where variables are kept so; by their names it is its meaning
abbrev pub meaning_by : Environment Text State → ProgramTree Text → List (Text × Value) → Limits → List (List Event) → Outcome State
meaning_by env t sets limits histories = settled (exec_all limits env t.stmts (first_state sets histories) no_deeds)

-- a state but for its roots; and how a run ends, with all that it did, but for the roots of what it leaves
abbrev pub bare : State → State
bare s = record s { roots = [] }

abbrev pub unrooted : Outcome State → Outcome State
unrooted (Done s done) = Done (bare s) done
unrooted (Stop f done) = Stop f done
unrooted (Waits at c op done) = Waits at c op done

-- What `Means` says of a program's run, said of any run: it can happen, wrote just this, and ended so.
pub record Shows (o : Outcome State) (ending : Ending) (said : List ℕ) : Type 0 where
  pub happened : Happened o
  pub writes : said ≡ written o
  pub ends : ending_of o ≡ Some ending
