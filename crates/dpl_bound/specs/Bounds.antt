-- A program with its names resolved by the scopes as they stand where each name does.
-- A declared name has the next slot, and any other the leaf of its innermost declaration. So the tree tells how many slots it needs.
use Rattle.std.specs.Prelude.{ℕ, ◌+◌, max, List, [], ◌∷◌, Option, option_map}
use Rattle.dpl_language.specs.Tree.{Placed, AfterComma, ItemTree, VariablesTree, OneVariable, ManyVariables, DeclareTree, TargetTree, Whole, Element, LoopWord, StmtTree, Nothing, Declare, Assigned, Call, Write, Block, If, Headed, Loop, Body, WordBody, BlockBody, Stmts, NoStmts, Then, Else, NoElse, ElseDo, ProgramTree}
use Rattle.dpl_language.specs.Names.{Text}
use Rattle.dpl_agreement.specs.Renamed.{renamed, renamed_expr, renamed_exprs, renamed_item, renamed_typed, renamed_initial, renamed_write, renamed_with, renamed_call}
use Rattle.dpl_rules.specs.Types.{ValueType}
use Rattle.dpl_rules.specs.Sights.{LoopVariable, Declared, Scopes, enter, add, origin_in}
use Rattle.dpl_rules.specs.Declarations.{declared_by}
use Rattle.dpl_rules.specs.Loops.{typed_variable, over_type, variables_of, in_loop, behind}
use Rattle.dpl_rules.specs.Breaches.{top}
use Rattle.dpl_scopes.specs.Slots.{next_slot_in}
use Rattle.dpl_memory.specs.Memory.{VariableKind, PlainKind, DomainKind, TupleKind, CellKind, ArrayKind, Variable}
use Rattle.dpl_memory.specs.Resolved.{Bound, arrays_over}
use Rattle.dpl_typed.specs.Leaves.{leaf_in}
use Rattle.dpl_bound.specs.Shapes.{shape_in}
use Rattle.dpl_bound.specs.Sights.{bound_in, bound_at, sight_of}

-- a name that is declared here
abbrev pub bound_new : Scopes → Declared → Bound
bound_new ss d = bound_at d (next_slot_in ss)

abbrev pub bound_declare : Scopes → DeclareTree Text → DeclareTree Bound
bound_declare ss d = record {
  config = d.config;
  at = d.at;
  constant = d.constant;
  name = record { at = d.name.at; name = bound_new ss (declared_by ss d) };
  typed = option_map (renamed_typed (bound_in ss)) d.typed;
  initial = option_map (renamed_initial (bound_in ss)) d.initial;
  semicolon = d.semicolon;
}

-- ASSIGNMENTS: where a domain is assigned, the arrays in sight that are over it stand with its name
abbrev pub arrays_at : VariableKind → ℕ → Scopes → List ℕ
arrays_at (PlainKind k) slot ss = []
arrays_at DomainKind slot ss = arrays_over slot (sight_of ss)
arrays_at TupleKind slot ss = []
arrays_at (ArrayKind k) slot ss = []
arrays_at (CellKind c) slot ss = []

abbrev pub with_arrays : Scopes → Variable → Variable
with_arrays ss x = record { kind = x.kind; slot = x.slot; along = arrays_at x.kind x.slot ss; cells = [] }

abbrev pub assigned_in : Scopes → Text → Bound
assigned_in ss x = record { text = x; variable = with_arrays ss (leaf_in ss x); shape = shape_in ss x }

abbrev pub bound_target : Scopes → TargetTree Text → TargetTree Bound
bound_target ss (Whole x) = Whole (renamed (assigned_in ss) x)
bound_target ss (Element x shape from es upto) = Element (renamed (bound_in ss) x) shape from (renamed_exprs (bound_in ss) es) upto

-- LOOPS: each variable is declared behind those before it, in the scope of the loop
abbrev pub loop_variable : Option ValueType → Scopes → Text → Declared
loop_variable t ss x = record { origin = origin_in ss x; sort = LoopVariable; type = t }

abbrev pub bound_variable : Option ValueType → Scopes → Placed Text → Placed Bound
bound_variable t ss x = record { at = x.at; name = bound_new ss (loop_variable t ss x.name) }

abbrev pub bound_others : Option ValueType → Scopes → List (AfterComma (Placed Text)) → List (AfterComma (Placed Bound))
bound_others t ss [] = []
bound_others t ss (x ∷ xs) =
    record { comma = x.comma; part = bound_variable t ss x.part } ∷ bound_others t (add (loop_variable t ss x.part.name) ss) xs

abbrev pub bound_variables : Option ValueType → Scopes → VariablesTree Text → VariablesTree Bound
bound_variables t ss (OneVariable x) = OneVariable (bound_variable t ss x)
bound_variables t ss (ManyVariables from xs upto) =
    ManyVariables from (record { first = bound_variable t ss xs.first; others = bound_others t (add (loop_variable t ss xs.first.name) ss) xs.others }) upto

-- the type of each variable, by what the loop runs over
abbrev pub loop_type : Scopes → LoopWord → VariablesTree Text → ItemTree Text → Option ValueType
loop_type ss word xs item = typed_variable word xs (over_type ss item)

-- STATEMENTS
abbrev mutual
  pub bound_stmt : Scopes → StmtTree Text → StmtTree Bound
  bound_stmt ss (Nothing at) = Nothing at
  bound_stmt ss (Declare d) = Declare (bound_declare ss d)
  bound_stmt ss (Assigned target sign item semicolon) = Assigned (bound_target ss target) sign (renamed_item (bound_in ss) item) semicolon
  bound_stmt ss (Call x dot call semicolon) = Call (renamed (bound_in ss) x) dot (renamed_call (bound_in ss) call) semicolon
  bound_stmt ss (Write w) = Write (renamed_write (bound_in ss) w)
  bound_stmt ss (Block from body upto) = Block from (bound_stmts (enter ss) body) upto
  bound_stmt ss (If at e first second) = If at (renamed_expr (bound_in ss) e) (bound_body (enter ss) first) (bound_else ss second)
  bound_stmt ss (Headed word at e body) = Headed word at (renamed_expr (bound_in ss) e) (bound_body (enter ss) body)
  bound_stmt ss (Loop word at xs within item intents body) =
      Loop word at (bound_variables (loop_type ss word xs item) (enter ss) xs) within (renamed_item (bound_in ss) item) (option_map (renamed_with (bound_in ss)) intents)
      (bound_body (in_loop ss word xs item) body)

  -- a body, in the scope that was opened for it
  pub bound_body : Scopes → Body Text → Body Bound
  bound_body ss (WordBody at t) = WordBody at (bound_stmt ss t)
  bound_body ss (BlockBody from ts upto) = BlockBody from (bound_stmts ss ts) upto

  pub bound_stmts : Scopes → Stmts Text → Stmts Bound
  bound_stmts ss NoStmts = NoStmts
  bound_stmts ss (Then t rest) = Then (bound_stmt ss t) (bound_stmts (behind ss t) rest)

  pub bound_else : Scopes → Else Text → Else Bound
  bound_else ss NoElse = NoElse
  bound_else ss (ElseDo at t) = ElseDo at (bound_stmt (enter ss) t)

abbrev pub bound_program : ProgramTree Text → ProgramTree Bound
bound_program t = record { uses = t.uses; stmts = bound_stmts top t.stmts; end = t.end }

-- SLOTS: how many there are behind a part, where there are n before it
abbrev pub with_slot : Scopes → ℕ → ℕ
with_slot ss n = max n (next_slot_in ss + 1)

-- those of a loop's variables, one behind the other
abbrev pub slots_each : Option ValueType → List (Placed Text) → Scopes → ℕ → ℕ
slots_each t [] ss n = n
slots_each t (x ∷ xs) ss n = slots_each t xs (add (loop_variable t ss x.name) ss) (with_slot ss n)

abbrev pub slots_turn : Scopes → LoopWord → VariablesTree Text → ItemTree Text → ℕ → ℕ
slots_turn ss word xs item n = slots_each (loop_type ss word xs item) (variables_of xs) (enter ss) n

abbrev mutual
  pub slots_stmt : Scopes → StmtTree Text → ℕ → ℕ
  slots_stmt ss (Nothing at) n = n
  slots_stmt ss (Declare d) n = with_slot ss n
  slots_stmt ss (Assigned target sign item semicolon) n = n
  slots_stmt ss (Call x dot call semicolon) n = n
  slots_stmt ss (Write w) n = n
  slots_stmt ss (Block from body upto) n = slots_stmts (enter ss) body n
  slots_stmt ss (If at e first second) n = slots_else ss second (slots_body (enter ss) first n)
  slots_stmt ss (Headed word at e body) n = slots_body (enter ss) body n
  slots_stmt ss (Loop word at xs within item intents body) n = slots_body (in_loop ss word xs item) body (slots_turn ss word xs item n)

  pub slots_body : Scopes → Body Text → ℕ → ℕ
  slots_body ss (WordBody at t) n = slots_stmt ss t n
  slots_body ss (BlockBody from ts upto) n = slots_stmts ss ts n

  pub slots_stmts : Scopes → Stmts Text → ℕ → ℕ
  slots_stmts ss NoStmts n = n
  slots_stmts ss (Then t rest) n = slots_stmts (behind ss t) rest (slots_stmt ss t n)

  pub slots_else : Scopes → Else Text → ℕ → ℕ
  slots_else ss NoElse n = n
  slots_else ss (ElseDo at t) n = slots_stmt (enter ss) t n

-- of a whole program
abbrev pub slots_of : ProgramTree Text → ℕ
slots_of t = slots_stmts top t.stmts 0
