-- Statements without what they don't need: types of plain variables, intents but reduce intents, one form of body.
-- What is left out is written where that changes nothing: each declaration of a plain variable has an initial value, and
-- `createDomain(X)` is X with a map.
use Rattle.std.specs.Prelude.{ℕ, pos, Bool, true, false, ◌||◌, if◌then◌else◌, Option, Some, None, List, [], ◌∷◌, map, option_map}
use Rattle.dpl_syntax.specs.declared.place.Place.{Place}
use Rattle.dpl_language.specs.Tree.{Placed, AfterComma, Op, Kind, IntKind, BoolKind, AssignTree, ExprTree, Number, TruthWord, DomainLiteral, Postfixed, ItemTree, One, NoPosts, Post, Dotted, Plainly, Low, Items, FirstItem, NoItems, NextItem, StartTree, StartExpr, StartTuple, MapTree, BlockMap, CyclicMap, BlockCyclicMap, MappedTree, ArrayTypeTree, TypeTree, ScalarType, SyncType, DomainType, ArrayType, DomainTypeTree, CreateWord, CreateBlock, CreateCyclic, CreateTree, InitTree, ItemInit, CreateInit, TypedTree, InitialTree, DeclareTree}
use Rattle.dpl_language.specs.Tree.{ArgumentTree, TextArgument, ExprArgument, WriteTree, IntentTree, ReduceIntent, WithTree, VariablesTree, OneVariable, ManyVariables, TargetTree, Whole, Element, Square, CallTree, ReadCall, ResetCall, WriteCall, HeadWord, OnWord, LoopWord, ForWord, ForallWord, CoforallWord, StmtTree, Nothing, Declare, Assigned, Call, Write, Block, If, Headed, Loop, Body, WordBody, BlockBody, Stmts, NoStmts, Then, Else, NoElse, ElseDo, ProgramTree}
use Rattle.dpl_language.specs.Arithmetic.{assign_divides}
use Rattle.dpl_language.specs.Phrases.{bare_name, cell_read, item_read, item_over, intents_of}
use Rattle.dpl_language.specs.Declarations.{type_of}
use Rattle.dpl_lowered.specs.Known.{Known, may_be_array, may_be_whole}
use Rattle.dpl_lowered.specs.Shapes.{nowhere, kept, placed, unplaced, relisted, hidden, hidden_item}
use Rattle.dpl_lowered.specs.LoweredExpressions.{Times, Once, EachTurn, lowered_expr, lowered_item, lowered_items, lowered_exprs}

-- PARTS WITHOUT EXPRESSIONS
abbrev pub mapped_initial : {N : Type 0} → Place → ItemTree N → Option (MappedTree N) → InitialTree N
mapped_initial equals item mapped = record { equals = equals; init = ItemInit item mapped }

abbrev pub written_initial : {N : Type 0} → Place → ItemTree N → InitialTree N
written_initial equals item = mapped_initial equals item None

-- what a plain variable is declared with where no value is written
abbrev pub default_tree : {N : Type 0} → Kind → ExprTree N
default_tree IntKind = Number nowhere (pos 0)
default_tree BoolKind = TruthWord nowhere false

-- the type of a domain variable, of a rank and with a map or without one
abbrev pub ranked_type : {N : Type 0} → ℕ → Option (MappedTree N) → TypeTree N
ranked_type rank mapped = DomainType (record {
  at = nowhere;
  from = nowhere;
  rank_at = nowhere;
  rank = rank;
  upto = nowhere;
  mapped = mapped;
})

-- Beside an initial value it says that the name is a root, and nothing of its rank; a map stands with the value and says the
-- same.
abbrev pub root_type : {N : Type 0} → Option (MappedTree N) → Option (TypeTree N)
root_type None = Some (ranked_type 0 None)
root_type (Some m) = None

-- MAPS
abbrev pub block_map : {N : Type 0} → ItemTree N → MapTree N
block_map box = BlockMap (record { new = nowhere; word = nowhere; from = nowhere; argument = None; box = box; upto = nowhere })

abbrev pub cyclic_map : {N : Type 0} → StartTree N → MapTree N
cyclic_map start =
    CyclicMap (record { new = nowhere; word = nowhere; from = nowhere; argument = None; start = start; upto = nowhere })

abbrev pub block_cyclic_map : {N : Type 0} → StartTree N → StartTree N → MapTree N
block_cyclic_map start size = BlockCyclicMap (record {
  new = nowhere;
  word = nowhere;
  from = nowhere;
  start_argument = None;
  start = start;
  comma = nowhere;
  size_argument = None;
  size = size;
  upto = nowhere;
})

abbrev pub mapped_by : {N : Type 0} → MapTree N → MappedTree N
mapped_by m = record { at = nowhere; map = m }

-- `X.low`
abbrev pub low_tree : {N : Type 0} → ExprTree N → ExprTree N
low_tree e = Postfixed e (Post (Dotted nowhere (Plainly nowhere Low)) NoPosts)

-- the map of a created domain: `blockDist` over it, or `cyclicDist` from its least members
abbrev pub created_map : {N : Type 0} → CreateWord → ExprTree N → MappedTree N
created_map CreateBlock e = mapped_by (block_map (One e))
created_map CreateCyclic e = mapped_by (cyclic_map (StartExpr (low_tree e)))

abbrev pub written_type : {N : Type 0} → TypeTree N → TypedTree N
written_type type = record { colon = nowhere; type = type }

-- an array that is too large is told at the declared name; no other declaration tells it
abbrev pub tells_name : {N : Type 0} → Option (TypeTree N) → Bool
tells_name None = false
tells_name (Some (ScalarType at k)) = false
tells_name (Some (SyncType at kind_at k)) = false
tells_name (Some (DomainType d)) = false
tells_name (Some (ArrayType a)) = true

-- `config` asks the command line, wherever it stands
abbrev pub unplaced_word : Option Place → Option Place
unplaced_word None = None
unplaced_word (Some at) = Some nowhere

-- a loop's variables: no fault tells them
abbrev pub lowered_variables : {N : Type 0} → VariablesTree N → VariablesTree N
lowered_variables (OneVariable x) = OneVariable (unplaced x)
lowered_variables (ManyVariables from xs upto) = ManyVariables nowhere (relisted unplaced xs) nowhere

-- the reduce intents of a forall alone: `ref` changes nothing
abbrev pub reduce_intent : {N : Type 0} → N × Op → IntentTree N
reduce_intent p = ReduceIntent nowhere p.1 nowhere (record { at = nowhere; name = p.0 })

abbrev pub behind_comma : {N : Type 0} → N × Op → AfterComma (IntentTree N)
behind_comma p = record { comma = nowhere; part = reduce_intent p }

abbrev pub with_intents : {N : Type 0} → List (N × Op) → Option (WithTree N)
with_intents [] = None
with_intents {N} (p ∷ ps) = Some (record {
  at = nowhere;
  from = nowhere;
  intents = record { first = reduce_intent p; others = map {A = N × Op} {B = AfterComma (IntentTree N)} behind_comma ps };
  upto = nowhere;
})

-- a coforall asks for no intents
abbrev pub lowered_intents : {N : Type 0} → LoopWord → Option (WithTree N) → Option (WithTree N)
lowered_intents ForWord w = None
lowered_intents ForallWord w = with_intents (intents_of w)
lowered_intents CoforallWord w = None

-- a budget that is used up, and too many tasks, are told at a loop's first word
abbrev pub tells_head : HeadWord → Bool
tells_head OnWord = false
tells_head _ = true

-- an assignment's operator, with its place where a fault may tell it
abbrev pub lowered_sign : Bool → AssignTree → AssignTree
lowered_sign told sign = record { at = kept told sign.at; op = sign.op; last = nowhere }

-- an expression that is evaluated at each index if a test says so
abbrev pub times_by : Bool → Times
times_by true = EachTurn
times_by false = Once

module _ {N : Type 0} (known : N → Known) where
  -- a right side, which is no cell read if it wasn't one
  abbrev pub lowered_side : Times → ItemTree N → ItemTree N
  lowered_side m item =
      hidden_item (item_read item) (item_read (lowered_item known m item)) (lowered_item known m item)

  -- DECLARATIONS. What stands alone between an array's brackets is no bare name of a domain if it wasn't one.
  abbrev pub lowered_over : Items N → Items N
  lowered_over (FirstItem i NoItems) =
      FirstItem (hidden_item (item_over i) (item_over (lowered_item known Once i)) (lowered_item known Once i)) NoItems
  lowered_over (FirstItem i (NextItem comma j more)) = lowered_items known (FirstItem i (NextItem comma j more))

  -- a domain that is too large is told at the opening bracket
  abbrev pub lowered_array : ArrayTypeTree N → ArrayTypeTree N
  lowered_array a =
      record { from = a.from; over = lowered_over a.over; upto = nowhere; kind_at = nowhere; kind = a.kind }

  -- a map's arguments are evaluated once
  abbrev pub lowered_start : StartTree N → StartTree N
  lowered_start (StartExpr e) = StartExpr (lowered_expr known Once e)
  lowered_start (StartTuple from es upto) = StartTuple nowhere (relisted (lowered_expr known Once) es) nowhere

  abbrev pub lowered_map : MapTree N → MapTree N
  lowered_map (BlockMap m) = block_map (lowered_item known Once m.box)
  lowered_map (CyclicMap m) = cyclic_map (lowered_start m.start)
  lowered_map (BlockCyclicMap m) = block_cyclic_map (lowered_start m.start) (lowered_start m.size)

  abbrev pub lowered_mapped : MappedTree N → MappedTree N
  lowered_mapped m = mapped_by (lowered_map m.map)

  -- an initial value that is evaluated once: `createDomain(X)` is the domain of X; and its map
  abbrev pub created_tree : CreateTree N → ExprTree N
  created_tree c = DomainLiteral c.from (lowered_items known c.items) nowhere

  abbrev pub lowered_init : InitTree N → ItemTree N
  lowered_init (ItemInit item mapped) = lowered_side Once item
  lowered_init (CreateInit c) = One (created_tree c)

  abbrev pub lowered_init_map : InitTree N → Option (MappedTree N)
  lowered_init_map (ItemInit item mapped) = option_map lowered_mapped mapped
  lowered_init_map (CreateInit c) = Some (created_map c.word (created_tree c))

  abbrev pub lowered_with : InitTree N → Option (MappedTree N) → InitialTree N
  lowered_with i mapped = mapped_initial nowhere (lowered_init i) mapped

  -- the initial value of a plain variable, which is written; that of a cell, which may be left out
  abbrev pub plain_initial : ExprTree N → Option (InitialTree N) → Option (InitialTree N)
  plain_initial default None = Some (written_initial nowhere (One default))
  plain_initial default (Some i) = Some (lowered_with i.init (lowered_init_map i.init))

  abbrev pub lowered_initial : Option (InitialTree N) → Option (InitialTree N)
  lowered_initial None = None
  lowered_initial (Some i) = Some (lowered_with i.init (lowered_init_map i.init))

  -- A domain's map, that of its type before that of its initial value; beside a value it stands there.
  abbrev pub map_by : Option (MappedTree N) → InitTree N → Option (MappedTree N)
  map_by None i = lowered_init_map i
  map_by (Some m) i = Some (lowered_mapped m)

  abbrev pub domain_type : DomainTypeTree N → Option (InitialTree N) → Option (TypeTree N)
  domain_type d None = Some (ranked_type d.rank (option_map lowered_mapped d.mapped))
  domain_type d (Some i) = root_type (map_by d.mapped i.init)

  abbrev pub domain_initial : DomainTypeTree N → Option (InitialTree N) → Option (InitialTree N)
  domain_initial d None = None
  domain_initial d (Some i) = Some (lowered_with i.init (map_by d.mapped i.init))

  -- an array's: a budget that is used up is told at `=`; a created domain is none
  abbrev pub array_init : Place → InitTree N → Option (InitialTree N)
  array_init equals (ItemInit item mapped) = Some (written_initial equals (lowered_side EachTurn item))
  array_init equals (CreateInit c) = None

  abbrev pub array_initial : Option (InitialTree N) → Option (InitialTree N)
  array_initial None = None
  array_initial (Some i) = array_init i.equals i.init

  -- a declaration's type and initial value, by its type
  abbrev pub declared_type : Option (TypeTree N) → Option (InitialTree N) → Option (TypeTree N)
  declared_type None i = None
  declared_type (Some (ScalarType at k)) i = None
  declared_type (Some (SyncType at kind_at k)) i = Some (SyncType nowhere nowhere k)
  declared_type (Some (DomainType d)) i = domain_type d i
  declared_type (Some (ArrayType a)) i = Some (ArrayType (lowered_array a))

  abbrev pub declared_initial : Option (TypeTree N) → Option (InitialTree N) → Option (InitialTree N)
  declared_initial None i = plain_initial (default_tree IntKind) i
  declared_initial (Some (ScalarType at k)) i = plain_initial (default_tree k) i
  declared_initial (Some (SyncType at kind_at k)) i = lowered_initial i
  declared_initial (Some (DomainType d)) i = domain_initial d i
  declared_initial (Some (ArrayType a)) i = array_initial i

  abbrev pub lowered_declare : DeclareTree N → DeclareTree N
  lowered_declare d = record {
    config = unplaced_word d.config;
    at = nowhere;
    constant = false;
    name = placed (tells_name (type_of d.typed)) d.name;
    typed = option_map written_type (declared_type (type_of d.typed) d.initial);
    initial = declared_initial (type_of d.typed) d.initial;
    semicolon = nowhere;
  }

  -- ASSIGNMENTS. An index outside an array is told at its name, and arrays that a domain makes too large at the domain's.
  abbrev pub lowered_target : TargetTree N → TargetTree N
  lowered_target (Whole x) = Whole (placed (may_be_whole (known x.name)) x)
  lowered_target (Element x shape from es upto) = Element x Square nowhere (lowered_exprs known es) nowhere

  -- a division by zero is told at the operator, and so is a budget that an array uses up
  abbrev pub target_sign : TargetTree N → AssignTree → AssignTree
  target_sign (Whole x) sign = lowered_sign (may_be_array (known x.name) || assign_divides sign.op) sign
  target_sign (Element x shape from es upto) sign = lowered_sign (assign_divides sign.op) sign

  abbrev pub target_times : TargetTree N → Times
  target_times (Whole x) = times_by (may_be_array (known x.name))
  target_times (Element x shape from es upto) = Once

  -- an operation that waits is told at the cell's name
  abbrev pub lowered_call : CallTree N → CallTree N
  lowered_call (ReadCall at w from upto) = ReadCall nowhere w nowhere nowhere
  lowered_call (ResetCall at from upto) = ResetCall nowhere nowhere nowhere
  lowered_call (WriteCall at w from e upto) = WriteCall nowhere w nowhere (lowered_expr known Once e) nowhere

  -- the bare name that may show a whole array
  abbrev pub array_name : Option (Placed N) → Option (Placed N)
  array_name None = None
  array_name (Some x) = if may_be_array (known x.name) then Some x else None

  -- what is handed to `write`, which is no cell read if it wasn't one, and no bare name of what may be an array
  abbrev pub lowered_shown : ExprTree N → ExprTree N → ExprTree N
  lowered_shown e lowered =
      hidden (bare_name e) (array_name (bare_name lowered)) (hidden (cell_read e) (cell_read lowered) lowered)

  abbrev pub lowered_argument : ArgumentTree N → ArgumentTree N
  lowered_argument (TextArgument at cs) = TextArgument nowhere cs
  lowered_argument (ExprArgument e) = ExprArgument (lowered_shown e (lowered_expr known Once e))

  abbrev pub lowered_write : WriteTree N → WriteTree N
  lowered_write w = record {
    at = nowhere;
    ends_line = w.ends_line;
    from = nowhere;
    arguments = option_map (relisted lowered_argument) w.arguments;
    upto = nowhere;
    semicolon = nowhere;
  }

  -- STATEMENTS
  abbrev mutual
    pub lowered_stmt : StmtTree N → StmtTree N
    lowered_stmt (Nothing at) = Nothing nowhere
    lowered_stmt (Declare d) = Declare (lowered_declare d)
    lowered_stmt (Assigned target sign item semicolon) =
        Assigned (lowered_target target) (target_sign target sign) (lowered_side (target_times target) item) nowhere
    lowered_stmt (Call x dot call semicolon) = Call x nowhere (lowered_call call) nowhere
    lowered_stmt (Write w) = Write (lowered_write w)
    lowered_stmt (Block from body upto) = Block nowhere (lowered_stmts body) nowhere
    lowered_stmt (If at e first second) =
        If nowhere (lowered_expr known Once e) (lowered_body first) (lowered_else second)
    lowered_stmt (Headed word at e body) = Headed word (kept (tells_head word) at) (lowered_expr known Once e) (lowered_body body)
    lowered_stmt (Loop word at xs within item intents body) =
        Loop word at (lowered_variables xs) nowhere (lowered_item known Once item) (lowered_intents word intents) (lowered_body body)

    -- a body is a list of statements: `do` and one statement is a list of one, which opens no other scope
    pub lowered_body : Body N → Body N
    lowered_body (WordBody at t) = BlockBody nowhere (Then (lowered_stmt t) NoStmts) nowhere
    lowered_body (BlockBody from ts upto) = BlockBody nowhere (lowered_stmts ts) nowhere

    pub lowered_stmts : Stmts N → Stmts N
    lowered_stmts NoStmts = NoStmts
    lowered_stmts (Then t rest) = Then (lowered_stmt t) (lowered_stmts rest)

    pub lowered_else : Else N → Else N
    lowered_else NoElse = NoElse
    lowered_else (ElseDo at t) = ElseDo nowhere (lowered_stmt t)

  -- a program's `use` lines name modules of maps, and mean nothing by themselves
  abbrev pub lowered_program : ProgramTree N → ProgramTree N
  lowered_program t = record { uses = []; stmts = lowered_stmts t.stmts; end = nowhere }
