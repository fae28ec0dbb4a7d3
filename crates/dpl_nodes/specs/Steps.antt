-- The plain statement that a typed statement stands for.
-- It is a lowered one over slots: each body is a list, and the places are those of faults alone.
use Rattle.std.specs.Prelude.{ℕ, Bool, false, Option, Some, None, List, [], ◌∷◌, map, option_map}
use Rattle.dpl_syntax.specs.declared.place.Place.{Place}
use Rattle.dpl_language.specs.Tree.{Placed, AfterComma, Listed, Op, Assign, Set, SetAdd, SetSubtract, SetMultiply, SetDivide, SetRemainder, SetReduce, Kind, IntKind, BoolKind, ExprTree, Grouped, Items, ItemTree, One, Word, Low, LowBound, Plainly, StartTree, StartExpr, StartTuple, MapTree, MappedTree, CreateBlock, CreateCyclic, TypeTree, ArrayType, InitialTree, ArgumentTree, TextArgument, ExprArgument, VariablesTree, OneVariable, ManyVariables, Whole, Element, Square, HeadWord, WhileWord, ForWord, ForallWord, StmtTree, Nothing, Declare, Assigned, Write, Block, If, Headed, Loop, Body, BlockBody, Stmts, NoStmts, Then, Else, NoElse, ElseDo}
use Rattle.dpl_language.specs.Arithmetic.{assign_divides}
use Rattle.dpl_lowered.specs.Shapes.{nowhere, kept}
use Rattle.dpl_lowered.specs.LoweredExpressions.{EachTurn}
use Rattle.dpl_lowered.specs.LoweredStatements.{mapped_initial, written_initial, ranked_type, block_map, cyclic_map, block_cyclic_map, mapped_by, created_map, written_type, with_intents}
use Rattle.dpl_memory.specs.Memory.{DomainKind, TupleKind, ArrayKind, Variable, variable, int_leaf, truth_leaf, range_leaf}
use Rattle.dpl_nodes.specs.declared.tree.IndexExpr.{IndexExpr, Line', Plane', Space', Tuple as TupleIndex}
use Rattle.dpl_nodes.specs.declared.placing.StartExpr.{StartExpr as StartNode}
use Rattle.dpl_nodes.specs.declared.placing.StartExpr.TheVariants.{Index, Least}
use Rattle.dpl_nodes.specs.declared.placing.MapExpr.{MapExpr}
use Rattle.dpl_nodes.specs.declared.placing.MapExpr.TheVariants as maps
use Rattle.dpl_nodes.specs.declared.placing.Placing.{Placing}
use Rattle.dpl_nodes.specs.declared.placing.Placing.TheVariants.{Derived, Mapped, BlockCreated, CyclicCreated}
use Rattle.dpl_nodes.specs.declared.placing.Placing.TheVariants as placing
use Rattle.dpl_nodes.specs.declared.step.Argument.{Argument}
use Rattle.dpl_nodes.specs.declared.step.Argument.TheVariants.{Text as TextNode, Int as IntNode, Truth as TruthNode, Array as ArrayNode}
use Rattle.dpl_nodes.specs.declared.step.Intent.{Intent}
use Rattle.dpl_nodes.specs.declared.step.DeclaredOver.{DeclaredOver}
use Rattle.dpl_nodes.specs.declared.step.DeclaredOver.TheVariants.{Ranges, Domain, HiddenDomain, HiddenRange}
use Rattle.dpl_nodes.specs.declared.step.Initial.{Initial}
use Rattle.dpl_nodes.specs.declared.step.Initial.TheVariants.{Zeros, Falses, Ints, Truths}
use Rattle.dpl_nodes.specs.declared.step.ArrayDeclaration.{ArrayDeclaration}
use Rattle.dpl_nodes.specs.declared.step.ArrayName.{ArrayName}
use Rattle.dpl_nodes.specs.declared.step.DomainName.{DomainName}
use Rattle.dpl_nodes.specs.declared.step.Rank.{Rank}
use Rattle.dpl_nodes.specs.declared.step.Rank.TheVariants as rank
use Rattle.dpl_nodes.specs.declared.step.Names.{Names}
use Rattle.dpl_nodes.specs.declared.step.Names.TheVariants.{Int as IntName, Tuple as TupleName, Each}
use Rattle.dpl_nodes.specs.declared.step.StepWord.{StepWord}
use Rattle.dpl_nodes.specs.declared.step.StepWord.TheVariants as word
use Rattle.dpl_nodes.specs.declared.step.Step.{Step, Nothing as NothingStep, Int as IntStep, DeclareRange, SetRange, Truth as TruthStep, DeclareDomain, SetDomain, DeclareArray, SetElement, SetArray, SetTruthArray, Write as WriteStep, Block', If', Headed', For', Forall', ForEach', ForallEach', Row_of-Step, end_of-Step, more_of-Step}
use Rattle.dpl_nodes.specs.declared.step.IntDeed.{IntDeed}
use Rattle.dpl_nodes.specs.declared.step.IntDeed.TheVariants as deeds
use Rattle.dpl_nodes.specs.declared.step.Beginning.{Beginning}
use Rattle.dpl_nodes.specs.declared.step.Beginning.TheVariants.{Value, Empty}
use Rattle.dpl_nodes.specs.declared.step.TruthTarget.{TruthTarget}
use Rattle.dpl_nodes.specs.declared.step.TruthTarget.TheVariants as target
use Rattle.dpl_nodes.specs.declared.step.TruthDeed.{TruthDeed}
use Rattle.dpl_nodes.specs.declared.step.TruthDeed.TheVariants as deed
use Rattle.dpl_nodes.specs.declared.step.Else.{Else as ElseNode, Absent, Do'}
use Rattle.dpl_nodes.specs.Typed.{leaf_named, dotted, tuple_named, items_one, int_view, truth_view, range_item, ranges_items, index_exprs, domain_view, promoted_int, promoted_truth}

-- a name that no fault tells
abbrev pub unplaced_leaf : Variable → Placed Variable
unplaced_leaf x = record { at = nowhere; name = x }

-- a name that a fault tells
abbrev pub placed_leaf : Place → Variable → Placed Variable
placed_leaf at x = record { at = at; name = x }

-- a declaration with its initial value, and without a type
abbrev pub declared_as : Option Place → Variable → ItemTree Variable → StmtTree Variable
declared_as config x item = Declare (record {
  config = config;
  at = nowhere;
  constant = false;
  name = unplaced_leaf x;
  typed = None;
  initial = Some (written_initial nowhere item);
  semicolon = nowhere;
})

-- an assignment, with its operator's place
abbrev pub assigned_to : Variable → Assign → Place → ItemTree Variable → StmtTree Variable
assigned_to x op at item =
    Assigned (Whole (unplaced_leaf x)) (record { at = at; op = op; last = nowhere }) item nowhere

-- an assignment to an element, and to a whole array or a domain
abbrev pub element_set : Placed Variable → IndexExpr → Assign → Place → ExprTree Variable → StmtTree Variable
element_set x t op at e =
    Assigned (Element x Square nowhere (index_exprs t) nowhere) (record { at = kept (assign_divides op) at; op = op; last = nowhere }) (One e) nowhere

abbrev pub whole_set : Placed Variable → Assign → Place → ExprTree Variable → StmtTree Variable
whole_set x op at e = Assigned (Whole x) (record { at = at; op = op; last = nowhere }) (One e) nowhere

-- what is done to an int
abbrev pub int_changed : IntDeed → ℕ → ItemTree Variable → StmtTree Variable
int_changed deeds.Declare slot item = declared_as None (int_leaf slot) item
int_changed deeds.Config slot item = declared_as (Some nowhere) (int_leaf slot) item
int_changed deeds.Set slot item = assigned_to (int_leaf slot) Set nowhere item
int_changed deeds.Add slot item = assigned_to (int_leaf slot) SetAdd nowhere item
int_changed deeds.Subtract slot item = assigned_to (int_leaf slot) SetSubtract nowhere item
int_changed deeds.Multiply slot item = assigned_to (int_leaf slot) SetMultiply nowhere item
int_changed (deeds.Divide at) slot item = assigned_to (int_leaf slot) SetDivide at.now item
int_changed (deeds.Remainder at) slot item = assigned_to (int_leaf slot) SetRemainder at.now item
int_changed deeds.Reduce slot item = assigned_to (int_leaf slot) SetReduce nowhere item

-- what is done to a truth value
abbrev pub truth_changed : TruthDeed → ℕ → ItemTree Variable → StmtTree Variable
truth_changed deed.Declare slot item = declared_as None (truth_leaf slot) item
truth_changed deed.Config slot item = declared_as (Some nowhere) (truth_leaf slot) item
truth_changed deed.Set slot item = assigned_to (truth_leaf slot) Set nowhere item
truth_changed deed.Reduce slot item = assigned_to (truth_leaf slot) SetReduce nowhere item

-- ARGUMENTS
abbrev pub argument_view : Argument → ArgumentTree Variable
argument_view (TextNode bytes) = TextArgument nowhere bytes.now
argument_view (IntNode e) = ExprArgument (int_view e.now)
argument_view (TruthNode e) = ExprArgument (truth_view e.now)
argument_view (ArrayNode k slot) = ExprArgument (leaf_named (variable (ArrayKind k) slot))

abbrev pub next_argument_view : Argument → AfterComma (ArgumentTree Variable)
next_argument_view a = record { comma = nowhere; part = argument_view a }

abbrev pub arguments_view : List Argument → Option (Listed (ArgumentTree Variable))
arguments_view [] = None
arguments_view (a ∷ rest) = Some (record { first = argument_view a; others = map next_argument_view rest })

abbrev pub written_as : Bool → List Argument → StmtTree Variable
written_as ends_line arguments = Write (record {
  at = nowhere;
  ends_line = ends_line;
  from = nowhere;
  arguments = arguments_view arguments;
  upto = nowhere;
  semicolon = nowhere;
})

-- INTENTS
abbrev pub scalar_leaf : Kind → ℕ → Variable
scalar_leaf IntKind slot = int_leaf slot
scalar_leaf BoolKind slot = truth_leaf slot

abbrev pub intent_view : Intent → Variable × Op
intent_view i = (scalar_leaf i.kind i.slot, i.op)

-- DOMAINS AND ARRAYS
-- a declaration by its type alone, or with an initial value
abbrev pub declared_with : Placed Variable → TypeTree Variable → Option (InitialTree Variable) → StmtTree Variable
declared_with x type initial = Declare (record {
  config = None;
  at = nowhere;
  constant = false;
  name = x;
  typed = Some (written_type type);
  initial = initial;
  semicolon = nowhere;
})

abbrev pub dimensions : Rank → ℕ
dimensions rank.Line = 1
dimensions rank.Plane = 2
dimensions rank.Space = 3

-- MAPS
abbrev behind : ExprTree Variable → AfterComma (ExprTree Variable)
behind e = record { comma = nowhere; part = e }

-- an index is one expression, or a tuple of two or three
abbrev pub index_start : IndexExpr → StartTree Variable
index_start (Line' p a) = StartExpr (int_view a)
index_start (Plane' p a q b) = StartTuple nowhere (record { first = int_view a; others = behind (int_view b) ∷ [] }) nowhere
index_start (Space' p a q b r c) =
    StartTuple nowhere (record { first = int_view a; others = behind (int_view b) ∷ behind (int_view c) ∷ [] }) nowhere
index_start (TupleIndex slot) = StartExpr (tuple_named slot)

-- least members are asked for by `low` or `lowBound`; no other word stands there
abbrev pub low_word : Word → Word
low_word LowBound = LowBound
low_word _ = Low

abbrev pub start_view : StartNode → StartTree Variable
start_view (Index t) = index_start t.now
start_view (Least d at w) = StartExpr (dotted (domain_view d.now) (Plainly at.now (low_word w)))

abbrev pub map_view : MapExpr → MapTree Variable
map_view (maps.Block d) = block_map (One (domain_view d.now))
map_view (maps.Cyclic e) = cyclic_map (start_view e)
map_view (maps.BlockCyclic e sizes) = block_cyclic_map (start_view e) (start_view sizes)

-- what is said of a map stands beside an initial value, or as a type
abbrev pub placed_map : Placing → ExprTree Variable → Option (MappedTree Variable)
placed_map Derived e = None
placed_map placing.Root e = None
placed_map (Mapped m) e = Some (mapped_by (map_view m.now))
placed_map BlockCreated e = Some (created_map CreateBlock e)
placed_map CyclicCreated e = Some (created_map CreateCyclic e)

abbrev pub placed_type : Placing → Option (TypeTree Variable)
placed_type Derived = None
placed_type placing.Root = Some (ranked_type 0 None)
placed_type (Mapped m) = None
placed_type BlockCreated = None
placed_type CyclicCreated = None

-- of a domain without an initial value its type has the map
abbrev pub typed_map : Placing → Option (MappedTree Variable)
typed_map Derived = None
typed_map placing.Root = None
typed_map (Mapped m) = Some (mapped_by (map_view m.now))
typed_map BlockCreated = None
typed_map CyclicCreated = None

abbrev pub domain_declared : ℕ → Beginning → Placing → StmtTree Variable
domain_declared slot (Value e) placing = Declare (record {
  config = None;
  at = nowhere;
  constant = false;
  name = unplaced_leaf (variable DomainKind slot);
  typed = option_map written_type (placed_type placing);
  initial = Some (mapped_initial nowhere (One (domain_view e.now)) (placed_map placing (domain_view e.now)));
  semicolon = nowhere;
})
domain_declared slot (Empty rank) placing =
    declared_with (unplaced_leaf (variable DomainKind slot)) (ranked_type (dimensions rank) (typed_map placing)) None

-- what stands between an array's brackets
abbrev pub over_items : DeclaredOver → Items Variable
over_items (Ranges rs) = ranges_items rs.now
over_items (Domain d) = items_one (One (domain_view d.now))
over_items (HiddenDomain d) = items_one (One (Grouped nowhere (One (domain_view d.now)) nowhere))
over_items (HiddenRange r) = items_one (One (Grouped nowhere (range_item r.now) nowhere))

abbrev pub initial_kind : Initial → Kind
initial_kind Zeros = IntKind
initial_kind Falses = BoolKind
initial_kind (Ints at e) = IntKind
initial_kind (Truths at e) = BoolKind

abbrev pub initial_view : Initial → Option (InitialTree Variable)
initial_view Zeros = None
initial_view Falses = None
initial_view (Ints at e) = Some (written_initial at.now (One (promoted_int EachTurn e.now)))
initial_view (Truths at e) = Some (written_initial at.now (One (promoted_truth EachTurn e.now)))

abbrev pub array_type : ArrayDeclaration → TypeTree Variable
array_type d = ArrayType (record {
  from = d.from.now;
  over = over_items d.over;
  upto = nowhere;
  kind_at = nowhere;
  kind = initial_kind d.initial;
})

abbrev pub array_leaf : Kind → ArrayName → Placed Variable
array_leaf k x = placed_leaf x.at.now (variable (ArrayKind k) x.slot)

abbrev pub array_declared : ArrayDeclaration → StmtTree Variable
array_declared d = declared_with (placed_leaf d.at.now (variable (ArrayKind (initial_kind d.initial)) d.slot)) (array_type d) (initial_view d.initial)

-- a domain, with the arrays that change with it
abbrev pub domain_leaf : DomainName → Placed Variable
domain_leaf x = placed_leaf x.at.now (record { kind = DomainKind; slot = x.slot; along = x.arrays.now; cells = [] })

-- what is done to a variable or an element that is a truth value
abbrev pub truth_stated : TruthTarget → ExprTree Variable → StmtTree Variable
truth_stated (target.Slot deed slot) e = truth_changed deed slot (One e)
truth_stated (target.Element x t) e = element_set (array_leaf BoolKind x.now) t.now Set nowhere e

-- a loop's variable, which is an int
abbrev pub variable_in : ℕ → VariablesTree Variable
variable_in slot = OneVariable (unplaced_leaf (int_leaf slot))

-- a loop's variables
abbrev pub next_name : ℕ → AfterComma (Placed Variable)
next_name slot = record { comma = nowhere; part = unplaced_leaf (int_leaf slot) }

abbrev pub names_view : Names → VariablesTree Variable
names_view (IntName slot) = variable_in slot
names_view (TupleName slot) = OneVariable (unplaced_leaf (variable TupleKind slot))
names_view (Each first others) = ManyVariables nowhere (record { first = unplaced_leaf (int_leaf first); others = map next_name others.now }) nowhere

-- the word before a condition and a body
abbrev pub step_word : StepWord → HeadWord
step_word word.While = WhileWord

-- STATEMENTS
abbrev pub listed : Stmts Variable → Body Variable
listed ts = BlockBody nowhere ts nowhere

abbrev mutual
  pub step_view : Step → StmtTree Variable
  step_view NothingStep = Nothing nowhere
  step_view (IntStep deed slot e) = int_changed deed slot (One (int_view e.now))
  step_view (DeclareRange slot e) = declared_as None (range_leaf slot) (range_item e.now)
  step_view (SetRange slot e) = assigned_to (range_leaf slot) Set nowhere (range_item e.now)
  step_view (TruthStep target e) = truth_stated target (truth_view e.now)
  step_view (DeclareDomain slot begun placing) = domain_declared slot begun placing
  step_view (SetDomain x e) = whole_set (domain_leaf x.now) Set nowhere (domain_view e.now)
  step_view (DeclareArray d) = array_declared d.now
  step_view (SetElement x t op at e) = element_set (array_leaf IntKind x.now) t.now op at.now (int_view e.now)
  step_view (SetArray x op at e) = whole_set (array_leaf IntKind x.now) op at.now (promoted_int EachTurn e.now)
  step_view (SetTruthArray x at e) = whole_set (array_leaf BoolKind x.now) Set at.now (promoted_truth EachTurn e.now)
  step_view (WriteStep ends_line arguments) = written_as ends_line arguments.now
  step_view (Block' p shape row) = Block nowhere (steps_view row) nowhere
  step_view (If' condition p shape row otherwise) =
      If nowhere (truth_view condition.now) (listed (steps_view row)) (else_view otherwise)
  step_view (Headed' word at condition p shape row) = Headed (step_word word) at.now (truth_view condition.now) (listed (steps_view row))
  step_view (For' at slot over p shape row) =
      Loop ForWord at.now (variable_in slot) nowhere (range_item over.now) None (listed (steps_view row))
  step_view (Forall' at slot over changed p shape row) =
      Loop ForallWord at.now (variable_in slot) nowhere (range_item over.now) (with_intents (map intent_view changed.now.reduced.now))
      (listed (steps_view row))
  step_view (ForEach' at names over p shape row) =
      Loop ForWord at.now (names_view names) nowhere (One (domain_view over.now)) None (listed (steps_view row))
  step_view (ForallEach' at names over changed p shape row) =
      Loop ForallWord at.now (names_view names) nowhere (One (domain_view over.now)) (with_intents (map intent_view changed.now.reduced.now))
      (listed (steps_view row))

  pub else_view : ElseNode → Else Variable
  else_view Absent = NoElse
  else_view (Do' p s) = ElseDo nowhere (step_view s)

  pub steps_view : {m : _} → Row_of-Step m → Stmts Variable
  steps_view end_of-Step = NoStmts
  steps_view (more_of-Step s row) = Then (step_view s) (steps_view row)

-- the same for a list of statements
abbrev pub steps_of : List Step → Stmts Variable
steps_of [] = NoStmts
steps_of (s ∷ ss) = Then (step_view s) (steps_of ss)
