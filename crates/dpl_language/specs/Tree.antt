-- The trees of the whole language: what is spelled, and the place of each of its tokens.
-- N is what stands for a name: its text as it is spelled, or whatever a check puts in its stead.
use Rattle.std.specs.Prelude.{ℕ, ℤ, Bool, Option, List}
use Rattle.dpl_syntax.specs.declared.place.Place.{Place}
-- the operators and words, which `dpl_syntax/src/operator.rt` declares
pub use Rattle.dpl_syntax.specs.declared.operator.Prefix.{Prefix}
pub use Rattle.dpl_syntax.specs.declared.operator.Prefix.TheVariants.{Minus, Not}
pub use Rattle.dpl_syntax.specs.declared.operator.Infix.{Infix}
pub use Rattle.dpl_syntax.specs.declared.operator.Infix.TheVariants.{Add, Subtract, Multiply, Divide, Remainder, Less, LessEqual, Greater, GreaterEqual, Equal, NotEqual, And, Or}
pub use Rattle.dpl_syntax.specs.declared.operator.Op.{Op}
pub use Rattle.dpl_syntax.specs.declared.operator.Op.TheVariants.{Sum, Product, AllOf, AnyOf, BitAnd, BitOr, BitXor, Least, Greatest}
pub use Rattle.dpl_syntax.specs.declared.operator.Assign.{Assign}
pub use Rattle.dpl_syntax.specs.declared.operator.Assign.TheVariants.{Set, SetAdd, SetSubtract, SetMultiply, SetDivide, SetRemainder, SetReduce}
pub use Rattle.dpl_syntax.specs.declared.operator.ScalarKind.{ScalarKind as Kind}
pub use Rattle.dpl_syntax.specs.declared.operator.ScalarKind.TheVariants.{Int as IntKind, Bool as BoolKind}
pub use Rattle.dpl_syntax.specs.declared.operator.Dots.{Dots}
pub use Rattle.dpl_syntax.specs.declared.operator.Dots.TheVariants.{Closed, HalfOpen, Counted}
pub use Rattle.dpl_syntax.specs.declared.operator.Word.{Word}
pub use Rattle.dpl_syntax.specs.declared.operator.Word.TheVariants.{Size, First, Last, Low, High, LowBound, DomainOf, Id}
pub use Rattle.dpl_syntax.specs.declared.operator.ReadWord.{ReadWord}
pub use Rattle.dpl_syntax.specs.declared.operator.ReadWord.TheVariants.{ReadFE as ReadFEWord, ReadFF as ReadFFWord}
pub use Rattle.dpl_syntax.specs.declared.operator.WriteWord.{WriteWord}
pub use Rattle.dpl_syntax.specs.declared.operator.WriteWord.TheVariants.{WriteEF as WriteEFWord, WriteFF as WriteFFWord, WriteXF as WriteXFWord}
pub use Rattle.dpl_syntax.specs.declared.operator.CreateWord.{CreateWord}
pub use Rattle.dpl_syntax.specs.declared.operator.CreateWord.TheVariants.{Block as CreateBlock, Cyclic as CreateCyclic}
pub use Rattle.dpl_syntax.specs.declared.operator.BracketPair.{BracketPair}
pub use Rattle.dpl_syntax.specs.declared.operator.BracketPair.TheVariants.{Square, Round}
pub use Rattle.dpl_syntax.specs.declared.operator.Module.{Module}
pub use Rattle.dpl_syntax.specs.declared.operator.Module.TheVariants.{Block as BlockModule, Cyclic as CyclicModule, BlockCyclic as BlockCyclicModule}

-- a name and its place
pub record Placed (N : Type 0) : Type 0 where
  pub at : Place
  pub name : N

-- one more part of a list, and the comma before it
pub record AfterComma (A : Type 0) : Type 0 where
  pub comma : Place
  pub part : A

-- a list with commas: its first part, and the others
pub record Listed (A : Type 0) : Type 0 where
  pub first : A
  pub others : List (AfterComma A)

-- an assignment's operator, and the places of its first and last token, which differ for `reduce=` alone
pub record AssignTree : Type 0 where
  pub at : Place
  pub op : Assign
  pub last : Place

mutual
  -- Expressions. A chain is its first operand and the list of the others, grouped to the left;
  -- so is what stands before brackets, rounds and dots.
  pub data ExprTree (N : Type 0) : Type 0 where
    Number : Place → ℤ → ExprTree N
    TruthWord : Place → Bool → ExprTree N
    Named : Placed N → ExprTree N
    LocalesWord : Place → ExprTree N
    LocaleCount : Place → ExprTree N
    HereWord : Place → ExprTree N
    Grouped : Place → ItemTree N → Place → ExprTree N
    DomainLiteral : Place → Items N → Place → ExprTree N
    Prefixed : Place → Prefix → ExprTree N → ExprTree N
    Reduced : Place → Op → Place → ExprTree N → ExprTree N
    Chain : ExprTree N → Links N → ExprTree N
    Postfixed : ExprTree N → Posts N → ExprTree N

  -- an item: an expression, or a range with its low end, its dots, its high end or count, and its stride
  pub data ItemTree (N : Type 0) : Type 0 where
    One : ExprTree N → ItemTree N
    RangeItem : ExprTree N → Place → Dots → ExprTree N → Stride N → ItemTree N

  -- `by` and a stride, or nothing
  pub data Stride (N : Type 0) : Type 0 where
    NoStride : Stride N
    By : Place → ExprTree N → Stride N

  -- the other operands of a chain, each behind its operator
  pub data Links (N : Type 0) : Type 0 where
    NoLinks : Links N
    Link : Place → Infix → ExprTree N → Links N → Links N

  -- what stands behind a base: brackets, rounds and methods, in order
  pub data Posts (N : Type 0) : Type 0 where
    NoPosts : Posts N
    Post : PostTree N → Posts N → Posts N

  pub data PostTree (N : Type 0) : Type 0 where
    Brackets : Place → Items N → Place → PostTree N
    Rounds : Place → Exprs N → Place → PostTree N
    Dotted : Place → MethodTree N → PostTree N

  -- a method: the place of its word, and those of its brackets and of what is in them
  pub data MethodTree (N : Type 0) : Type 0 where
    Plainly : Place → Word → MethodTree N
    Dim : Place → Place → Place → ℕ → Place → MethodTree N
    Contains : Place → Place → Exprs N → Place → MethodTree N
    Expand : Place → Place → ExprTree N → Place → MethodTree N
    CellRead : Place → ReadWord → Place → Place → MethodTree N

  -- items between commas, and expressions between commas: a first one, and the others behind their commas
  pub data Items (N : Type 0) : Type 0 where
    FirstItem : ItemTree N → MoreItems N → Items N

  pub data MoreItems (N : Type 0) : Type 0 where
    NoItems : MoreItems N
    NextItem : Place → ItemTree N → MoreItems N → MoreItems N

  pub data Exprs (N : Type 0) : Type 0 where
    FirstExpr : ExprTree N → MoreExprs N → Exprs N

  pub data MoreExprs (N : Type 0) : Type 0 where
    NoExprs : MoreExprs N
    NextExpr : Place → ExprTree N → MoreExprs N → MoreExprs N

-- the name of a map's argument (`boundingBox`, `startIdx`, `blocksize`) and its `=`
pub record ArgumentName : Type 0 where
  pub at : Place
  pub equals : Place

-- where a map starts: an expression, or two or three in round brackets
pub data StartTree (N : Type 0) : Type 0 where
  StartExpr : ExprTree N → StartTree N
  StartTuple : Place → Listed (ExprTree N) → Place → StartTree N

-- `new blockDist(boundingBox=B)`
pub record BlockTree (N : Type 0) : Type 0 where
  pub new : Place
  pub word : Place
  pub from : Place
  pub argument : Option ArgumentName
  pub box : ItemTree N
  pub upto : Place

-- `new cyclicDist(startIdx=e)`
pub record CyclicTree (N : Type 0) : Type 0 where
  pub new : Place
  pub word : Place
  pub from : Place
  pub argument : Option ArgumentName
  pub start : StartTree N
  pub upto : Place

-- `new blockCycDist(startIdx=e, blocksize=f)`
pub record BlockCyclicTree (N : Type 0) : Type 0 where
  pub new : Place
  pub word : Place
  pub from : Place
  pub start_argument : Option ArgumentName
  pub start : StartTree N
  pub comma : Place
  pub size_argument : Option ArgumentName
  pub size : StartTree N
  pub upto : Place

pub data MapTree (N : Type 0) : Type 0 where
  BlockMap : BlockTree N → MapTree N
  CyclicMap : CyclicTree N → MapTree N
  BlockCyclicMap : BlockCyclicTree N → MapTree N

-- `dmapped` and a map
pub record MappedTree (N : Type 0) : Type 0 where
  pub at : Place
  pub map : MapTree N

-- `domain(k)`, perhaps with a map
pub record DomainTypeTree (N : Type 0) : Type 0 where
  pub at : Place
  pub from : Place
  pub rank_at : Place
  pub rank : ℕ
  pub upto : Place
  pub mapped : Option (MappedTree N)

-- an array's type: its domain or its ranges in brackets, and the kind of its elements
pub record ArrayTypeTree (N : Type 0) : Type 0 where
  pub from : Place
  pub over : Items N
  pub upto : Place
  pub kind_at : Place
  pub kind : Kind

-- types; of `sync int` and `sync bool` both words
pub data TypeTree (N : Type 0) : Type 0 where
  ScalarType : Place → Kind → TypeTree N
  SyncType : Place → Place → Kind → TypeTree N
  DomainType : DomainTypeTree N → TypeTree N
  ArrayType : ArrayTypeTree N → TypeTree N

-- `blockDist.createDomain(..)` and `cyclicDist.createDomain(..)`
pub record CreateTree (N : Type 0) : Type 0 where
  pub at : Place
  pub word : CreateWord
  pub dot : Place
  pub method : Place
  pub from : Place
  pub items : Items N
  pub upto : Place

-- an initial value: an item, perhaps with a map, or a created domain
pub data InitTree (N : Type 0) : Type 0 where
  ItemInit : ItemTree N → Option (MappedTree N) → InitTree N
  CreateInit : CreateTree N → InitTree N

-- `:` and a type; `=` and an initial value
pub record TypedTree (N : Type 0) : Type 0 where
  pub colon : Place
  pub type : TypeTree N

pub record InitialTree (N : Type 0) : Type 0 where
  pub equals : Place
  pub init : InitTree N

-- a declaration: perhaps `config`, then `const` or `var`, a name, a type or an initial value or both, and `;`
pub record DeclareTree (N : Type 0) : Type 0 where
  pub config : Option Place
  pub at : Place
  pub constant : Bool
  pub name : Placed N
  pub typed : Option (TypedTree N)
  pub initial : Option (InitialTree N)
  pub semicolon : Place

-- what is handed to `write`: a text, or an expression
pub data ArgumentTree (N : Type 0) : Type 0 where
  TextArgument : Place → List ℕ → ArgumentTree N
  ExprArgument : ExprTree N → ArgumentTree N

-- `write(..);`, or `writeln(..);`, which ends the line
pub record WriteTree (N : Type 0) : Type 0 where
  pub at : Place
  pub ends_line : Bool
  pub from : Place
  pub arguments : Option (Listed (ArgumentTree N))
  pub upto : Place
  pub semicolon : Place

-- `op reduce x`, and `ref x`
pub data IntentTree (N : Type 0) : Type 0 where
  ReduceIntent : Place → Op → Place → Placed N → IntentTree N
  RefIntent : Place → Placed N → IntentTree N

-- `with (` intents `)`
pub record WithTree (N : Type 0) : Type 0 where
  pub at : Place
  pub from : Place
  pub intents : Listed (IntentTree N)
  pub upto : Place

-- a loop's variables: one name, or two or three in round brackets
pub data VariablesTree (N : Type 0) : Type 0 where
  OneVariable : Placed N → VariablesTree N
  ManyVariables : Place → Listed (Placed N) → Place → VariablesTree N

-- what is assigned: a name, or an element of an array
pub data TargetTree (N : Type 0) : Type 0 where
  Whole : Placed N → TargetTree N
  Element : Placed N → BracketPair → Place → Exprs N → Place → TargetTree N

-- a cell's call as a statement: the place of its word, and those of its brackets
pub data CallTree (N : Type 0) : Type 0 where
  ReadCall : Place → ReadWord → Place → Place → CallTree N
  ResetCall : Place → Place → Place → CallTree N
  WriteCall : Place → WriteWord → Place → ExprTree N → Place → CallTree N

-- the words of statements with an expression before their body
pub data HeadWord : Type 0 where
  WhileWord : HeadWord
  OnWord : HeadWord

-- the words of loops over indices
pub data LoopWord : Type 0 where
  ForWord : LoopWord
  ForallWord : LoopWord
  CoforallWord : LoopWord

mutual
  -- Statements. Those with a body hold a statement, and so their parts stand side by side. A `for` has no intents.
  pub data StmtTree (N : Type 0) : Type 0 where
    Nothing : Place → StmtTree N
    Declare : DeclareTree N → StmtTree N
    Assigned : TargetTree N → AssignTree → ItemTree N → Place → StmtTree N
    Call : Placed N → Place → CallTree N → Place → StmtTree N
    Write : WriteTree N → StmtTree N
    Block : Place → Stmts N → Place → StmtTree N
    If : Place → ExprTree N → Body N → Else N → StmtTree N
    Headed : HeadWord → Place → ExprTree N → Body N → StmtTree N
    Loop : LoopWord → Place → VariablesTree N → Place → ItemTree N → Option (WithTree N) → Body N → StmtTree N

  -- a body, and what is done where a condition holds: `do` or `then` and a statement, or a block
  pub data Body (N : Type 0) : Type 0 where
    WordBody : Place → StmtTree N → Body N
    BlockBody : Place → Stmts N → Place → Body N

  pub data Stmts (N : Type 0) : Type 0 where
    NoStmts : Stmts N
    Then : StmtTree N → Stmts N → Stmts N

  -- `else` and a statement, or nothing
  pub data Else (N : Type 0) : Type 0 where
    NoElse : Else N
    ElseDo : Place → StmtTree N → Else N

pub record ModuleTree : Type 0 where
  pub at : Place
  pub word : Module

pub record UseTree : Type 0 where
  pub at : Place
  pub modules : Listed ModuleTree
  pub semicolon : Place

-- a program: its `use` lines, its statements, and the place of the text's end
pub record ProgramTree (N : Type 0) : Type 0 where
  pub uses : List UseTree
  pub stmts : Stmts N
  pub end : Place
