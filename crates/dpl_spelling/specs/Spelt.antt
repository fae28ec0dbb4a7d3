-- What is true of each tree that tokens spell: the operators of a chain are of one level, something stands behind each base that
-- isn't alone, a tuple that a map starts with has two or more, as a loop's bracketed variables have, and no statement inside of
-- another is a `config const`; of the place of each of its tokens P is true, where it is true of the places of the tokens; and
-- W is true where it has one of the words of tasks, where that follows for the tokens.
use Rattle.std.specs.Prelude.{◌≡◌, ◌≢◌, [], None}
use Rattle.dpl_syntax.specs.declared.place.Place.{Place}
use Rattle.dpl_language.specs.Spelled.{HasPosts, SaysType}
use Rattle.dpl_language.specs.Names.{Text}
use Rattle.dpl_language.specs.Tree.{Placed, AfterComma, Listed, Infix, Add, Subtract, Multiply, Divide, Remainder, Less, LessEqual, Greater, GreaterEqual, Equal, NotEqual, And, Or, AssignTree, Dots, Closed, HalfOpen, Counted, ExprTree, Number, TruthWord, Named, LocalesWord, LocaleCount, HereWord, Grouped, DomainLiteral, Prefixed, Reduced, Chain, Postfixed, ItemTree, One, RangeItem, Stride, NoStride, By, Links, NoLinks, Link, Posts, NoPosts, Post, PostTree, Brackets, Rounds, Dotted, MethodTree, Plainly, Dim, Contains, Expand, CellRead, Items, FirstItem, MoreItems, NoItems, NextItem, Exprs, FirstExpr, MoreExprs, NoExprs, NextExpr}
use Rattle.dpl_language.specs.Tree.{ArgumentName, StartTree, StartExpr, StartTuple, MapTree, BlockMap, CyclicMap, BlockCyclicMap, MappedTree, TypeTree, ScalarType, SyncType, DomainType, ArrayType, InitTree, ItemInit, CreateInit, TypedTree, InitialTree, DeclareTree}
use Rattle.dpl_language.specs.Tree.{ArgumentTree, TextArgument, ExprArgument, WriteTree, IntentTree, ReduceIntent, RefIntent, WithTree, VariablesTree, OneVariable, ManyVariables, TargetTree, Whole, Element, CallTree, ReadCall, ResetCall, WriteCall, HeadWord, OnWord, LoopWord, CoforallWord, StmtTree, Nothing, Declare, Assigned, Call, Write, Block, If, Headed, Loop, Body, WordBody, BlockBody, Stmts, NoStmts, Then, Else, NoElse, ElseDo}
use Rattle.dpl_grammar.specs.Each.{Each, IfThere}

-- the levels of operators, from the tightest on
pub data Level : Type 0 where
  Products : Level
  Sums : Level
  Relations : Level
  Equalities : Level
  Conjunctions : Level
  Disjunctions : Level

abbrev pub level_of : Infix → Level
level_of Add = Sums
level_of Subtract = Sums
level_of Multiply = Products
level_of Divide = Products
level_of Remainder = Products
level_of Less = Relations
level_of LessEqual = Relations
level_of Greater = Relations
level_of GreaterEqual = Relations
level_of Equal = Equalities
level_of NotEqual = Equalities
level_of And = Conjunctions
level_of Or = Disjunctions

-- all operators of a chain are of a level
abbrev pub AreOfLevel : {N : Type 0} → Level → Links N → Type 0
AreOfLevel l NoLinks = Unit {0}
AreOfLevel l (Link at op e rest) = (level_of op ≡ l) × AreOfLevel l rest

-- a chain has an operator, and all are of its level
abbrev pub IsOneLevel : {N : Type 0} → Links N → Type 0
IsOneLevel NoLinks = ⊥
IsOneLevel (Link at op e rest) = AreOfLevel (level_of op) rest

-- a statement that stands inside of another, and those of a block: no `config const`
abbrev pub IsInner : StmtTree Text → Type 0
IsInner (Declare d) = d.config ≡ None
IsInner _ = Unit {0}

abbrev pub AreInner : Stmts Text → Type 0
AreInner NoStmts = Unit {0}
AreInner (Then t rest) = IsInner t × AreInner rest

module _ (P : Place → Type 0) (W : Type 0) where
  abbrev pub NameSpelt : Placed Text → Type 0
  NameSpelt x = P x.at

  -- of each part of a list with commas, and the commas
  abbrev pub PartSpelt : {A : Type 0} → (A → Type 0) → AfterComma A → Type 0
  PartSpelt Q x = P x.comma × Q x.part

  abbrev pub ListSpelt : {A : Type 0} → (A → Type 0) → Listed A → Type 0
  ListSpelt Q xs = Q xs.first × Each (PartSpelt Q) xs.others

  abbrev pub DotsSpelt : Dots → Type 0
  DotsSpelt Closed = Unit {0}
  DotsSpelt HalfOpen = Unit {0}
  DotsSpelt (Counted at) = P at

  -- EXPRESSIONS
  abbrev mutual
    pub ExprSpelt : ExprTree Text → Type 0
    ExprSpelt (Number at n) = P at
    ExprSpelt (TruthWord at b) = P at
    ExprSpelt (Named x) = NameSpelt x
    ExprSpelt (LocalesWord at) = P at × W
    ExprSpelt (LocaleCount at) = P at × W
    ExprSpelt (HereWord at) = P at × W
    ExprSpelt (Grouped from item upto) = P from × ItemSpelt item × P upto
    ExprSpelt (DomainLiteral from items upto) = P from × ItemsSpelt items × P upto
    ExprSpelt (Prefixed at op e) = P at × ExprSpelt e
    ExprSpelt (Reduced at op word e) = P at × P word × ExprSpelt e
    ExprSpelt (Chain e rest) = IsOneLevel rest × ExprSpelt e × LinksSpelt rest
    ExprSpelt (Postfixed e posts) = HasPosts posts × ExprSpelt e × PostsSpelt posts

    pub ItemSpelt : ItemTree Text → Type 0
    ItemSpelt (One e) = ExprSpelt e
    ItemSpelt (RangeItem low at dots high by) = ExprSpelt low × P at × DotsSpelt dots × ExprSpelt high × StrideSpelt by

    pub StrideSpelt : Stride Text → Type 0
    StrideSpelt NoStride = Unit {0}
    StrideSpelt (By at e) = P at × ExprSpelt e

    pub LinksSpelt : Links Text → Type 0
    LinksSpelt NoLinks = Unit {0}
    LinksSpelt (Link at op e rest) = P at × ExprSpelt e × LinksSpelt rest

    pub PostsSpelt : Posts Text → Type 0
    PostsSpelt NoPosts = Unit {0}
    PostsSpelt (Post p rest) = PostSpelt p × PostsSpelt rest

    pub PostSpelt : PostTree Text → Type 0
    PostSpelt (Brackets from items upto) = P from × ItemsSpelt items × P upto
    PostSpelt (Rounds from es upto) = P from × ExprsSpelt es × P upto
    PostSpelt (Dotted dot m) = P dot × MethodSpelt m

    pub MethodSpelt : MethodTree Text → Type 0
    MethodSpelt (Plainly at w) = P at
    MethodSpelt (Dim at from rank_at d upto) = P at × P from × P rank_at × P upto
    MethodSpelt (Contains at from es upto) = P at × P from × ExprsSpelt es × P upto
    MethodSpelt (Expand at from e upto) = P at × P from × ExprSpelt e × P upto
    MethodSpelt (CellRead at w from upto) = P at × P from × P upto

    pub ItemsSpelt : Items Text → Type 0
    ItemsSpelt (FirstItem i more) = ItemSpelt i × MoreItemsSpelt more

    pub MoreItemsSpelt : MoreItems Text → Type 0
    MoreItemsSpelt NoItems = Unit {0}
    MoreItemsSpelt (NextItem comma i more) = P comma × ItemSpelt i × MoreItemsSpelt more

    pub ExprsSpelt : Exprs Text → Type 0
    ExprsSpelt (FirstExpr e more) = ExprSpelt e × MoreExprsSpelt more

    pub MoreExprsSpelt : MoreExprs Text → Type 0
    MoreExprsSpelt NoExprs = Unit {0}
    MoreExprsSpelt (NextExpr comma e more) = P comma × ExprSpelt e × MoreExprsSpelt more

  -- DECLARATIONS
  abbrev pub ArgumentNameSpelt : ArgumentName → Type 0
  ArgumentNameSpelt x = P x.at × P x.equals

  abbrev pub StartSpelt : StartTree Text → Type 0
  StartSpelt (StartExpr e) = ExprSpelt e
  StartSpelt (StartTuple from xs upto) = P from × ListSpelt ExprSpelt xs × P upto × (xs.others ≢ [])

  abbrev pub MapSpelt : MapTree Text → Type 0
  MapSpelt (BlockMap m) = P m.new × P m.word × P m.from × IfThere ArgumentNameSpelt m.argument × ItemSpelt m.box × P m.upto
  MapSpelt (CyclicMap m) = P m.new × P m.word × P m.from × IfThere ArgumentNameSpelt m.argument × StartSpelt m.start × P m.upto
  MapSpelt (BlockCyclicMap m) =
      P m.new × P m.word × P m.from × IfThere ArgumentNameSpelt m.start_argument × StartSpelt m.start × P m.comma
      × IfThere ArgumentNameSpelt m.size_argument × StartSpelt m.size × P m.upto

  abbrev pub MappedSpelt : MappedTree Text → Type 0
  MappedSpelt m = P m.at × MapSpelt m.map

  abbrev pub TypeSpelt : TypeTree Text → Type 0
  TypeSpelt (ScalarType at k) = P at
  TypeSpelt (SyncType at kind_at k) = P at × P kind_at × W
  TypeSpelt (DomainType d) = P d.at × P d.from × P d.rank_at × P d.upto × IfThere MappedSpelt d.mapped
  TypeSpelt (ArrayType a) = P a.from × ItemsSpelt a.over × P a.upto × P a.kind_at

  abbrev pub InitSpelt : InitTree Text → Type 0
  InitSpelt (ItemInit item mapped) = ItemSpelt item × IfThere MappedSpelt mapped
  InitSpelt (CreateInit c) = P c.at × P c.dot × P c.method × P c.from × ItemsSpelt c.items × P c.upto

  abbrev pub TypedSpelt : TypedTree Text → Type 0
  TypedSpelt t = P t.colon × TypeSpelt t.type

  abbrev pub InitialSpelt : InitialTree Text → Type 0
  InitialSpelt i = P i.equals × InitSpelt i.init

  abbrev pub DeclareSpelt : DeclareTree Text → Type 0
  DeclareSpelt d =
      SaysType d.typed d.initial × IfThere P d.config × P d.at × NameSpelt d.name
      × IfThere TypedSpelt d.typed × IfThere InitialSpelt d.initial × P d.semicolon

  -- STATEMENTS
  abbrev pub ArgumentSpelt : ArgumentTree Text → Type 0
  ArgumentSpelt (TextArgument at cs) = P at
  ArgumentSpelt (ExprArgument e) = ExprSpelt e

  abbrev pub WriteSpelt : WriteTree Text → Type 0
  WriteSpelt w = P w.at × P w.from × IfThere (ListSpelt ArgumentSpelt) w.arguments × P w.upto × P w.semicolon

  abbrev pub IntentSpelt : IntentTree Text → Type 0
  IntentSpelt (ReduceIntent at op word x) = P at × P word × NameSpelt x
  IntentSpelt (RefIntent at x) = P at × NameSpelt x

  abbrev pub WithSpelt : WithTree Text → Type 0
  WithSpelt w = P w.at × P w.from × ListSpelt IntentSpelt w.intents × P w.upto

  abbrev pub VariablesSpelt : VariablesTree Text → Type 0
  VariablesSpelt (OneVariable x) = NameSpelt x
  VariablesSpelt (ManyVariables from xs upto) = P from × ListSpelt NameSpelt xs × P upto × (xs.others ≢ [])

  abbrev pub TargetSpelt : TargetTree Text → Type 0
  TargetSpelt (Whole x) = NameSpelt x
  TargetSpelt (Element x shape from es upto) = NameSpelt x × P from × ExprsSpelt es × P upto

  abbrev pub SignSpelt : AssignTree → Type 0
  SignSpelt s = P s.at × P s.last

  abbrev pub CallSpelt : CallTree Text → Type 0
  CallSpelt (ReadCall at w from upto) = P at × P from × P upto
  CallSpelt (ResetCall at from upto) = P at × P from × P upto
  CallSpelt (WriteCall at w from e upto) = P at × P from × ExprSpelt e × P upto

  -- `on` and `coforall` are words of tasks
  abbrev pub HeadWordSpelt : HeadWord → Type 0
  HeadWordSpelt OnWord = W
  HeadWordSpelt _ = Unit {0}

  abbrev pub LoopWordSpelt : LoopWord → Type 0
  LoopWordSpelt CoforallWord = W
  LoopWordSpelt _ = Unit {0}

  abbrev mutual
    pub StmtSpelt : StmtTree Text → Type 0
    StmtSpelt (Nothing at) = P at
    StmtSpelt (Declare d) = DeclareSpelt d
    StmtSpelt (Assigned target sign item semicolon) = TargetSpelt target × SignSpelt sign × ItemSpelt item × P semicolon
    StmtSpelt (Call x dot call semicolon) = NameSpelt x × P dot × CallSpelt call × P semicolon
    StmtSpelt (Write w) = WriteSpelt w
    StmtSpelt (Block from body upto) = P from × StmtsSpelt body × P upto × AreInner body
    StmtSpelt (If at e first second) = P at × ExprSpelt e × BodySpelt first × ElseSpelt second
    StmtSpelt (Headed word at e body) = P at × ExprSpelt e × BodySpelt body × HeadWordSpelt word
    StmtSpelt (Loop word at xs within item intents body) =
        P at × VariablesSpelt xs × P within × ItemSpelt item × IfThere WithSpelt intents × BodySpelt body × LoopWordSpelt word

    pub BodySpelt : Body Text → Type 0
    BodySpelt (WordBody at t) = P at × StmtSpelt t × IsInner t
    BodySpelt (BlockBody from ts upto) = P from × StmtsSpelt ts × P upto × AreInner ts

    pub StmtsSpelt : Stmts Text → Type 0
    StmtsSpelt NoStmts = Unit {0}
    StmtsSpelt (Then t rest) = StmtSpelt t × StmtsSpelt rest

    pub ElseSpelt : Else Text → Type 0
    ElseSpelt NoElse = Unit {0}
    ElseSpelt (ElseDo at t) = P at × StmtSpelt t × IsInner t
