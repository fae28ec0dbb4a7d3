-- Trees without the words of tasks: no locale, no task and no cell is named anywhere in them, nor in their maps.
-- What such a program means doesn't hang on the number of locales.
use Rattle.std.specs.Prelude.{List, [], ◌∷◌, Option, Some, None}
use Rattle.dpl_language.specs.Tree.{AfterComma, Listed, ExprTree, Number, TruthWord, Named, LocalesWord, LocaleCount, HereWord, Grouped, DomainLiteral, Prefixed, Reduced, Chain, Postfixed, ItemTree, One, RangeItem, Stride, NoStride, By, Links, NoLinks, Link, Posts, NoPosts, Post, PostTree, Brackets, Rounds, Dotted, MethodTree, Plainly, Dim, Contains, Expand, CellRead, Items, FirstItem, MoreItems, NoItems, NextItem, Exprs, FirstExpr, MoreExprs, NoExprs, NextExpr}
use Rattle.dpl_language.specs.Tree.{StartTree, StartExpr, StartTuple, MapTree, BlockMap, CyclicMap, BlockCyclicMap, MappedTree, TypeTree, ScalarType, SyncType, DomainType, ArrayType, InitTree, ItemInit, CreateInit, TypedTree, InitialTree, DeclareTree, ArgumentTree, TextArgument, ExprArgument, WriteTree, TargetTree, Whole, Element, CallTree, ReadCall, ResetCall, WriteCall, HeadWord, OnWord, LoopWord, CoforallWord, StmtTree, Nothing, Declare, Assigned, Call, Write, Block, If, Headed, Loop, Body, WordBody, BlockBody, Stmts, NoStmts, Then, Else, NoElse, ElseDo}

-- of what may be left out, and of the parts of a list with commas
abbrev pub UntaskedIf : {A : Type 0} → (A → Type 0) → Option A → Type 0
UntaskedIf P None = Unit {0}
UntaskedIf P (Some x) = P x

abbrev pub UntaskedOthers : {A : Type 0} → (A → Type 0) → List (AfterComma A) → Type 0
UntaskedOthers P [] = Unit {0}
UntaskedOthers P (x ∷ xs) = P x.part × UntaskedOthers P xs

abbrev pub UntaskedList : {A : Type 0} → (A → Type 0) → Listed A → Type 0
UntaskedList P xs = P xs.first × UntaskedOthers P xs.others

-- `on` and `coforall` are words of tasks
abbrev pub UntaskedHead : HeadWord → Type 0
UntaskedHead OnWord = ⊥
UntaskedHead _ = Unit {0}

abbrev pub UntaskedLoop : LoopWord → Type 0
UntaskedLoop CoforallWord = ⊥
UntaskedLoop _ = Unit {0}

module _ {N : Type 0} where
  -- EXPRESSIONS
  abbrev mutual
    pub UntaskedExpr : ExprTree N → Type 0
    UntaskedExpr (Number at n) = Unit {0}
    UntaskedExpr (TruthWord at b) = Unit {0}
    UntaskedExpr (Named x) = Unit {0}
    UntaskedExpr (LocalesWord at) = ⊥
    UntaskedExpr (LocaleCount at) = ⊥
    UntaskedExpr (HereWord at) = ⊥
    UntaskedExpr (Grouped from item upto) = UntaskedItem item
    UntaskedExpr (DomainLiteral from items upto) = UntaskedItems items
    UntaskedExpr (Prefixed at op e) = UntaskedExpr e
    UntaskedExpr (Reduced at op word e) = UntaskedExpr e
    UntaskedExpr (Chain e rest) = UntaskedExpr e × UntaskedLinks rest
    UntaskedExpr (Postfixed e posts) = UntaskedExpr e × UntaskedPosts posts

    pub UntaskedItem : ItemTree N → Type 0
    UntaskedItem (One e) = UntaskedExpr e
    UntaskedItem (RangeItem low at dots high by) = UntaskedExpr low × UntaskedExpr high × UntaskedStride by

    pub UntaskedStride : Stride N → Type 0
    UntaskedStride NoStride = Unit {0}
    UntaskedStride (By at e) = UntaskedExpr e

    pub UntaskedLinks : Links N → Type 0
    UntaskedLinks NoLinks = Unit {0}
    UntaskedLinks (Link at op e rest) = UntaskedExpr e × UntaskedLinks rest

    pub UntaskedPosts : Posts N → Type 0
    UntaskedPosts NoPosts = Unit {0}
    UntaskedPosts (Post p rest) = UntaskedPost p × UntaskedPosts rest

    pub UntaskedPost : PostTree N → Type 0
    UntaskedPost (Brackets from items upto) = UntaskedItems items
    UntaskedPost (Rounds from es upto) = UntaskedExprs es
    UntaskedPost (Dotted dot m) = UntaskedMethod m

    pub UntaskedMethod : MethodTree N → Type 0
    UntaskedMethod (Plainly at w) = Unit {0}
    UntaskedMethod (Dim at from rank_at d upto) = Unit {0}
    UntaskedMethod (Contains at from es upto) = UntaskedExprs es
    UntaskedMethod (Expand at from e upto) = UntaskedExpr e
    UntaskedMethod (CellRead at w from upto) = Unit {0}

    pub UntaskedItems : Items N → Type 0
    UntaskedItems (FirstItem i more) = UntaskedItem i × UntaskedMoreItems more

    pub UntaskedMoreItems : MoreItems N → Type 0
    UntaskedMoreItems NoItems = Unit {0}
    UntaskedMoreItems (NextItem comma i more) = UntaskedItem i × UntaskedMoreItems more

    pub UntaskedExprs : Exprs N → Type 0
    UntaskedExprs (FirstExpr e more) = UntaskedExpr e × UntaskedMoreExprs more

    pub UntaskedMoreExprs : MoreExprs N → Type 0
    UntaskedMoreExprs NoExprs = Unit {0}
    UntaskedMoreExprs (NextExpr comma e more) = UntaskedExpr e × UntaskedMoreExprs more

  -- DECLARATIONS
  abbrev pub UntaskedStart : StartTree N → Type 0
  UntaskedStart (StartExpr e) = UntaskedExpr e
  UntaskedStart (StartTuple from xs upto) = UntaskedList UntaskedExpr xs

  abbrev pub UntaskedMap : MapTree N → Type 0
  UntaskedMap (BlockMap m) = UntaskedItem m.box
  UntaskedMap (CyclicMap m) = UntaskedStart m.start
  UntaskedMap (BlockCyclicMap m) = UntaskedStart m.start × UntaskedStart m.size

  abbrev pub UntaskedMapped : MappedTree N → Type 0
  UntaskedMapped m = UntaskedMap m.map

  abbrev pub UntaskedType : TypeTree N → Type 0
  UntaskedType (ScalarType at k) = Unit {0}
  UntaskedType (SyncType at kind_at k) = ⊥
  UntaskedType (DomainType d) = UntaskedIf UntaskedMapped d.mapped
  UntaskedType (ArrayType a) = UntaskedItems a.over

  abbrev pub UntaskedInit : InitTree N → Type 0
  UntaskedInit (ItemInit item mapped) = UntaskedItem item × UntaskedIf UntaskedMapped mapped
  UntaskedInit (CreateInit c) = UntaskedItems c.items

  abbrev pub UntaskedTyped : TypedTree N → Type 0
  UntaskedTyped t = UntaskedType t.type

  abbrev pub UntaskedInitial : InitialTree N → Type 0
  UntaskedInitial i = UntaskedInit i.init

  abbrev pub UntaskedDeclare : DeclareTree N → Type 0
  UntaskedDeclare d = UntaskedIf UntaskedTyped d.typed × UntaskedIf UntaskedInitial d.initial

  -- STATEMENTS
  abbrev pub UntaskedArgument : ArgumentTree N → Type 0
  UntaskedArgument (TextArgument at cs) = Unit {0}
  UntaskedArgument (ExprArgument e) = UntaskedExpr e

  abbrev pub UntaskedWrite : WriteTree N → Type 0
  UntaskedWrite w = UntaskedIf (UntaskedList UntaskedArgument) w.arguments

  abbrev pub UntaskedTarget : TargetTree N → Type 0
  UntaskedTarget (Whole x) = Unit {0}
  UntaskedTarget (Element x shape from es upto) = UntaskedExprs es

  abbrev pub UntaskedCall : CallTree N → Type 0
  UntaskedCall (ReadCall at w from upto) = Unit {0}
  UntaskedCall (ResetCall at from upto) = Unit {0}
  UntaskedCall (WriteCall at w from e upto) = UntaskedExpr e

  abbrev mutual
    pub UntaskedStmt : StmtTree N → Type 0
    UntaskedStmt (Nothing at) = Unit {0}
    UntaskedStmt (Declare d) = UntaskedDeclare d
    UntaskedStmt (Assigned target sign item semicolon) = UntaskedTarget target × UntaskedItem item
    UntaskedStmt (Call x dot call semicolon) = UntaskedCall call
    UntaskedStmt (Write w) = UntaskedWrite w
    UntaskedStmt (Block from body upto) = UntaskedStmts body
    UntaskedStmt (If at e first second) = UntaskedExpr e × UntaskedBody first × UntaskedElse second
    UntaskedStmt (Headed word at e body) = UntaskedExpr e × UntaskedBody body × UntaskedHead word
    UntaskedStmt (Loop word at xs within item intents body) = UntaskedItem item × UntaskedBody body × UntaskedLoop word

    pub UntaskedBody : Body N → Type 0
    UntaskedBody (WordBody at t) = UntaskedStmt t
    UntaskedBody (BlockBody from ts upto) = UntaskedStmts ts

    pub UntaskedStmts : Stmts N → Type 0
    UntaskedStmts NoStmts = Unit {0}
    UntaskedStmts (Then t rest) = UntaskedStmt t × UntaskedStmts rest

    pub UntaskedElse : Else N → Type 0
    UntaskedElse NoElse = Unit {0}
    UntaskedElse (ElseDo at t) = UntaskedStmt t
