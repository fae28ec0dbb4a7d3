-- Trees with another thing in the place of each name.
-- A checked tree, with the texts of its names in their place, is the tree that is spelled.
use Rattle.std.specs.Prelude.{List, [], ◌∷◌, map, option_map}
use Rattle.dpl_language.specs.Tree.{Placed, AfterComma, Listed, Op, ExprTree, Number, TruthWord, Named, LocalesWord, LocaleCount, HereWord, Grouped, DomainLiteral, Prefixed, Reduced, Chain, Postfixed, ItemTree, One, RangeItem, Stride, NoStride, By, Links, NoLinks, Link, Posts, NoPosts, Post, PostTree, Brackets, Rounds, Dotted, MethodTree, Plainly, Dim, Contains, Expand, CellRead, Items, FirstItem, MoreItems, NoItems, NextItem, Exprs, FirstExpr, MoreExprs, NoExprs, NextExpr}
use Rattle.dpl_language.specs.Tree.{StartTree, StartExpr, StartTuple, MapTree, BlockMap, CyclicMap, BlockCyclicMap, MappedTree, ArrayTypeTree, TypeTree, ScalarType, SyncType, DomainType, ArrayType, InitTree, ItemInit, CreateInit, TypedTree, InitialTree, DeclareTree}
use Rattle.dpl_language.specs.Tree.{ArgumentTree, TextArgument, ExprArgument, WriteTree, IntentTree, ReduceIntent, RefIntent, WithTree, VariablesTree, OneVariable, ManyVariables, TargetTree, Whole, Element, CallTree, ReadCall, ResetCall, WriteCall, StmtTree, Nothing, Declare, Assigned, Call, Write, Block, If, Headed, Loop, Body, WordBody, BlockBody, Stmts, NoStmts, Then, Else, NoElse, ElseDo, ProgramTree}
use Rattle.dpl_language.specs.Environment.{Content, Plain, ArrayOf, CellOf}
use Rattle.dpl_language.specs.Phrases.{Base, BaseName, BaseLocales, OtherBase, ReadTree}

-- a list with commas, of which each part is changed
abbrev pub map_comma : {A B : Type 0} → (A → B) → AfterComma A → AfterComma B
map_comma change x = record { comma = x.comma; part = change x.part }

abbrev pub map_listed : {A B : Type 0} → (A → B) → Listed A → Listed B
map_listed {A} {B} change xs =
    record { first = change xs.first; others = map {A = AfterComma A} {B = AfterComma B} (map_comma change) xs.others }

module _ {M N : Type 0} (f : M → N) where
  abbrev pub renamed : Placed M → Placed N
  renamed x = record { at = x.at; name = f x.name }

  -- EXPRESSIONS
  abbrev mutual
    pub renamed_expr : ExprTree M → ExprTree N
    renamed_expr (Number at n) = Number at n
    renamed_expr (TruthWord at b) = TruthWord at b
    renamed_expr (Named x) = Named (renamed x)
    renamed_expr (LocalesWord at) = LocalesWord at
    renamed_expr (LocaleCount at) = LocaleCount at
    renamed_expr (HereWord at) = HereWord at
    renamed_expr (Grouped from item upto) = Grouped from (renamed_item item) upto
    renamed_expr (DomainLiteral from items upto) = DomainLiteral from (renamed_items items) upto
    renamed_expr (Prefixed at op e) = Prefixed at op (renamed_expr e)
    renamed_expr (Reduced at op word e) = Reduced at op word (renamed_expr e)
    renamed_expr (Chain e rest) = Chain (renamed_expr e) (renamed_links rest)
    renamed_expr (Postfixed e posts) = Postfixed (renamed_expr e) (renamed_posts posts)

    pub renamed_item : ItemTree M → ItemTree N
    renamed_item (One e) = One (renamed_expr e)
    renamed_item (RangeItem low at dots high by) =
        RangeItem (renamed_expr low) at dots (renamed_expr high) (renamed_stride by)

    pub renamed_stride : Stride M → Stride N
    renamed_stride NoStride = NoStride
    renamed_stride (By at e) = By at (renamed_expr e)

    pub renamed_links : Links M → Links N
    renamed_links NoLinks = NoLinks
    renamed_links (Link at op e rest) = Link at op (renamed_expr e) (renamed_links rest)

    pub renamed_posts : Posts M → Posts N
    renamed_posts NoPosts = NoPosts
    renamed_posts (Post p rest) = Post (renamed_post p) (renamed_posts rest)

    pub renamed_post : PostTree M → PostTree N
    renamed_post (Brackets from items upto) = Brackets from (renamed_items items) upto
    renamed_post (Rounds from es upto) = Rounds from (renamed_exprs es) upto
    renamed_post (Dotted dot m) = Dotted dot (renamed_method m)

    pub renamed_method : MethodTree M → MethodTree N
    renamed_method (Plainly at w) = Plainly at w
    renamed_method (Dim at from rank_at d upto) = Dim at from rank_at d upto
    renamed_method (Contains at from es upto) = Contains at from (renamed_exprs es) upto
    renamed_method (Expand at from e upto) = Expand at from (renamed_expr e) upto
    renamed_method (CellRead at w from upto) = CellRead at w from upto

    pub renamed_items : Items M → Items N
    renamed_items (FirstItem i more) = FirstItem (renamed_item i) (renamed_more_items more)

    pub renamed_more_items : MoreItems M → MoreItems N
    renamed_more_items NoItems = NoItems
    renamed_more_items (NextItem comma i more) = NextItem comma (renamed_item i) (renamed_more_items more)

    pub renamed_exprs : Exprs M → Exprs N
    renamed_exprs (FirstExpr e more) = FirstExpr (renamed_expr e) (renamed_more_exprs more)

    pub renamed_more_exprs : MoreExprs M → MoreExprs N
    renamed_more_exprs NoExprs = NoExprs
    renamed_more_exprs (NextExpr comma e more) = NextExpr comma (renamed_expr e) (renamed_more_exprs more)

  -- MAPS, TYPES AND DECLARATIONS
  abbrev pub renamed_start : StartTree M → StartTree N
  renamed_start (StartExpr e) = StartExpr (renamed_expr e)
  renamed_start (StartTuple from es upto) = StartTuple from (map_listed renamed_expr es) upto

  abbrev pub renamed_map : MapTree M → MapTree N
  renamed_map (BlockMap m) = BlockMap (record { new = m.new; word = m.word; from = m.from; argument = m.argument; box = renamed_item m.box; upto = m.upto })
  renamed_map (CyclicMap m) = CyclicMap (record { new = m.new; word = m.word; from = m.from; argument = m.argument; start = renamed_start m.start; upto = m.upto })
  renamed_map (BlockCyclicMap m) = BlockCyclicMap (record {
    new = m.new;
    word = m.word;
    from = m.from;
    start_argument = m.start_argument;
    start = renamed_start m.start;
    comma = m.comma;
    size_argument = m.size_argument;
    size = renamed_start m.size;
    upto = m.upto;
  })

  abbrev pub renamed_mapped : MappedTree M → MappedTree N
  renamed_mapped m = record { at = m.at; map = renamed_map m.map }

  abbrev pub renamed_array_type : ArrayTypeTree M → ArrayTypeTree N
  renamed_array_type a = record { from = a.from; over = renamed_items a.over; upto = a.upto; kind_at = a.kind_at; kind = a.kind }

  abbrev pub renamed_type : TypeTree M → TypeTree N
  renamed_type (ScalarType at k) = ScalarType at k
  renamed_type (SyncType at kind_at k) = SyncType at kind_at k
  renamed_type (DomainType d) = DomainType (record {
    at = d.at;
    from = d.from;
    rank_at = d.rank_at;
    rank = d.rank;
    upto = d.upto;
    mapped = option_map renamed_mapped d.mapped;
  })
  renamed_type (ArrayType a) = ArrayType (renamed_array_type a)

  abbrev pub renamed_init : InitTree M → InitTree N
  renamed_init (ItemInit item mapped) = ItemInit (renamed_item item) (option_map renamed_mapped mapped)
  renamed_init (CreateInit c) = CreateInit (record {
    at = c.at;
    word = c.word;
    dot = c.dot;
    method = c.method;
    from = c.from;
    items = renamed_items c.items;
    upto = c.upto;
  })

  abbrev pub renamed_typed : TypedTree M → TypedTree N
  renamed_typed t = record { colon = t.colon; type = renamed_type t.type }

  abbrev pub renamed_initial : InitialTree M → InitialTree N
  renamed_initial i = record { equals = i.equals; init = renamed_init i.init }

  abbrev pub renamed_declare : DeclareTree M → DeclareTree N
  renamed_declare d = record {
    config = d.config;
    at = d.at;
    constant = d.constant;
    name = renamed d.name;
    typed = option_map renamed_typed d.typed;
    initial = option_map renamed_initial d.initial;
    semicolon = d.semicolon;
  }

  -- STATEMENTS
  abbrev pub renamed_argument : ArgumentTree M → ArgumentTree N
  renamed_argument (TextArgument at cs) = TextArgument at cs
  renamed_argument (ExprArgument e) = ExprArgument (renamed_expr e)

  abbrev pub renamed_write : WriteTree M → WriteTree N
  renamed_write w = record {
    at = w.at;
    ends_line = w.ends_line;
    from = w.from;
    arguments = option_map (map_listed renamed_argument) w.arguments;
    upto = w.upto;
    semicolon = w.semicolon;
  }

  abbrev pub renamed_intent : IntentTree M → IntentTree N
  renamed_intent (ReduceIntent at op word x) = ReduceIntent at op word (renamed x)
  renamed_intent (RefIntent at x) = RefIntent at (renamed x)

  abbrev pub renamed_with : WithTree M → WithTree N
  renamed_with w = record { at = w.at; from = w.from; intents = map_listed renamed_intent w.intents; upto = w.upto }

  abbrev pub renamed_variables : VariablesTree M → VariablesTree N
  renamed_variables (OneVariable x) = OneVariable (renamed x)
  renamed_variables (ManyVariables from xs upto) = ManyVariables from (map_listed renamed xs) upto

  abbrev pub renamed_target : TargetTree M → TargetTree N
  renamed_target (Whole x) = Whole (renamed x)
  renamed_target (Element x shape from es upto) = Element (renamed x) shape from (renamed_exprs es) upto

  abbrev pub renamed_call : CallTree M → CallTree N
  renamed_call (ReadCall at w from upto) = ReadCall at w from upto
  renamed_call (ResetCall at from upto) = ResetCall at from upto
  renamed_call (WriteCall at w from e upto) = WriteCall at w from (renamed_expr e) upto

  abbrev mutual
    pub renamed_stmt : StmtTree M → StmtTree N
    renamed_stmt (Nothing at) = Nothing at
    renamed_stmt (Declare d) = Declare (renamed_declare d)
    renamed_stmt (Assigned target sign item semicolon) = Assigned (renamed_target target) sign (renamed_item item) semicolon
    renamed_stmt (Call x dot call semicolon) = Call (renamed x) dot (renamed_call call) semicolon
    renamed_stmt (Write w) = Write (renamed_write w)
    renamed_stmt (Block from body upto) = Block from (renamed_stmts body) upto
    renamed_stmt (If at e first second) = If at (renamed_expr e) (renamed_body first) (renamed_else second)
    renamed_stmt (Headed word at e body) = Headed word at (renamed_expr e) (renamed_body body)
    renamed_stmt (Loop word at xs within item intents body) =
        Loop word at (renamed_variables xs) within (renamed_item item) (option_map renamed_with intents) (renamed_body body)

    pub renamed_body : Body M → Body N
    renamed_body (WordBody at t) = WordBody at (renamed_stmt t)
    renamed_body (BlockBody from ts upto) = BlockBody from (renamed_stmts ts) upto

    pub renamed_stmts : Stmts M → Stmts N
    renamed_stmts NoStmts = NoStmts
    renamed_stmts (Then t rest) = Then (renamed_stmt t) (renamed_stmts rest)

    pub renamed_else : Else M → Else N
    renamed_else NoElse = NoElse
    renamed_else (ElseDo at t) = ElseDo at (renamed_stmt t)

  abbrev pub renamed_program : ProgramTree M → ProgramTree N
  renamed_program t = record { uses = t.uses; stmts = renamed_stmts t.stmts; end = t.end }

  -- WHAT IS SEEN OF TREES, AND WHAT IS DECLARED
  abbrev pub renamed_base : Base M → Base N
  renamed_base (BaseName x) = BaseName (renamed x)
  renamed_base (BaseLocales at) = BaseLocales at
  renamed_base OtherBase = OtherBase

  abbrev pub renamed_read : ReadTree M → ReadTree N
  renamed_read r = record { name = renamed r.name; op = r.op }

  abbrev pub renamed_content : Content M → Content N
  renamed_content (Plain v) = Plain v
  renamed_content (ArrayOf over k rs vs) = ArrayOf (option_map f over) k rs vs
  renamed_content (CellOf k c) = CellOf k c

  abbrev pub renamed_intents : List (M × Op) → List (N × Op)
  renamed_intents [] = []
  renamed_intents (p ∷ ps) = (f p.0, p.1) ∷ renamed_intents ps
