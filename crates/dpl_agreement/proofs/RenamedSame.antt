-- A tree with each name in its own place is the tree.
-- One lemma for each kind of tree; so what is shown of trees with other names holds of a tree itself.
use Rattle.std.proofs.Common.{◌≡◌, List, [], ◌∷◌, refl, ap, ◌∙◌, Some, None, Option, map}
use Rattle.std.specs.Prelude.{option_map}
use Rattle.dpl_language.specs.Tree.{AfterComma, Listed, Op, ExprTree, Grouped, DomainLiteral, Prefixed, Reduced, Chain, Postfixed, ItemTree, One, RangeItem, Stride, NoStride, By, Links, NoLinks, Link, Posts, NoPosts, Post, PostTree, Brackets, Rounds, Dotted, MethodTree, Plainly, Dim, Contains, Expand, CellRead, Items, FirstItem, MoreItems, NoItems, NextItem, Exprs, FirstExpr, MoreExprs, NoExprs, NextExpr}
use Rattle.dpl_language.specs.Tree.{StartTree, StartExpr, StartTuple, MapTree, BlockMap, CyclicMap, BlockCyclicMap, MappedTree, TypeTree, ScalarType, SyncType, DomainType, ArrayType, InitTree, ItemInit, CreateInit, TypedTree, InitialTree, DeclareTree}
use Rattle.dpl_language.specs.Tree.{ArgumentTree, TextArgument, ExprArgument, WriteTree, IntentTree, ReduceIntent, RefIntent, WithTree, VariablesTree, OneVariable, ManyVariables, TargetTree, Whole, Element, CallTree, ReadCall, ResetCall, WriteCall, StmtTree, Nothing, Declare, Assigned, Call, Write, Block, If, Headed, Loop, Body, WordBody, BlockBody, Stmts, NoStmts, Then, Else, NoElse, ElseDo, ProgramTree}
use Rattle.dpl_language.specs.Environment.{Content, Plain, ArrayOf, CellOf}
use Rattle.dpl_agreement.specs.Renamed.{map_comma, map_listed, renamed, renamed_expr, renamed_item, renamed_stride, renamed_links, renamed_posts, renamed_post, renamed_method, renamed_items, renamed_more_items, renamed_exprs, renamed_more_exprs, renamed_start, renamed_map, renamed_mapped, renamed_type, renamed_init, renamed_typed, renamed_initial, renamed_declare, renamed_argument, renamed_write, renamed_intent, renamed_with, renamed_variables, renamed_target, renamed_call, renamed_stmt, renamed_body, renamed_stmts, renamed_else, renamed_program, renamed_content, renamed_intents}

-- a list with commas of which each part stays, and a part that may be there
pub map_listed-same : {A : Type 0} (f : A → A) → ((x : A) → f x ≡ x) → (xs : Listed A) → map_listed f xs ≡ xs
map_listed-same {A} f p xs =
    ap (λ y. record { first = y; others = map {A = AfterComma A} {B = AfterComma A} (map_comma f) xs.others }) (p xs.first)
    ∙ ap (λ ys. record { first = xs.first; others = ys }) (others-same xs.others)
  where
    others-same : (cs : List (AfterComma A)) → map {A = AfterComma A} {B = AfterComma A} (map_comma f) cs ≡ cs
    others-same [] = refl
    others-same (c ∷ cs) =
        ap (λ y. record { comma = c.comma; part = y } ∷ map {A = AfterComma A} {B = AfterComma A} (map_comma f) cs) (p c.part) ∙ ap (λ ds. c ∷ ds) (others-same cs)

pub option_map-same : {A : Type 0} (f : A → A) → ((x : A) → f x ≡ x) → (o : Option A) → option_map f o ≡ o
option_map-same f p None = refl
option_map-same f p (Some x) = ap (λ y. Some y) (p x)

module _ {N : Type 0} where
  -- each name in its own place
  abbrev itself : N → N
  itself x = x

  mutual
    pub renamed_expr-same : (e : ExprTree N) → renamed_expr itself e ≡ e
    renamed_expr-same (Grouped from item upto) = ap (λ i. Grouped from i upto) (renamed_item-same item)
    renamed_expr-same (DomainLiteral from items upto) = ap (λ is. DomainLiteral from is upto) (renamed_items-same items)
    renamed_expr-same (Prefixed at op e) = ap (Prefixed at op) (renamed_expr-same e)
    renamed_expr-same (Reduced at op word e) = ap (Reduced at op word) (renamed_expr-same e)
    renamed_expr-same (Chain e rest) = ap (λ e. Chain e (renamed_links itself rest)) (renamed_expr-same e) ∙ ap (Chain e) (renamed_links-same rest)
    renamed_expr-same (Postfixed e posts) = ap (λ e. Postfixed e (renamed_posts itself posts)) (renamed_expr-same e) ∙ ap (Postfixed e) (renamed_posts-same posts)
    renamed_expr-same _ = refl

    pub renamed_item-same : (i : ItemTree N) → renamed_item itself i ≡ i
    renamed_item-same (One e) = ap One (renamed_expr-same e)
    renamed_item-same (RangeItem low at dots high by) =
        ap (λ e. RangeItem e at dots (renamed_expr itself high) (renamed_stride itself by)) (renamed_expr-same low)
        ∙ ap (λ e. RangeItem low at dots e (renamed_stride itself by)) (renamed_expr-same high)
        ∙ ap (RangeItem low at dots high) (renamed_stride-same by)

    renamed_stride-same : (by : Stride N) → renamed_stride itself by ≡ by
    renamed_stride-same NoStride = refl
    renamed_stride-same (By at e) = ap (By at) (renamed_expr-same e)

    renamed_links-same : (l : Links N) → renamed_links itself l ≡ l
    renamed_links-same NoLinks = refl
    renamed_links-same (Link at op e rest) = ap (λ e. Link at op e (renamed_links itself rest)) (renamed_expr-same e) ∙ ap (Link at op e) (renamed_links-same rest)

    renamed_posts-same : (ps : Posts N) → renamed_posts itself ps ≡ ps
    renamed_posts-same NoPosts = refl
    renamed_posts-same (Post p rest) = ap (λ p. Post p (renamed_posts itself rest)) (renamed_post-same p) ∙ ap (Post p) (renamed_posts-same rest)

    renamed_post-same : (p : PostTree N) → renamed_post itself p ≡ p
    renamed_post-same (Brackets from items upto) = ap (λ is. Brackets from is upto) (renamed_items-same items)
    renamed_post-same (Rounds from es upto) = ap (λ es. Rounds from es upto) (renamed_exprs-same es)
    renamed_post-same (Dotted dot m) = ap (Dotted dot) (renamed_method-same m)

    renamed_method-same : (m : MethodTree N) → renamed_method itself m ≡ m
    renamed_method-same (Plainly at w) = refl
    renamed_method-same (Dim at from rank_at d upto) = refl
    renamed_method-same (Contains at from es upto) = ap (λ es. Contains at from es upto) (renamed_exprs-same es)
    renamed_method-same (Expand at from e upto) = ap (λ e. Expand at from e upto) (renamed_expr-same e)
    renamed_method-same (CellRead at w from upto) = refl

    pub renamed_items-same : (is : Items N) → renamed_items itself is ≡ is
    renamed_items-same (FirstItem i more) = ap (λ i. FirstItem i (renamed_more_items itself more)) (renamed_item-same i) ∙ ap (FirstItem i) (renamed_more_items-same more)

    renamed_more_items-same : (is : MoreItems N) → renamed_more_items itself is ≡ is
    renamed_more_items-same NoItems = refl
    renamed_more_items-same (NextItem comma i more) =
        ap (λ i. NextItem comma i (renamed_more_items itself more)) (renamed_item-same i) ∙ ap (NextItem comma i) (renamed_more_items-same more)

    pub renamed_exprs-same : (es : Exprs N) → renamed_exprs itself es ≡ es
    renamed_exprs-same (FirstExpr e more) = ap (λ e. FirstExpr e (renamed_more_exprs itself more)) (renamed_expr-same e) ∙ ap (FirstExpr e) (renamed_more_exprs-same more)

    renamed_more_exprs-same : (es : MoreExprs N) → renamed_more_exprs itself es ≡ es
    renamed_more_exprs-same NoExprs = refl
    renamed_more_exprs-same (NextExpr comma e more) =
        ap (λ e. NextExpr comma e (renamed_more_exprs itself more)) (renamed_expr-same e) ∙ ap (NextExpr comma e) (renamed_more_exprs-same more)

  -- MAPS, TYPES AND DECLARATIONS
  renamed_start-same : (s : StartTree N) → renamed_start itself s ≡ s
  renamed_start-same (StartExpr e) = ap StartExpr (renamed_expr-same e)
  renamed_start-same (StartTuple from es upto) = ap (λ es. StartTuple from es upto) (map_listed-same (renamed_expr itself) renamed_expr-same es)

  renamed_map-same : (m : MapTree N) → renamed_map itself m ≡ m
  renamed_map-same (BlockMap m) =
      ap (λ i. BlockMap (record { new = m.new; word = m.word; from = m.from; argument = m.argument; box = i; upto = m.upto })) (renamed_item-same m.box)
  renamed_map-same (CyclicMap m) =
      ap (λ s. CyclicMap (record { new = m.new; word = m.word; from = m.from; argument = m.argument; start = s; upto = m.upto })) (renamed_start-same m.start)
  renamed_map-same (BlockCyclicMap m) =
      ap (λ s. BlockCyclicMap (record {
        new = m.new;
        word = m.word;
        from = m.from;
        start_argument = m.start_argument;
        start = s;
        comma = m.comma;
        size_argument = m.size_argument;
        size = renamed_start itself m.size;
        upto = m.upto;
      })) (renamed_start-same m.start)
      ∙ ap (λ s. BlockCyclicMap (record {
        new = m.new;
        word = m.word;
        from = m.from;
        start_argument = m.start_argument;
        start = m.start;
        comma = m.comma;
        size_argument = m.size_argument;
        size = s;
        upto = m.upto;
      })) (renamed_start-same m.size)

  renamed_mapped-same : (m : MappedTree N) → renamed_mapped itself m ≡ m
  renamed_mapped-same m = ap (λ k. record { at = m.at; map = k }) (renamed_map-same m.map)

  renamed_type-same : (t : TypeTree N) → renamed_type itself t ≡ t
  renamed_type-same (ScalarType at k) = refl
  renamed_type-same (SyncType at kind_at k) = refl
  renamed_type-same (DomainType d) =
      ap (λ o. DomainType (record { at = d.at; from = d.from; rank_at = d.rank_at; rank = d.rank; upto = d.upto; mapped = o }))
      (option_map-same (renamed_mapped itself) renamed_mapped-same d.mapped)
  renamed_type-same (ArrayType a) =
      ap (λ is. ArrayType (record { from = a.from; over = is; upto = a.upto; kind_at = a.kind_at; kind = a.kind })) (renamed_items-same a.over)

  renamed_init-same : (i : InitTree N) → renamed_init itself i ≡ i
  renamed_init-same (ItemInit item mapped) =
      ap (λ i. ItemInit i (option_map (renamed_mapped itself) mapped)) (renamed_item-same item)
      ∙ ap (ItemInit item) (option_map-same (renamed_mapped itself) renamed_mapped-same mapped)
  renamed_init-same (CreateInit c) =
      ap (λ is. CreateInit (record { at = c.at; word = c.word; dot = c.dot; method = c.method; from = c.from; items = is; upto = c.upto })) (renamed_items-same c.items)

  renamed_typed-same : (t : TypedTree N) → renamed_typed itself t ≡ t
  renamed_typed-same t = ap (λ k. record { colon = t.colon; type = k }) (renamed_type-same t.type)

  renamed_initial-same : (i : InitialTree N) → renamed_initial itself i ≡ i
  renamed_initial-same i = ap (λ k. record { equals = i.equals; init = k }) (renamed_init-same i.init)

  renamed_declare-same : (d : DeclareTree N) → renamed_declare itself d ≡ d
  renamed_declare-same d =
      ap (λ t. record {
        config = d.config;
        at = d.at;
        constant = d.constant;
        name = d.name;
        typed = t;
        initial = option_map (renamed_initial itself) d.initial;
        semicolon = d.semicolon;
      }) (option_map-same (renamed_typed itself) renamed_typed-same d.typed)
      ∙ ap (λ i. record {
        config = d.config;
        at = d.at;
        constant = d.constant;
        name = d.name;
        typed = d.typed;
        initial = i;
        semicolon = d.semicolon;
      }) (option_map-same (renamed_initial itself) renamed_initial-same d.initial)

  -- STATEMENTS
  renamed_argument-same : (a : ArgumentTree N) → renamed_argument itself a ≡ a
  renamed_argument-same (TextArgument at cs) = refl
  renamed_argument-same (ExprArgument e) = ap ExprArgument (renamed_expr-same e)

  renamed_write-same : (w : WriteTree N) → renamed_write itself w ≡ w
  renamed_write-same w =
      ap (λ xs. record { at = w.at; ends_line = w.ends_line; from = w.from; arguments = xs; upto = w.upto; semicolon = w.semicolon })
      (option_map-same (map_listed (renamed_argument itself)) (map_listed-same (renamed_argument itself) renamed_argument-same) w.arguments)

  renamed_intent-same : (i : IntentTree N) → renamed_intent itself i ≡ i
  renamed_intent-same (ReduceIntent at op word x) = refl
  renamed_intent-same (RefIntent at x) = refl

  renamed_with-same : (w : WithTree N) → renamed_with itself w ≡ w
  renamed_with-same w = ap (λ is. record { at = w.at; from = w.from; intents = is; upto = w.upto }) (map_listed-same (renamed_intent itself) renamed_intent-same w.intents)

  renamed_variables-same : (xs : VariablesTree N) → renamed_variables itself xs ≡ xs
  renamed_variables-same (OneVariable x) = refl
  renamed_variables-same (ManyVariables from xs upto) = ap (λ xs. ManyVariables from xs upto) (map_listed-same (renamed itself) (λ x. refl) xs)

  renamed_target-same : (t : TargetTree N) → renamed_target itself t ≡ t
  renamed_target-same (Whole x) = refl
  renamed_target-same (Element x shape from es upto) = ap (λ es. Element x shape from es upto) (renamed_exprs-same es)

  renamed_call-same : (c : CallTree N) → renamed_call itself c ≡ c
  renamed_call-same (ReadCall at w from upto) = refl
  renamed_call-same (ResetCall at from upto) = refl
  renamed_call-same (WriteCall at w from e upto) = ap (λ e. WriteCall at w from e upto) (renamed_expr-same e)

  mutual
    pub renamed_stmt-same : (t : StmtTree N) → renamed_stmt itself t ≡ t
    renamed_stmt-same (Nothing at) = refl
    renamed_stmt-same (Declare d) = ap Declare (renamed_declare-same d)
    renamed_stmt-same (Assigned target sign item semicolon) =
        ap (λ t. Assigned t sign (renamed_item itself item) semicolon) (renamed_target-same target) ∙ ap (λ i. Assigned target sign i semicolon) (renamed_item-same item)
    renamed_stmt-same (Call x dot call semicolon) = ap (λ c. Call x dot c semicolon) (renamed_call-same call)
    renamed_stmt-same (Write w) = ap Write (renamed_write-same w)
    renamed_stmt-same (Block from body upto) = ap (λ b. Block from b upto) (renamed_stmts-same body)
    renamed_stmt-same (If at e first second) =
        ap (λ e. If at e (renamed_body itself first) (renamed_else itself second)) (renamed_expr-same e)
        ∙ ap (λ b. If at e b (renamed_else itself second)) (renamed_body-same first) ∙ ap (If at e first) (renamed_else-same second)
    renamed_stmt-same (Headed word at e body) =
        ap (λ e. Headed word at e (renamed_body itself body)) (renamed_expr-same e) ∙ ap (Headed word at e) (renamed_body-same body)
    renamed_stmt-same (Loop word at xs within item intents body) =
        ap (λ ys. Loop word at ys within (renamed_item itself item) (option_map (renamed_with itself) intents) (renamed_body itself body)) (renamed_variables-same xs)
        ∙ ap (λ i. Loop word at xs within i (option_map (renamed_with itself) intents) (renamed_body itself body)) (renamed_item-same item)
        ∙ ap (λ w. Loop word at xs within item w (renamed_body itself body)) (option_map-same (renamed_with itself) renamed_with-same intents)
        ∙ ap (Loop word at xs within item intents) (renamed_body-same body)

    pub renamed_body-same : (b : Body N) → renamed_body itself b ≡ b
    renamed_body-same (WordBody at t) = ap (WordBody at) (renamed_stmt-same t)
    renamed_body-same (BlockBody from ts upto) = ap (λ ts. BlockBody from ts upto) (renamed_stmts-same ts)

    pub renamed_stmts-same : (ts : Stmts N) → renamed_stmts itself ts ≡ ts
    renamed_stmts-same NoStmts = refl
    renamed_stmts-same (Then t rest) = ap (λ t. Then t (renamed_stmts itself rest)) (renamed_stmt-same t) ∙ ap (Then t) (renamed_stmts-same rest)

    renamed_else-same : (o : Else N) → renamed_else itself o ≡ o
    renamed_else-same NoElse = refl
    renamed_else-same (ElseDo at t) = ap (ElseDo at) (renamed_stmt-same t)

  pub renamed_program-same : (t : ProgramTree N) → renamed_program itself t ≡ t
  renamed_program-same t = ap (λ ts. record { uses = t.uses; stmts = ts; end = t.end }) (renamed_stmts-same t.stmts)

  -- WHAT IS DECLARED, AND THE REDUCE VARIABLES OF A FORALL
  pub renamed_content-same : (c : Content N) → renamed_content itself c ≡ c
  renamed_content-same (Plain v) = refl
  renamed_content-same (ArrayOf over k rs vs) = ap (λ o. ArrayOf o k rs vs) (option_map-same itself (λ x. refl) over)
  renamed_content-same (CellOf k c) = refl

  pub renamed_intents-same : (is : List (N × Op)) → renamed_intents itself is ≡ is
  renamed_intents-same [] = refl
  renamed_intents-same (p ∷ ps) = ap (λ qs. p ∷ qs) (renamed_intents-same ps)
