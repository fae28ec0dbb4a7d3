-- The tree that a text's tokens spell has none of the words of tasks, where none of its tokens is one.
-- First what specs/Spelt.antt of dpl_spelling says of such a tree, form by form.
use Rattle.std.proofs.Common.{◌≡◌, ℕ, Bool, true, false, cond, List, [], ◌∷◌, Option, Some, None, refl}
use Rattle.dpl_syntax.specs.declared.place.Place.{Place}
use Rattle.dpl_syntax.specs.declared.token.Token.{Token}
use Rattle.dpl_grammar.specs.Classes.{in_class, task_words, first_of}
use Rattle.dpl_grammar.specs.Each.{Each, IfThere}
use Rattle.dpl_language.specs.Names.{Text}
use Rattle.dpl_language.specs.Tree.{AfterComma, Listed, ExprTree, Number, TruthWord, Named, LocalesWord, LocaleCount, HereWord, Grouped, DomainLiteral, Prefixed, Reduced, Chain, Postfixed, ItemTree, One, RangeItem, Stride, NoStride, By, Links, NoLinks, Link, Posts, NoPosts, Post, PostTree, Brackets, Rounds, Dotted, MethodTree, Plainly, Dim, Contains, Expand, CellRead, Items, FirstItem, MoreItems, NoItems, NextItem, Exprs, FirstExpr, MoreExprs, NoExprs, NextExpr}
use Rattle.dpl_language.specs.Tree.{StartTree, StartExpr, StartTuple, MapTree, BlockMap, CyclicMap, BlockCyclicMap, MappedTree, TypeTree, ScalarType, SyncType, DomainType, ArrayType, InitTree, ItemInit, CreateInit, DeclareTree, ArgumentTree, TextArgument, ExprArgument, WriteTree, TargetTree, Whole, Element, CallTree, ReadCall, ResetCall, WriteCall, HeadWord, OnWord, LoopWord, CoforallWord, StmtTree, Nothing, Declare, Assigned, Call, Write, Block, If, Headed, Loop, Body, WordBody, BlockBody, Stmts, NoStmts, Then, Else, NoElse, ElseDo, ProgramTree}
use Rattle.dpl_agreement.specs.Untasked.{UntaskedIf, UntaskedOthers, UntaskedList, UntaskedExpr, UntaskedItem, UntaskedStride, UntaskedLinks, UntaskedPosts, UntaskedPost, UntaskedMethod, UntaskedItems, UntaskedMoreItems, UntaskedExprs, UntaskedMoreExprs, UntaskedStart, UntaskedMap, UntaskedMapped, UntaskedType, UntaskedInit, UntaskedTyped, UntaskedInitial, UntaskedDeclare, UntaskedArgument, UntaskedWrite, UntaskedTarget, UntaskedCall, UntaskedHead, UntaskedLoop, UntaskedStmt, UntaskedBody, UntaskedStmts, UntaskedElse}
use Rattle.dpl_spelling.specs.Spelt.{PartSpelt, ListSpelt, ExprSpelt, ItemSpelt, StrideSpelt, LinksSpelt, PostsSpelt, PostSpelt, MethodSpelt, ItemsSpelt, MoreItemsSpelt, ExprsSpelt, MoreExprsSpelt, StartSpelt, MapSpelt, MappedSpelt, TypeSpelt, InitSpelt, TypedSpelt, InitialSpelt, DeclareSpelt, ArgumentSpelt, WriteSpelt, TargetSpelt, CallSpelt, HeadWordSpelt, LoopWordSpelt, StmtSpelt, BodySpelt, StmtsSpelt, ElseSpelt}
use Rattle.dpl_spelling.specs.Theorem.{Spells}
use Rattle.dpl_spelling.proofs.Spelt.{TokenSpelt}
use Rattle.dpl_spelling.proofs.SpeltStatements.{Spells-spelt}

module _ (P : Place → Type 0) where
  -- what may be left out, and lists with commas
  if-untasked : {A : Type 0} (Q R : A → Type 0) → ((x : A) → Q x → R x) → (o : Option A) → IfThere Q o → UntaskedIf R o
  if-untasked Q R f None s = tt
  if-untasked Q R f (Some x) s = f x s

  others-untasked : {A : Type 0} (Q R : A → Type 0) → ((x : A) → Q x → R x) → (xs : List (AfterComma A)) → Each (PartSpelt P ⊥ Q) xs → UntaskedOthers R xs
  others-untasked Q R f [] s = tt
  others-untasked Q R f (x ∷ xs) s = (f x.part s.0.1, others-untasked Q R f xs s.1)

  list-untasked : {A : Type 0} (Q R : A → Type 0) → ((x : A) → Q x → R x) → (xs : Listed A) → ListSpelt P ⊥ Q xs → UntaskedList R xs
  list-untasked Q R f xs s = (f xs.first s.0, others-untasked Q R f xs.others s.1)

  -- EXPRESSIONS
  mutual
    pub expr-untasked : (e : ExprTree Text) → ExprSpelt P ⊥ e → UntaskedExpr e
    expr-untasked (Number at n) s = tt
    expr-untasked (TruthWord at b) s = tt
    expr-untasked (Named x) s = tt
    expr-untasked (LocalesWord at) s = s.1
    expr-untasked (LocaleCount at) s = s.1
    expr-untasked (HereWord at) s = s.1
    expr-untasked (Grouped from item upto) s = item-untasked item s.1
    expr-untasked (DomainLiteral from items upto) s = items-untasked items s.1
    expr-untasked (Prefixed at op e) s = expr-untasked e s.1
    expr-untasked (Reduced at op word e) s = expr-untasked e s.2
    expr-untasked (Chain e rest) s = (expr-untasked e s.1, links-untasked rest s.2)
    expr-untasked (Postfixed e posts) s = (expr-untasked e s.1, posts-untasked posts s.2)

    pub item-untasked : (i : ItemTree Text) → ItemSpelt P ⊥ i → UntaskedItem i
    item-untasked (One e) s = expr-untasked e s
    item-untasked (RangeItem low at dots high by) s = (expr-untasked low s.0, expr-untasked high s.3, stride-untasked by s.4)

    stride-untasked : (by : Stride Text) → StrideSpelt P ⊥ by → UntaskedStride by
    stride-untasked NoStride s = tt
    stride-untasked (By at e) s = expr-untasked e s.1

    links-untasked : (ls : Links Text) → LinksSpelt P ⊥ ls → UntaskedLinks ls
    links-untasked NoLinks s = tt
    links-untasked (Link at op e rest) s = (expr-untasked e s.1, links-untasked rest s.2)

    posts-untasked : (ps : Posts Text) → PostsSpelt P ⊥ ps → UntaskedPosts ps
    posts-untasked NoPosts s = tt
    posts-untasked (Post p rest) s = (post-untasked p s.0, posts-untasked rest s.1)

    post-untasked : (p : PostTree Text) → PostSpelt P ⊥ p → UntaskedPost p
    post-untasked (Brackets from items upto) s = items-untasked items s.1
    post-untasked (Rounds from es upto) s = exprs-untasked es s.1
    post-untasked (Dotted dot m) s = method-untasked m s.1

    method-untasked : (m : MethodTree Text) → MethodSpelt P ⊥ m → UntaskedMethod m
    method-untasked (Plainly at w) s = tt
    method-untasked (Dim at from rank_at d upto) s = tt
    method-untasked (Contains at from es upto) s = exprs-untasked es s.2
    method-untasked (Expand at from e upto) s = expr-untasked e s.2
    method-untasked (CellRead at w from upto) s = tt

    pub items-untasked : (items : Items Text) → ItemsSpelt P ⊥ items → UntaskedItems items
    items-untasked (FirstItem i more) s = (item-untasked i s.0, more_items-untasked more s.1)

    more_items-untasked : (more : MoreItems Text) → MoreItemsSpelt P ⊥ more → UntaskedMoreItems more
    more_items-untasked NoItems s = tt
    more_items-untasked (NextItem comma i more) s = (item-untasked i s.1, more_items-untasked more s.2)

    pub exprs-untasked : (es : Exprs Text) → ExprsSpelt P ⊥ es → UntaskedExprs es
    exprs-untasked (FirstExpr e more) s = (expr-untasked e s.0, more_exprs-untasked more s.1)

    more_exprs-untasked : (more : MoreExprs Text) → MoreExprsSpelt P ⊥ more → UntaskedMoreExprs more
    more_exprs-untasked NoExprs s = tt
    more_exprs-untasked (NextExpr comma e more) s = (expr-untasked e s.1, more_exprs-untasked more s.2)

  -- DECLARATIONS
  start-untasked : (x : StartTree Text) → StartSpelt P ⊥ x → UntaskedStart x
  start-untasked (StartExpr e) s = expr-untasked e s
  start-untasked (StartTuple from xs upto) s = list-untasked (ExprSpelt P ⊥) UntaskedExpr expr-untasked xs s.1

  map-untasked : (m : MapTree Text) → MapSpelt P ⊥ m → UntaskedMap m
  map-untasked (BlockMap m) s = item-untasked m.box s.4
  map-untasked (CyclicMap m) s = start-untasked m.start s.4
  map-untasked (BlockCyclicMap m) s = (start-untasked m.start s.4, start-untasked m.size s.7)

  mapped-untasked : (m : MappedTree Text) → MappedSpelt P ⊥ m → UntaskedMapped m
  mapped-untasked m s = map-untasked m.map s.1

  type-untasked : (t : TypeTree Text) → TypeSpelt P ⊥ t → UntaskedType t
  type-untasked (ScalarType at k) s = tt
  type-untasked (SyncType at kind_at k) s = s.2
  type-untasked (DomainType d) s = if-untasked (MappedSpelt P ⊥) UntaskedMapped mapped-untasked d.mapped s.4
  type-untasked (ArrayType a) s = items-untasked a.over s.1

  init-untasked : (i : InitTree Text) → InitSpelt P ⊥ i → UntaskedInit i
  init-untasked (ItemInit item mapped) s = (item-untasked item s.0, if-untasked (MappedSpelt P ⊥) UntaskedMapped mapped-untasked mapped s.1)
  init-untasked (CreateInit c) s = items-untasked c.items s.4

  declare-untasked : (d : DeclareTree Text) → DeclareSpelt P ⊥ d → UntaskedDeclare d
  declare-untasked d s = (
    if-untasked (TypedSpelt P ⊥) UntaskedTyped (λ t s. type-untasked t.type s.1) d.typed s.4,
    if-untasked (InitialSpelt P ⊥) UntaskedInitial (λ i s. init-untasked i.init s.1) d.initial s.5,
  )

  -- STATEMENTS
  argument-untasked : (a : ArgumentTree Text) → ArgumentSpelt P ⊥ a → UntaskedArgument a
  argument-untasked (TextArgument at cs) s = tt
  argument-untasked (ExprArgument e) s = expr-untasked e s

  write-untasked : (w : WriteTree Text) → WriteSpelt P ⊥ w → UntaskedWrite w
  write-untasked w s =
      if-untasked (ListSpelt P ⊥ (ArgumentSpelt P ⊥)) (UntaskedList UntaskedArgument) (list-untasked (ArgumentSpelt P ⊥) UntaskedArgument argument-untasked)
      w.arguments s.2

  target-untasked : (t : TargetTree Text) → TargetSpelt P ⊥ t → UntaskedTarget t
  target-untasked (Whole x) s = tt
  target-untasked (Element x shape from es upto) s = exprs-untasked es s.2

  call-untasked : (c : CallTree Text) → CallSpelt P ⊥ c → UntaskedCall c
  call-untasked (ReadCall at w from upto) s = tt
  call-untasked (ResetCall at from upto) s = tt
  call-untasked (WriteCall at w from e upto) s = expr-untasked e s.2

  head-untasked : (word : HeadWord) → HeadWordSpelt P ⊥ word → UntaskedHead word
  head-untasked OnWord s = s
  head-untasked _ s = tt

  loop-untasked : (word : LoopWord) → LoopWordSpelt P ⊥ word → UntaskedLoop word
  loop-untasked CoforallWord s = s
  loop-untasked _ s = tt

  mutual
    stmt-untasked : (t : StmtTree Text) → StmtSpelt P ⊥ t → UntaskedStmt t
    stmt-untasked (Nothing at) s = tt
    stmt-untasked (Declare d) s = declare-untasked d s
    stmt-untasked (Assigned target sign item semicolon) s = (target-untasked target s.0, item-untasked item s.2)
    stmt-untasked (Call x dot call semicolon) s = call-untasked call s.2
    stmt-untasked (Write w) s = write-untasked w s
    stmt-untasked (Block from body upto) s = stmts-untasked body s.1
    stmt-untasked (If at e first second) s = (expr-untasked e s.1, body-untasked first s.2, else-untasked second s.3)
    stmt-untasked (Headed word at e body) s = (expr-untasked e s.1, body-untasked body s.2, head-untasked word s.3)
    stmt-untasked (Loop word at xs within item intents body) s = (item-untasked item s.3, body-untasked body s.5, loop-untasked word s.6)

    body-untasked : (b : Body Text) → BodySpelt P ⊥ b → UntaskedBody b
    body-untasked (WordBody at t) s = stmt-untasked t s.1
    body-untasked (BlockBody from ts upto) s = stmts-untasked ts s.1

    pub stmts-untasked : (ts : Stmts Text) → StmtsSpelt P ⊥ ts → UntaskedStmts ts
    stmts-untasked NoStmts s = tt
    stmts-untasked (Then t rest) s = (stmt-untasked t s.0, stmts-untasked rest s.1)

    else-untasked : (t : Else Text) → ElseSpelt P ⊥ t → UntaskedElse t
    else-untasked NoElse s = tt
    else-untasked (ElseDo at t) s = stmt-untasked t s.1

  -- TOKENS. None of a class, whose first one is told.
  pub tokens-untasked : (ks : List Token) → first_of task_words ks ≡ None → Each (λ k. P k.at) ks → Each (TokenSpelt P ⊥) ks
  tokens-untasked [] h near = tt
  tokens-untasked (k ∷ ks) h near = at (in_class task_words k) refl h (λ h. tokens-untasked ks h near.1)
    where
      at : (b : Bool) → in_class task_words k ≡ b → cond b (Some k.at) (first_of task_words ks) ≡ None → (first_of task_words ks ≡ None → Each (TokenSpelt P ⊥) ks)
          → Each (TokenSpelt P ⊥) (k ∷ ks)
      at true e h rest = absurd cc
      at false e h rest = ((near.0, λ is. absurd cc), rest h)

  pub Spells-untasked : (d : ℕ) (ks : List Token) (t : ProgramTree Text) → Spells d ks t → first_of task_words ks ≡ None → Each (λ k. P k.at) ks → StmtsSpelt P ⊥ t.stmts
  Spells-untasked d ks t spells h near = Spells-spelt P ⊥ d ks t spells (tokens-untasked ks h near)
