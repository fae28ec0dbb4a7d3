-- A tree with its names resolved is spelled as it was: each resolved name has its text.
-- This holds of every tree in whatever scopes, and says nothing of what is planned.
use Rattle.std.proofs.Common.{◌≡◌, List, [], ◌∷◌, map, Option, Some, None, refl, ap, ◌∙◌}
use Rattle.std.specs.Prelude.{option_map}
use Rattle.dpl_language.specs.Tree.{Placed, AfterComma, Listed, ExprTree, ItemTree, StartTree, StartExpr, StartTuple, MapTree, BlockMap, CyclicMap, BlockCyclicMap, MappedTree, TypeTree, ScalarType, SyncType, DomainType, ArrayType, InitTree, ItemInit, CreateInit, DeclareTree}
use Rattle.dpl_language.specs.Tree.{ArgumentTree, TextArgument, ExprArgument, WriteTree, IntentTree, ReduceIntent, RefIntent, WithTree, VariablesTree, OneVariable, ManyVariables, TargetTree, Whole, Element, CallTree, ReadCall, ResetCall, WriteCall, LoopWord, StmtTree, Nothing, Declare, Assigned, Call, Write, Block, If, Headed, Loop, Body, WordBody, BlockBody, Stmts, NoStmts, Then, Else, NoElse, ElseDo, ProgramTree}
use Rattle.dpl_language.specs.Names.{Text}
use Rattle.dpl_agreement.specs.Renamed.{map_comma, map_listed, renamed, renamed_expr, renamed_item, renamed_start, renamed_map, renamed_mapped, renamed_type, renamed_typed, renamed_init, renamed_initial, renamed_argument, renamed_write, renamed_intent, renamed_with, renamed_variables, renamed_target, renamed_call, renamed_stmt, renamed_body, renamed_stmts, renamed_else, renamed_program}
use Rattle.dpl_agreement.proofs.RenamedSame.{renamed_expr-same, renamed_item-same, renamed_exprs-same, renamed_items-same}
use Rattle.dpl_agreement.proofs.RenamedTwice.{renamed_expr-twice, renamed_item-twice, renamed_exprs-twice, renamed_items-twice}
use Rattle.dpl_rules.specs.Types.{ValueType}
use Rattle.dpl_rules.specs.Sights.{Scopes, enter, add}
use Rattle.dpl_rules.specs.Loops.{in_loop, behind}
use Rattle.dpl_rules.specs.Breaches.{top}
use Rattle.dpl_memory.specs.Resolved.{text_of}
use Rattle.dpl_bound.specs.Sights.{bound_in}
use Rattle.dpl_bound.specs.Bounds.{loop_variable, bound_declare, bound_target, bound_others, bound_variables, loop_type, bound_stmt, bound_body, bound_stmts, bound_else, bound_program}

-- what is made of two parts that are alike is alike
pub both : {A B C : Type 0} (make : A → B → C) {a c : A} {b d : B} → a ≡ c → b ≡ d → make a b ≡ make c d
both make {a = a} {d = d} p q = ap (make a) q ∙ ap (λ x. make x d) p

-- a part that may be there, and a list with commas, of which each part is changed and changed back, are as they were
module _ {A B : Type 0} (f : B → A) (g : A → B) (back : (x : A) → f (g x) ≡ x) where
  part-back : (o : Option A) → option_map f (option_map g o) ≡ o
  part-back None = refl
  part-back (Some x) = ap (λ y. Some y) (back x)

  others-back : (xs : List (AfterComma A)) → map (map_comma f) (map (map_comma g) xs) ≡ xs
  others-back [] = refl
  others-back (x ∷ xs) = both (λ y ys. record { comma = x.comma; part = y } ∷ ys) (back x.part) (others-back xs)

  listed-back : (xs : Listed A) → map_listed f (map_listed g xs) ≡ xs
  listed-back xs = both (λ y ys. record { first = y; others = ys }) (back xs.first) (others-back xs.others)

-- ---- PARTS OF STATEMENTS
module _ (ss : Scopes) where
  expr-back : (e : ExprTree Text) → renamed_expr text_of (renamed_expr (bound_in ss) e) ≡ e
  expr-back e = renamed_expr-twice text_of (bound_in ss) e ∙ renamed_expr-same e

  item-back : (i : ItemTree Text) → renamed_item text_of (renamed_item (bound_in ss) i) ≡ i
  item-back i = renamed_item-twice text_of (bound_in ss) i ∙ renamed_item-same i

  start-back : (s : StartTree Text) → renamed_start text_of (renamed_start (bound_in ss) s) ≡ s
  start-back (StartExpr e) = ap StartExpr (expr-back e)
  start-back (StartTuple from es upto) = ap (λ es. StartTuple from es upto) (listed-back (renamed_expr text_of) (renamed_expr (bound_in ss)) expr-back es)

  map-back : (m : MapTree Text) → renamed_map text_of (renamed_map (bound_in ss) m) ≡ m
  map-back (BlockMap m) = ap (λ i. BlockMap (record m { box = i })) (item-back m.box)
  map-back (CyclicMap m) = ap (λ s. CyclicMap (record m { start = s })) (start-back m.start)
  map-back (BlockCyclicMap m) = both (λ start size. BlockCyclicMap (record m { start = start; size = size })) (start-back m.start) (start-back m.size)

  mapped-back : (o : Option (MappedTree Text)) → option_map (renamed_mapped text_of) (option_map (renamed_mapped (bound_in ss)) o) ≡ o
  mapped-back = part-back (renamed_mapped text_of) (renamed_mapped (bound_in ss)) (λ m. ap (λ k. record { at = m.at; map = k }) (map-back m.map))

  type-back : (y : TypeTree Text) → renamed_type text_of (renamed_type (bound_in ss) y) ≡ y
  type-back (ScalarType at k) = refl
  type-back (SyncType at kind_at k) = refl
  type-back (DomainType d) = ap (λ m. DomainType (record d { mapped = m })) (mapped-back d.mapped)
  type-back (ArrayType a) = ap (λ is. ArrayType (record a { over = is })) (renamed_items-twice text_of (bound_in ss) a.over ∙ renamed_items-same a.over)

  init-back : (i : InitTree Text) → renamed_init text_of (renamed_init (bound_in ss) i) ≡ i
  init-back (ItemInit item mapped) = both ItemInit (item-back item) (mapped-back mapped)
  init-back (CreateInit c) = ap (λ is. CreateInit (record c { items = is })) (renamed_items-twice text_of (bound_in ss) c.items ∙ renamed_items-same c.items)

  declare-back : (d : DeclareTree Text) → renamed_stmt text_of (Declare (bound_declare ss d)) ≡ Declare d
  declare-back d =
      both (λ t i. Declare (record d { typed = t; initial = i }))
      (part-back (renamed_typed text_of) (renamed_typed (bound_in ss)) (λ t. ap (λ y. record { colon = t.colon; type = y }) (type-back t.type)) d.typed)
      (part-back (renamed_initial text_of) (renamed_initial (bound_in ss)) (λ i. ap (λ x. record { equals = i.equals; init = x }) (init-back i.init)) d.initial)

  target-back : (t : TargetTree Text) → renamed_target text_of (bound_target ss t) ≡ t
  target-back (Whole x) = refl
  target-back (Element x shape from es upto) = ap (λ es. Element x shape from es upto) (renamed_exprs-twice text_of (bound_in ss) es ∙ renamed_exprs-same es)

  call-back : (c : CallTree Text) → renamed_call text_of (renamed_call (bound_in ss) c) ≡ c
  call-back (ReadCall at w from upto) = refl
  call-back (ResetCall at from upto) = refl
  call-back (WriteCall at w from e upto) = ap (λ e. WriteCall at w from e upto) (expr-back e)

  argument-back : (a : ArgumentTree Text) → renamed_argument text_of (renamed_argument (bound_in ss) a) ≡ a
  argument-back (TextArgument at cs) = refl
  argument-back (ExprArgument e) = ap ExprArgument (expr-back e)

  write-back : (w : WriteTree Text) → renamed_write text_of (renamed_write (bound_in ss) w) ≡ w
  write-back w =
      ap (λ xs. record w { arguments = xs })
      (part-back (map_listed (renamed_argument text_of)) (map_listed (renamed_argument (bound_in ss))) (listed-back (renamed_argument text_of) (renamed_argument (bound_in ss)) argument-back) w.arguments)

  intent-back : (i : IntentTree Text) → renamed_intent text_of (renamed_intent (bound_in ss) i) ≡ i
  intent-back (ReduceIntent at op word x) = refl
  intent-back (RefIntent at x) = refl

  with-back : (w : WithTree Text) → renamed_with text_of (renamed_with (bound_in ss) w) ≡ w
  with-back w = ap (λ is. record w { intents = is }) (listed-back (renamed_intent text_of) (renamed_intent (bound_in ss)) intent-back w.intents)

-- ---- THE VARIABLES OF A LOOP
other_variables-back : (t : Option ValueType) (ss : Scopes) (xs : List (AfterComma (Placed Text))) → map (map_comma (renamed text_of)) (bound_others t ss xs) ≡ xs
other_variables-back t ss [] = refl
other_variables-back t ss (x ∷ xs) = ap (λ ys. x ∷ ys) (other_variables-back t (add (loop_variable t ss x.part.name) ss) xs)

variables-back : (t : Option ValueType) (ss : Scopes) (xs : VariablesTree Text) → renamed_variables text_of (bound_variables t ss xs) ≡ xs
variables-back t ss (OneVariable x) = refl
variables-back t ss (ManyVariables from xs upto) =
    ap (λ ys. ManyVariables from (record { first = xs.first; others = ys }) upto) (other_variables-back t (add (loop_variable t ss xs.first.name) ss) xs.others)

-- ---- STATEMENTS
-- a loop, of which the head and the body are spelled as they were
module _ {A : Type 0} (ss : Scopes) (word : LoopWord) (xs : VariablesTree Text) (item : ItemTree Text) (body : Body Text) where
  loop-back : (make : VariablesTree Text → ItemTree Text → Body Text → A) → renamed_body text_of (bound_body (in_loop ss word xs item) body) ≡ body
      → make (renamed_variables text_of (bound_variables (loop_type ss word xs item) (enter ss) xs)) (renamed_item text_of (renamed_item (bound_in ss) item)) (renamed_body text_of (bound_body (in_loop ss word xs item) body))
      ≡ make xs item body
  loop-back make inner =
      ap (λ ys. make ys (renamed_item text_of (renamed_item (bound_in ss) item)) (renamed_body text_of (bound_body (in_loop ss word xs item) body))) (variables-back (loop_type ss word xs item) (enter ss) xs)
      ∙ both (make xs) (item-back ss item) inner

any_with-back : (ss : Scopes) (w : Option (WithTree Text)) → option_map (renamed_with text_of) (option_map (renamed_with (bound_in ss)) w) ≡ w
any_with-back ss = part-back (renamed_with text_of) (renamed_with (bound_in ss)) (with-back ss)

mutual
  stmt-back : (t : StmtTree Text) (ss : Scopes) → renamed_stmt text_of (bound_stmt ss t) ≡ t
  stmt-back (Nothing at) ss = refl
  stmt-back (Declare d) ss = declare-back ss d
  stmt-back (Assigned target sign item semicolon) ss = both (λ t i. Assigned t sign i semicolon) (target-back ss target) (item-back ss item)
  stmt-back (Call x dot call semicolon) ss = ap (λ c. Call x dot c semicolon) (call-back ss call)
  stmt-back (Write w) ss = ap Write (write-back ss w)
  stmt-back (Block from ts upto) ss = ap (λ us. Block from us upto) (stmts-back ts (enter ss))
  stmt-back (If at e first second) ss =
      ap (λ x. If at x (renamed_body text_of (bound_body (enter ss) first)) (renamed_else text_of (bound_else ss second))) (expr-back ss e)
      ∙ both (If at e) (body-back first (enter ss)) (else-back second ss)
  stmt-back (Headed word at e body) ss = both (Headed word at) (expr-back ss e) (body-back body (enter ss))
  stmt-back (Loop word at xs within item intents body) ss =
      loop-back ss word xs item body (λ ys i b. Loop word at ys within i (option_map (renamed_with text_of) (option_map (renamed_with (bound_in ss)) intents)) b) (body-back body (in_loop ss word xs item))
      ∙ ap (λ w. Loop word at xs within item w body) (any_with-back ss intents)

  body-back : (b : Body Text) (ss : Scopes) → renamed_body text_of (bound_body ss b) ≡ b
  body-back (WordBody at t) ss = ap (WordBody at) (stmt-back t ss)
  body-back (BlockBody from ts upto) ss = ap (λ us. BlockBody from us upto) (stmts-back ts ss)

  stmts-back : (ts : Stmts Text) (ss : Scopes) → renamed_stmts text_of (bound_stmts ss ts) ≡ ts
  stmts-back NoStmts ss = refl
  stmts-back (Then t rest) ss = both Then (stmt-back t ss) (stmts-back rest (behind ss t))

  else-back : (o : Else Text) (ss : Scopes) → renamed_else text_of (bound_else ss o) ≡ o
  else-back NoElse ss = refl
  else-back (ElseDo at t) ss = ap (ElseDo at) (stmt-back t (enter ss))

-- a program with its names resolved is spelled as it was
pub program-spelled : (t : ProgramTree Text) → renamed_program text_of (bound_program t) ≡ t
program-spelled t = ap (λ ts. record { uses = t.uses; stmts = ts; end = t.end }) (stmts-back t.stmts top)
