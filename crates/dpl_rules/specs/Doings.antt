-- What statements do that a loop around them may forbid: what their expressions do, what they write and what they hold.
-- Writes in an inner loop are writes of every loop around it.
use Rattle.std.specs.Prelude.{Bool, true, false, List, [], ◌∷◌, ◌++◌, Option, Some, None}
use Rattle.dpl_syntax.specs.declared.place.Place.{Place}
use Rattle.dpl_language.specs.Tree.{Placed, Assign, Exprs, TypeTree, ScalarType, DomainType, ArrayType, InitTree, ItemInit, CreateInit, InitialTree, DeclareTree, TargetTree, Whole, Element, CallTree, WriteCall, ArgumentTree, TextArgument, ExprArgument, IntentTree, ReduceIntent, RefIntent, WithTree}
use Rattle.dpl_language.specs.Tree.{HeadWord, OnWord, LoopWord, ForWord, ForallWord, CoforallWord, StmtTree, Nothing, Declare, Assigned, Call, Write, Block, If, Headed, Loop, Body, WordBody, BlockBody, Stmts, NoStmts, Then, Else, NoElse, ElseDo}
use Rattle.dpl_language.specs.Names.{Text}
use Rattle.dpl_language.specs.Phrases.{parts}
use Rattle.dpl_language.specs.Declarations.{type_of as written_type}
use Rattle.dpl_language.specs.Writing.{arguments_of}
use Rattle.dpl_rules.specs.Types.{is_domain, is_cell, has}
use Rattle.dpl_rules.specs.Verdicts.{where_given}
use Rattle.dpl_rules.specs.Places.{first_of_declaration}
use Rattle.dpl_rules.specs.Sights.{Declared, Scopes, lookup, type_declared, enter}
use Rattle.dpl_rules.specs.Expressions.{item_type}
use Rattle.dpl_rules.specs.Loops.{in_loop, behind}
use Rattle.dpl_rules.specs.Deeds.{APrint, AForall, ACoforall, ACellCall, AnOn, ADeclaration, AReduceIntent, Deed, Writes, WritesAt, held, held_if, exprs_index, expr_deeds, item_deeds, items_deeds, exprs_deeds, mapped_deeds}

-- ---- declarations of arrays, domains and cells. A written type says it by itself; where none is written, `dmapped` and
-- `createDomain` do, and else the initial value's type, if it has one.
abbrev pub is_apart_type : TypeTree Text → Bool
is_apart_type (ScalarType at k) = false
is_apart_type _ = true

abbrev pub intents_deeds : List (IntentTree Text) → List Deed
intents_deeds [] = []
intents_deeds (ReduceIntent at op word x ∷ rest) = held at AReduceIntent ++ intents_deeds rest
intents_deeds (RefIntent at x ∷ rest) = intents_deeds rest

abbrev pub with_deeds : Option (WithTree Text) → List Deed
with_deeds intents = where_given intents (λ w. intents_deeds (parts w.intents))

abbrev pub written : Place → Option Declared → Assign → List Deed
written at d op = where_given d (λ d. Writes at d op ∷ [])

module _ (scopes : Scopes) where
  abbrev pub is_apart_init : InitTree Text → Bool
  is_apart_init (ItemInit item None) = has is_domain (item_type scopes item)
  is_apart_init _ = true

  abbrev pub is_apart : Option (TypeTree Text) → Option (InitialTree Text) → Bool
  is_apart (Some t) initial = is_apart_type t
  is_apart None initial = has {A = InitialTree Text} (λ i. is_apart_init i.init) initial

  abbrev pub type_deeds : Option (TypeTree Text) → List Deed
  type_deeds (Some (DomainType d)) = mapped_deeds scopes d.mapped
  type_deeds (Some (ArrayType a)) = items_deeds scopes a.over
  type_deeds _ = []

  abbrev pub init_deeds : InitTree Text → List Deed
  init_deeds (ItemInit item mapped) = item_deeds scopes item ++ mapped_deeds scopes mapped
  init_deeds (CreateInit c) = items_deeds scopes c.items

  abbrev pub initial_deeds : Option (InitialTree Text) → List Deed
  initial_deeds initial = where_given initial (λ i. init_deeds i.init)

  abbrev pub declaration_deeds : DeclareTree Text → List Deed
  declaration_deeds d =
      type_deeds (written_type d.typed) ++ initial_deeds d.initial
      ++ held_if (is_apart (written_type d.typed) d.initial) (first_of_declaration d) ADeclaration

  -- ---- writes, calls and prints
  abbrev pub element_written : Place → Option Declared → Exprs Text → Assign → List Deed
  element_written at d es op = where_given d (λ d. WritesAt at d (exprs_index scopes es) op ∷ [])

  -- what a target's indices do, and that it is written
  abbrev pub target_deeds : TargetTree Text → List Deed
  target_deeds (Whole x) = []
  target_deeds (Element x shape from es upto) = exprs_deeds scopes es

  abbrev pub target_written : TargetTree Text → Assign → List Deed
  target_written (Whole x) op = written x.at (lookup scopes x.name) op
  target_written (Element x shape from es upto) op = element_written x.at (lookup scopes x.name) es op

  abbrev pub call_argument_deeds : CallTree Text → List Deed
  call_argument_deeds (WriteCall at w from e upto) = expr_deeds scopes e
  call_argument_deeds _ = []

  abbrev pub call_deeds : Placed Text → CallTree Text → List Deed
  call_deeds x call =
      held_if (has is_cell (type_declared (lookup scopes x.name))) x.at ACellCall ++ call_argument_deeds call

  abbrev pub arguments_deeds : List (ArgumentTree Text) → List Deed
  arguments_deeds [] = []
  arguments_deeds (TextArgument at cs ∷ rest) = arguments_deeds rest
  arguments_deeds (ExprArgument e ∷ rest) = expr_deeds scopes e ++ arguments_deeds rest

-- ---- statements
-- a loop that makes turns or tasks, and a body that runs on a locale
abbrev pub loop_held : LoopWord → Place → List Deed
loop_held ForWord at = []
loop_held ForallWord at = held at AForall
loop_held CoforallWord at = held at ACoforall

abbrev pub head_held : HeadWord → Place → List Deed
head_held OnWord at = held at AnOn
head_held _ at = []

abbrev mutual
  pub stmt_deeds : Scopes → StmtTree Text → List Deed
  stmt_deeds ss (Nothing at) = []
  stmt_deeds ss (Declare d) = declaration_deeds ss d
  stmt_deeds ss (Assigned target sign item semicolon) = target_deeds ss target ++ item_deeds ss item ++ target_written ss target sign.op
  stmt_deeds ss (Call x dot call semicolon) = call_deeds ss x call
  stmt_deeds ss (Write w) = held w.at APrint ++ arguments_deeds ss (arguments_of w.arguments)
  stmt_deeds ss (Block from ts upto) = stmts_deeds (enter ss) ts
  stmt_deeds ss (If at e first second) = expr_deeds ss e ++ body_deeds (enter ss) first ++ else_deeds (enter ss) second
  stmt_deeds ss (Headed word at e body) = head_held word at ++ expr_deeds ss e ++ body_deeds (enter ss) body
  stmt_deeds ss (Loop word at xs within item intents body) =
      loop_held word at ++ item_deeds ss item ++ with_deeds intents ++ body_deeds (in_loop ss word xs item) body

  pub body_deeds : Scopes → Body Text → List Deed
  body_deeds ss (WordBody at t) = stmt_deeds ss t
  body_deeds ss (BlockBody from ts upto) = stmts_deeds ss ts

  pub stmts_deeds : Scopes → Stmts Text → List Deed
  stmts_deeds ss NoStmts = []
  stmts_deeds ss (Then t rest) = stmt_deeds ss t ++ stmts_deeds (behind ss t) rest

  pub else_deeds : Scopes → Else Text → List Deed
  else_deeds ss NoElse = []
  else_deeds ss (ElseDo at t) = stmt_deeds ss t
