-- The breaches of a program: where it breaks which rule; the first of them, and the refusal.
-- One walk carries what is in sight, and asks each statement for the breaches of its rules.
use Rattle.std.specs.Prelude.{◌≡◌, ◌⊎◌, ℕ, ◌==◌, nat_lt, Bool, true, false, ◌&&◌, ◌||◌, if◌then◌else◌, List, [], ◌∷◌, ◌++◌, drop, length, Option, Some, None}
use Rattle.dpl_syntax.specs.declared.place.Place.{Place}
use Rattle.dpl_language.specs.Tree.{ExprTree, VariablesTree, TypeTree, SyncType, DeclareTree, WithTree, ItemTree, HeadWord, OnWord, LoopWord, ForWord, ForallWord, CoforallWord, StmtTree, Nothing, Declare, Assigned, Call, Write, Block, If, Headed, Loop, Body, WordBody, BlockBody, Stmts, NoStmts, Then, Else, NoElse, ElseDo, ProgramTree}
use Rattle.dpl_language.specs.Names.{Text}
use Rattle.dpl_language.specs.Declarations.{type_of as written_type}
use Rattle.dpl_language.specs.Writing.{arguments_of}
use Rattle.dpl_syntax.specs.declared.refusal.Code.{Code}
use Rattle.dpl_syntax.specs.declared.refusal.Code.TheVariants.{NotText, BadCharacter, NumberTooLarge, Unexpected, TooDeep, UnknownName, NameTwice, WrongType, ConstantWritten, WrongRank, WrittenElsewhere, ReadElsewhere, OuterChanged, NotInForall, NotInCoforall, CellMisused, TooMany, BadSet}
use Rattle.dpl_syntax.specs.declared.refusal.Breach.{Breach}
use Rattle.dpl_rules.specs.Verdicts.{breach}
use Rattle.dpl_rules.specs.Sights.{Scopes, enter, Reducing, Sight, inside}
use Rattle.dpl_rules.specs.Declarations.{declaration_breaches}
use Rattle.dpl_rules.specs.Assignments.{assignment_breaches, call_breaches, printed_breaches, condition_breaches, on_breaches}
use Rattle.dpl_rules.specs.Loops.{header_breaches, with_breaches, in_loop, reducing_in, behind}
use Rattle.dpl_rules.specs.Deeds.{Deed}
use Rattle.dpl_rules.specs.Doings.{with_deeds, body_deeds}
use Rattle.dpl_rules.specs.Bodies.{forall_scope, forall_breaches, task_breaches, promoted_breaches}

-- ---- what a loop's body has in sight: its variables, a forall's reduce variables, and that it is a task
abbrev pub reducing_by : Sight → LoopWord → Option (WithTree Text) → Option Reducing
reducing_by sight ForallWord intents = Some (reducing_in sight.scopes intents)
reducing_by sight _ intents = sight.forall

abbrev pub in_task_by : Sight → LoopWord → Bool
in_task_by sight CoforallWord = true
in_task_by sight _ = sight.in_task

abbrev pub in_turn : Sight → LoopWord → VariablesTree Text → ItemTree Text → Option (WithTree Text) → Sight
in_turn sight word xs item intents =
    record { scopes = in_loop sight.scopes word xs item; forall = reducing_by sight word intents; in_task = in_task_by sight word }

-- ---- what a loop's body does: turns of a forall keep apart, and tasks share cells alone
abbrev pub turn_breaches : Scopes → LoopWord → VariablesTree Text → Option (WithTree Text) → List Deed → List Breach
turn_breaches ss ForWord xs intents ds = []
turn_breaches ss ForallWord xs intents ds = forall_breaches (forall_scope ss xs intents) ds
turn_breaches ss CoforallWord xs intents ds = task_breaches (length ss) (with_deeds intents ++ ds)

-- ---- a condition, and the locale that a body runs on
abbrev pub head_breaches : Sight → HeadWord → ExprTree Text → List Breach
head_breaches sight OnWord e = on_breaches sight e
head_breaches sight _ e = condition_breaches sight e

-- ---- statements
abbrev mutual
  pub stmt_breaches : Sight → StmtTree Text → List Breach
  stmt_breaches sight (Nothing at) = []
  stmt_breaches sight (Declare d) = declaration_breaches sight.scopes d
  stmt_breaches sight (Assigned target sign item semicolon) =
      assignment_breaches sight target sign item ++ promoted_breaches sight.scopes target item
  stmt_breaches sight (Call x dot call semicolon) = call_breaches sight x call
  stmt_breaches sight (Write w) = printed_breaches sight (arguments_of w.arguments)
  stmt_breaches sight (Block from ts upto) = stmts_breaches (inside sight (enter sight.scopes)) ts
  stmt_breaches sight (If at e first second) =
      condition_breaches sight e ++ body_breaches (inside sight (enter sight.scopes)) first
      ++ else_breaches (inside sight (enter sight.scopes)) second
  stmt_breaches sight (Headed word at e body) = head_breaches sight word e ++ body_breaches (inside sight (enter sight.scopes)) body
  stmt_breaches sight (Loop word at xs within item intents body) =
      header_breaches sight.scopes word xs item ++ with_breaches sight.scopes intents
      ++ turn_breaches sight.scopes word xs intents (body_deeds (in_loop sight.scopes word xs item) body)
      ++ body_breaches (in_turn sight word xs item intents) body

  pub body_breaches : Sight → Body Text → List Breach
  body_breaches sight (WordBody at t) = stmt_breaches sight t
  body_breaches sight (BlockBody from ts upto) = stmts_breaches sight ts

  pub stmts_breaches : Sight → Stmts Text → List Breach
  stmts_breaches sight NoStmts = []
  stmts_breaches sight (Then t rest) = stmt_breaches sight t ++ stmts_breaches (inside sight (behind sight.scopes t)) rest

  pub else_breaches : Sight → Else Text → List Breach
  else_breaches sight NoElse = []
  else_breaches sight (ElseDo at t) = stmt_breaches sight t

-- ---- C13: at most 4,096 names, and at most 64 cells, are declared by `const` or `var`; loop variables don't count
abbrev mutual
  pub declarations : StmtTree Text → List (DeclareTree Text)
  declarations (Declare d) = d ∷ []
  declarations (Block from ts upto) = all_declarations ts
  declarations (If at e first second) = body_declarations first ++ else_declarations second
  declarations (Headed word at e body) = body_declarations body
  declarations (Loop word at xs within item intents body) = body_declarations body
  declarations _ = []

  pub body_declarations : Body Text → List (DeclareTree Text)
  body_declarations (WordBody at t) = declarations t
  body_declarations (BlockBody from ts upto) = all_declarations ts

  pub all_declarations : Stmts Text → List (DeclareTree Text)
  all_declarations NoStmts = []
  all_declarations (Then t rest) = declarations t ++ all_declarations rest

  pub else_declarations : Else Text → List (DeclareTree Text)
  else_declarations NoElse = []
  else_declarations (ElseDo at t) = declarations t

abbrev pub of_cell : DeclareTree Text → Option (TypeTree Text) → List (DeclareTree Text)
of_cell d (Some (SyncType at kind_at k)) = d ∷ []
of_cell d _ = []

abbrev pub cells_among : List (DeclareTree Text) → List (DeclareTree Text)
cells_among [] = []
cells_among (d ∷ ds) = of_cell d (written_type d.typed) ++ cells_among ds

-- the first past a limit
abbrev pub first_name : List (DeclareTree Text) → List Breach
first_name [] = []
first_name (d ∷ ds) = breach d.name.at TooMany

abbrev pub past : ℕ → List (DeclareTree Text) → List Breach
past limit ds = first_name (drop limit ds)

abbrev pub count_breaches : List (DeclareTree Text) → List Breach
count_breaches ds = past 4096 ds ++ past 64 (cells_among ds)

-- ---- a program
abbrev pub top : Scopes
top = [] ∷ []

abbrev pub top_sight : Sight
top_sight = record { scopes = top; forall = None; in_task = false }

abbrev pub breaches : ProgramTree Text → List Breach
breaches t =
    stmts_breaches top_sight t.stmts ++ count_breaches (all_declarations t.stmts)

-- ---- the first breach, by place and then by code
-- the codes in their order
abbrev pub rank : Code → ℕ
rank NotText = 0
rank BadCharacter = 1
rank NumberTooLarge = 2
rank Unexpected = 3
rank TooDeep = 4
rank UnknownName = 5
rank NameTwice = 6
rank WrongType = 7
rank ConstantWritten = 8
rank WrongRank = 9
rank WrittenElsewhere = 10
rank ReadElsewhere = 11
rank OuterChanged = 12
rank NotInForall = 13
rank NotInCoforall = 14
rank CellMisused = 15
rank TooMany = 16
rank BadSet = 17

abbrev pub place_before : Place → Place → Bool
place_before a b = nat_lt a.line b.line || (a.line == b.line && nat_lt a.column b.column)

abbrev pub same_place : Place → Place → Bool
same_place a b = a.line == b.line && a.column == b.column

abbrev pub before : Breach → Breach → Bool
before a b = place_before a.at b.at || (same_place a.at b.at && nat_lt (rank a.code) (rank b.code))

abbrev pub lesser : Option Breach → Breach → Option Breach
lesser None b = Some b
lesser (Some a) b = Some (if before b a then b else a)

-- the first of what was told and of what else may be told
abbrev pub or_lesser : Option Breach → Option Breach → Option Breach
or_lesser o None = o
or_lesser o (Some b) = lesser o b

abbrev pub least_from : Option Breach → List Breach → Option Breach
least_from a [] = a
least_from a (b ∷ bs) = least_from (lesser a b) bs

abbrev pub first_breach : ProgramTree Text → Option Breach
first_breach t = least_from None (breaches t)

-- ---- what is first among breaches: one of them that none of them is before
abbrev pub IsAmong : Breach → List Breach → Type 0
IsAmong b [] = ⊥
IsAmong b (c ∷ cs) = (b ≡ c) ⊎ IsAmong b cs

abbrev pub NoneBefore : Breach → List Breach → Type 0
NoneBefore b [] = Unit {0}
NoneBefore b (c ∷ cs) = (before c b ≡ false) × NoneBefore b cs

pub record IsFirst (bs : List Breach) (b : Breach) : Type 0 where
  pub among : IsAmong b bs
  pub none_before : NoneBefore b bs
