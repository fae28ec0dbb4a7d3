-- What a walk over a part of a program promises: what is in sight behind it, how many slots there are, what it did, the first violation so far, and
-- what it declared. Each is that of the definition's walks, one after the other.
use Rattle.std.specs.Prelude.{◌≡◌, ◌++◌, ℕ, false, List, [], Option, None, option_map}
use Rattle.dpl_syntax.specs.declared.place.Place.{Place}
use Rattle.dpl_syntax.specs.declared.refusal.Breach.{Breach}
use Rattle.dpl_language.specs.Tree.{ItemTree, VariablesTree, WithTree, DeclareTree, LoopWord, ForallWord, StmtTree, Body, WordBody, BlockBody, Else, Stmts}
use Rattle.dpl_language.specs.Names.{Text}
use Rattle.dpl_rules.specs.Sights.{Scopes, Sight, enter}
use Rattle.dpl_rules.specs.Loops.{typed_variable, over_type, variables_of, add_variables, behind, header_breaches, with_breaches}
use Rattle.dpl_rules.specs.Sound.{behind_all}
use Rattle.dpl_rules.specs.Deeds.{Deed, AForall, held, item_deeds}
use Rattle.dpl_rules.specs.Doings.{with_deeds, stmt_deeds, body_deeds, stmts_deeds, else_deeds}
use Rattle.dpl_rules.specs.Breaches.{top, stmt_breaches, body_breaches, stmts_breaches, else_breaches, declarations, body_declarations, else_declarations, all_declarations, least_from}
use Rattle.dpl_deeds.specs.View.{Adds}
use Rattle.dpl_limits.specs.Counts.{none_yet, counts_after}
use Rattle.dpl_bound.specs.Bounds.{slots_stmt, slots_stmts, slots_body, slots_else, slots_turn}
use Rattle.dpl_assignments.specs.Around.{reducing_view}
use Rattle.dpl_checker.specs.declared.walk.Around.{Around}
use Rattle.dpl_checker.specs.declared.walk.Walk.{Walk}

-- a walk before any statement
abbrev pub HasBegun : Walk → Type 0
HasBegun walk = (walk.scopes ≡ top) × (walk.slots ≡ 0) × (walk.deeds.items ≡ []) × (walk.first ≡ None) × (walk.counts ≡ none_yet)

-- outside of foralls and tasks
abbrev pub outside : Around
outside = record { forall = None; in_task = false }

-- what a statement has in sight
abbrev pub sight_in : Scopes → Around → Sight
sight_in scopes around = record { scopes = scopes; forall = option_map reducing_view around.forall; in_task = around.in_task }

-- the scopes and the slots behind a part, the deeds that it adds, the first of a violation that was told before and its own, and the counts with
-- what it declares
pub record Walks (ss : Scopes) (n : ℕ) (ds : List Deed) (bs : List Breach) (fs : List (DeclareTree Text)) (old new : Walk) : Type 0 where
  pub scopes : new.scopes ≡ ss
  pub slots : new.slots ≡ n
  pub deeds : Adds ds old.deeds.items new.deeds.items
  pub told : new.first ≡ least_from old.first bs
  pub counts : new.counts ≡ counts_after old.counts fs

abbrev pub WalksStmt : Around → StmtTree Text → Walk → Walk → Type 0
WalksStmt around t old new =
    Walks (behind old.scopes t) (slots_stmt old.scopes t old.slots) (stmt_deeds old.scopes t) (stmt_breaches (sight_in old.scopes around) t)
    (declarations t) old new

abbrev pub WalksStmts : Around → Stmts Text → Walk → Walk → Type 0
WalksStmts around ts old new =
    Walks (behind_all old.scopes ts) (slots_stmts old.scopes ts old.slots) (stmts_deeds old.scopes ts) (stmts_breaches (sight_in old.scopes around) ts)
    (all_declarations ts) old new

-- the statements of the top level, whose deeds nobody asks for, and which leave none
abbrev pub WalksTop : Stmts Text → Walk → Walk → Type 0
WalksTop ts old new =
    Walks (behind_all old.scopes ts) (slots_stmts old.scopes ts old.slots) [] (stmts_breaches (sight_in old.scopes outside) ts) (all_declarations ts) old new

-- a body, in the scope that was opened for it
abbrev pub behind_body : Scopes → Body Text → Scopes
behind_body ss (WordBody at t) = behind ss t
behind_body ss (BlockBody from ts upto) = behind_all ss ts

abbrev pub WalksInner : Around → Body Text → Walk → Walk → Type 0
WalksInner around body old new =
    Walks (behind_body old.scopes body) (slots_body old.scopes body old.slots) (body_deeds old.scopes body)
    (body_breaches (sight_in old.scopes around) body) (body_declarations body) old new

-- a body opens a scope, and closes it behind itself; and so does what stands behind `else`
abbrev pub WalksBody : Around → Body Text → Walk → Walk → Type 0
WalksBody around body old new =
    Walks old.scopes (slots_body (enter old.scopes) body old.slots) (body_deeds (enter old.scopes) body)
    (body_breaches (sight_in (enter old.scopes) around) body) (body_declarations body) old new

abbrev pub WalksElse : Around → Else Text → Walk → Walk → Type 0
WalksElse around other old new =
    Walks old.scopes (slots_else old.scopes other old.slots) (else_deeds (enter old.scopes) other)
    (else_breaches (sight_in (enter old.scopes) around) other) (else_declarations other) old new

-- the scope of a loop's variables, in which that of its body stands
abbrev pub of_variables : Scopes → LoopWord → VariablesTree Text → ItemTree Text → Scopes
of_variables scopes word xs item = add_variables (typed_variable word xs (over_type scopes item)) (variables_of xs) (enter scopes)

-- the head of a loop, and that of a forall or a coforall with its intents: the scope of the variables is open behind them
abbrev pub WalksHead : LoopWord → VariablesTree Text → ItemTree Text → List Breach → Walk → Walk → Type 0
WalksHead word xs item told old new =
    Walks (of_variables old.scopes word xs item) (slots_turn old.scopes word xs item old.slots) (item_deeds old.scopes item) told [] old new

abbrev pub WalksLoop : LoopWord → VariablesTree Text → ItemTree Text → Walk → Walk → Type 0
WalksLoop word xs item old new = WalksHead word xs item (header_breaches old.scopes word xs item) old new

abbrev pub WalksShared : LoopWord → VariablesTree Text → ItemTree Text → Option (WithTree Text) → Walk → Walk → Type 0
WalksShared word xs item with_them old new =
    WalksHead word xs item (header_breaches old.scopes word xs item ++ with_breaches old.scopes with_them) old new

-- that of a forall at its place, with the deed that there is one before, and those of its intents behind
abbrev pub WalksTurns : Place → VariablesTree Text → ItemTree Text → Option (WithTree Text) → Walk → Walk → Type 0
WalksTurns at xs item with_them old new =
    Walks (of_variables old.scopes ForallWord xs item) (slots_turn old.scopes ForallWord xs item old.slots)
    (held at AForall ++ item_deeds old.scopes item ++ with_deeds with_them)
    (header_breaches old.scopes ForallWord xs item ++ with_breaches old.scopes with_them) [] old new
