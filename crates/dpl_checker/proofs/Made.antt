-- What is made of a statement's parts, one by one, is made of the statement.
-- Where nothing was told at the end, nothing was told before.
use Rattle.std.proofs.Common.{◌≡◌, ◌+◌, ◌<◌, ℕ, Bor, List, [], ◌∷◌, ◌++◌, drop, length, get_or, map, true, Option, None, refl, sym, ap, ◌∙◌, subst, append_assoc, append-nil}
use Rattle.std.specs.Prelude.{option_map}
use Rattle.dpl_syntax.specs.declared.place.Place.{Place}
use Rattle.dpl_syntax.specs.declared.refusal.Breach.{Breach}
use Rattle.dpl_syntax.proofs.Walks.{drop-at}
use Rattle.dpl_language.specs.Tree.{ExprTree, ItemTree, VariablesTree, WithTree, DeclareTree, WhileWord, LoopWord, ForWord, ForallWord, StmtTree, If, Headed, Loop, Block, Body, WordBody, BlockBody, Stmts, NoStmts, Then, Else, ElseDo}
use Rattle.dpl_language.specs.Names.{Text}
use Rattle.dpl_language.specs.Phrases.{intents_of}
use Rattle.dpl_agreement.specs.Renamed.{renamed_expr, renamed_item, renamed_with, renamed_intents}
use Rattle.dpl_agreement.proofs.RenamedParts.{intents_of-renamed}
use Rattle.dpl_tree.specs.declared.statement.Stmt.{Stmt}
use Rattle.dpl_tree.specs.Statements.{stmt_view, stmts_of}
use Rattle.dpl_rules.specs.Breaches.{least_from}
use Rattle.dpl_rules.specs.Sights.{Scopes, enter}
use Rattle.dpl_rules.specs.Types.{ValueType, has}
use Rattle.dpl_rules.specs.Deeds.{Deed}
use Rattle.dpl_rules.specs.Loops.{in_loop, behind}
use Rattle.dpl_types.proofs.Unbroken.{unbroken}
use Rattle.dpl_lowered.specs.Shapes.{nowhere}
use Rattle.dpl_lowered.specs.LoweredExpressions.{Once, lowered_expr, lowered_item}
use Rattle.dpl_lowered.specs.LoweredStatements.{with_intents}
use Rattle.dpl_memory.specs.Memory.{Variable, known_variable}
use Rattle.dpl_memory.specs.Resolved.{variable_of}
use Rattle.dpl_nodes.specs.declared.step.Step.{Step, Block as BlockStep}
use Rattle.dpl_nodes.specs.declared.step.Else.{Else as ElseNode, Do as DoStep}
use Rattle.dpl_nodes.specs.declared.step.Intent.{Intent}
use Rattle.dpl_nodes.specs.Steps.{listed, intent_view, names_view, step_view, else_view, steps_of}
use Rattle.dpl_nodes.proofs.Rows.{steps_view-row}
use Rattle.dpl_typed.specs.Lowered.{leaves_of, item_leaves}
use Rattle.dpl_bound.specs.Run.{stmt_leaves, stmts_leaves, body_leaves, else_leaves}
use Rattle.dpl_bound.specs.Sights.{bound_in}
use Rattle.dpl_bound.specs.Bounds.{loop_type}
use Rattle.dpl_bound.proofs.Sides.{expr-leaves, items-leaves}
use Rattle.dpl_checker.specs.Plain.{ArePlainStmts}
use Rattle.dpl_heads.specs.Made.{over_item, is_turn, IsRun, variables_leaves, reduced_leaves}
use Rattle.dpl_heads.proofs.Stands.{names-fit}
use Rattle.dpl_checker.specs.declared.form.Opened.{Opened}
use Rattle.dpl_checker.specs.declared.walk.Walk.{Walk}
use Rattle.dpl_checker.specs.Walks.{Walks}
use Rattle.dpl_checker.specs.Makes.{MakesStmt, MakesStmts, MakesInner, MakesBody, MakesElse, IsOpened}

-- ---- where nothing was told at the end, nothing was told before
pub untold : (o p : Option Breach) (bs : List Breach) → p ≡ least_from o bs → p ≡ None → o ≡ None
untold o p bs told none = (unbroken o bs (sym told ∙ none)).0

pub untold_before : {ss : Scopes} {n : ℕ} {ds : List Deed} {bs : List Breach} {fs : List (DeclareTree Text)} (a b : Walk) → Walks ss n ds bs fs a b → b.first ≡ None → a.first ≡ None
untold_before {ss} {n} {ds} {bs} {fs} a b walks none = untold a.first b.first bs walks.told none

-- ---- what is made of a part, where it is known in which scopes that stands
pub inner_made_at : (ss rs : Scopes) (t : Body Text) (o : Option Breach) (steps : List Step) → rs ≡ ss → MakesInner rs t o steps → MakesInner ss t o steps
inner_made_at ss rs t o steps at makes = subst (λ vs. MakesInner vs t o steps) at makes

pub body_made_at : (ss rs : Scopes) (t : Body Text) (o : Option Breach) (steps : List Step) → rs ≡ ss → MakesBody rs t o steps → MakesBody ss t o steps
body_made_at ss rs t o steps at makes = subst (λ vs. MakesBody vs t o steps) at makes

pub else_made_at : (ss rs : Scopes) (t : Else Text) (o : Option Breach) (other : ElseNode) → rs ≡ ss → MakesElse rs t o other → MakesElse ss t o other
else_made_at ss rs t o other at makes = subst (λ vs. MakesElse vs t o other) at makes

-- ---- two parts of a tree at once
both : {A B C : Type 0} (f : A → B → C) {a b : A} {x y : B} → a ≡ b → x ≡ y → f a x ≡ f b y
both f {a} {b} {x} {y} e g = ap (λ z. f z x) e ∙ ap (f b) g

-- ---- conditions
pub while-made : (ss : Scopes) (at : Place) (spot : Bor Place) (e : ExprTree Text) (body : Body Text) (steps : Bor (List Step)) (s : Step)
    → spot.now ≡ at → body_leaves (enter ss) body ≡ listed (steps_of steps.now) → step_view s ≡ Headed WhileWord spot.now (leaves_of ss Once e) (listed (steps_of steps.now))
    → stmt_leaves ss (Headed WhileWord at e body) ≡ step_view s
while-made ss at spot e body steps s near h made =
    ap (λ x. Headed WhileWord x (lowered_expr known_variable Once (renamed_expr variable_of (renamed_expr (bound_in ss) e))) (body_leaves (enter ss) body)) (sym near)
    ∙ both (Headed WhileWord spot.now) (expr-leaves ss Once e) h ∙ sym made

pub if-made : (ss : Scopes) (at : Place) (e : ExprTree Text) (first : Body Text) (steps : Bor (List Step)) (second : Else Text) (other : ElseNode) (s : Step)
    → body_leaves (enter ss) first ≡ listed (steps_of steps.now) → else_leaves ss second ≡ else_view other
    → step_view s ≡ If nowhere (leaves_of ss Once e) (listed (steps_of steps.now)) (else_view other) → stmt_leaves ss (If at e first second) ≡ step_view s
if-made ss at e first steps second other s h g made =
    ap (λ x. If nowhere x (body_leaves (enter ss) first) (else_leaves ss second)) (expr-leaves ss Once e)
    ∙ both (If nowhere (leaves_of ss Once e)) h g ∙ sym made

-- ---- loops
-- the head, and its variables in the scope that was opened for them
pub head-opened : (ss : Scopes) (word : LoopWord) (xs : VariablesTree Text) (item : ItemTree Text) (t : Option ValueType) (o : Opened)
    → t ≡ loop_type ss word xs item → IsRun xs (item_leaves ss Once item) t o.over
    → (has (is_turn xs) t ≡ true → names_view o.names ≡ variables_leaves t (enter ss) xs) → IsOpened ss word xs item o
head-opened ss word xs item t o typed run named =
    let opened = named run.turn in record {
      names = opened ∙ ap (λ (t : Option ValueType). variables_leaves t (enter ss) xs) typed;
      over = run.over;
      fits = names-fit xs t o.over o.names (enter ss) run.fits opened;
    }

module _ (ss : Scopes) (at word : Place) (xs : VariablesTree Text) (item : ItemTree Text) (body : Body Text) (spot : Bor Place) (o : Opened) (steps : Bor (List Step)) (s : Step) (near : spot.now ≡ at) where
  abbrev items : ItemTree Variable
  items = lowered_item known_variable Once (renamed_item variable_of (renamed_item (bound_in ss) item))

  pub for-made : IsOpened ss ForWord xs item o → body_leaves (in_loop ss ForWord xs item) body ≡ listed (steps_of steps.now)
      → step_view s ≡ Loop ForWord spot.now (names_view o.names) nowhere (over_item o.over) None (listed (steps_of steps.now)) → stmt_leaves ss (Loop ForWord at xs word item None body) ≡ step_view s
  for-made opened h made =
      let turns = body_leaves (in_loop ss ForWord xs item) body in
      ap (λ y. Loop ForWord y (variables_leaves (loop_type ss ForWord xs item) (enter ss) xs) nowhere items None turns) (sym near)
      ∙ ap (λ ys. Loop ForWord spot.now ys nowhere items None turns) (sym opened.names)
      ∙ both (λ i t. Loop ForWord spot.now (names_view o.names) nowhere i None t) (items-leaves ss Once item ∙ sym opened.over) h ∙ sym made

  pub forall-made : (w : Option (WithTree Text)) (is : List Intent) → IsOpened ss ForallWord xs item o → map intent_view is ≡ reduced_leaves ss (intents_of w)
      → body_leaves (in_loop ss ForallWord xs item) body ≡ listed (steps_of steps.now)
      → step_view s ≡ Loop ForallWord spot.now (names_view o.names) nowhere (over_item o.over) (with_intents (map intent_view is)) (listed (steps_of steps.now))
      → stmt_leaves ss (Loop ForallWord at xs word item w body) ≡ step_view s
  forall-made w is opened reduced h made =
      let turns = body_leaves (in_loop ss ForallWord xs item) body in
      let bound = option_map (renamed_with (bound_in ss)) w in
      let intents = intents_of (option_map (renamed_with variable_of) bound) in
      let kept : intents ≡ map intent_view is = intents_of-renamed variable_of bound ∙ ap (renamed_intents variable_of) (intents_of-renamed (bound_in ss) w) ∙ sym reduced in
      ap (λ y. Loop ForallWord y (variables_leaves (loop_type ss ForallWord xs item) (enter ss) xs) nowhere items (with_intents intents) turns) (sym near)
      ∙ ap (λ ys. Loop ForallWord spot.now ys nowhere items (with_intents intents) turns) (sym opened.names)
      ∙ ap (λ v. Loop ForallWord spot.now (names_view o.names) nowhere items (with_intents v) turns) kept
      ∙ both (λ i t. Loop ForallWord spot.now (names_view o.names) nowhere i (with_intents (map intent_view is)) t) (items-leaves ss Once item ∙ sym opened.over) h ∙ sym made

-- ---- bodies
pub only-made : (ss : Scopes) (t : StmtTree Text) (s : Step) (empty pushed steps : List Step) → empty ≡ [] → pushed ≡ empty ++ s ∷ [] → steps ≡ pushed
    → stmt_leaves ss t ≡ step_view s → stmts_leaves ss (Then t NoStmts) ≡ steps_of steps
only-made ss t s empty pushed steps none push kept h = ap (λ u. Then u NoStmts) h ∙ ap steps_of (sym (kept ∙ push ∙ ap (λ xs. xs ++ s ∷ []) none))

pub word-made : (ss : Scopes) (at : Place) (t : StmtTree Text) (steps : List Step) → stmts_leaves ss (Then t NoStmts) ≡ steps_of steps → body_leaves ss (WordBody at t) ≡ listed (steps_of steps)
word-made ss at t steps h = ap (λ us. BlockBody nowhere us nowhere) h

pub block-made : (ss : Scopes) (from upto : Place) (ts : Stmts Text) (steps : List Step) → stmts_leaves ss ts ≡ steps_of steps → body_leaves ss (BlockBody from ts upto) ≡ listed (steps_of steps)
block-made ss from upto ts steps h = ap (λ us. BlockBody nowhere us nowhere) h

pub block_stmt-made : (ss : Scopes) (from upto : Place) (ts : Stmts Text) (steps : Bor (List Step)) → stmts_leaves (enter ss) ts ≡ steps_of steps.now
    → stmt_leaves ss (Block from ts upto) ≡ step_view (BlockStep steps)
block_stmt-made ss from upto ts steps h = ap (λ us. Block nowhere us nowhere) (h ∙ sym (steps_view-row steps.now))

pub else-made : (ss : Scopes) (at : Place) (t : StmtTree Text) (s : Bor Step) → stmt_leaves (enter ss) t ≡ step_view s.now → else_leaves ss (ElseDo at t) ≡ else_view (DoStep s)
else-made ss at t s h = ap (ElseDo nowhere) h

-- ---- statements, one behind the other: with what is made of those that are left, it is what is made of all
module _ (ss : Scopes) (all : Stmts Text) where
  pub record StillMakes (first : Option Breach) (now : Scopes) (left : Stmts Text) (steps : List Step) : Type 0 where
    pub plain : first ≡ None → ArePlainStmts ss all → ArePlainStmts now left
    pub node : first ≡ None → ArePlainStmts ss all → (more : List Step) → stmts_leaves now left ≡ steps_of more → stmts_leaves ss all ≡ steps_of (steps ++ more)

  pub still_made : (o p : Option Breach) (bs : List Breach) (now next : Scopes) (t : StmtTree Text) (rest : Stmts Text) (s : Step) (steps : List Step)
      → p ≡ least_from o bs → next ≡ behind now t → MakesStmt now t p s → StillMakes o now (Then t rest) steps → StillMakes p next rest (steps ++ s ∷ [])
  still_made o p bs now next t rest s steps told is makes still = record {
    plain = λ none plain. subst (λ vs. ArePlainStmts vs rest) (sym is) (still.plain (untold o p bs told none) plain).1;
    node = λ none plain more e.
        let before = untold o p bs told none in
        let here = makes none (still.plain before plain).0 in
        still.node before plain (s ∷ more) (both Then here (subst (λ vs. stmts_leaves vs rest ≡ steps_of more) is e)) ∙ ap steps_of (sym (append_assoc steps (s ∷ []) more));
  }

  pub still_made_all : (o : Option Breach) (now : Scopes) (left : Stmts Text) (steps : List Step) → left ≡ NoStmts → StillMakes o now left steps → MakesStmts ss all o steps
  still_made_all o now left steps end still = λ none plain.
      let last = subst (λ ts. StillMakes o now ts steps) end still in
      last.node none plain [] refl ∙ ap steps_of (append-nil steps)

pub still_made_first : (o : Option Breach) (ss : Scopes) (all : Stmts Text) → StillMakes ss all o ss all []
still_made_first o ss all = record { plain = λ none plain. plain; node = λ none plain more e. e }

-- by the list in memory
pub still_made_at : (ss : Scopes) (all : Stmts Text) (xs : List Stmt) (k : ℕ) (x : Stmt) (o p : Option Breach) (bs : List Breach) (now next : Scopes) (s : Step) (steps : List Step)
    → k < length xs → x ≡ get_or xs k x → p ≡ least_from o bs → next ≡ behind now (stmt_view x) → MakesStmt now (stmt_view x) p s
    → StillMakes ss all o now (stmts_of (drop k xs)) steps → StillMakes ss all p next (stmts_of (drop (k + 1) xs)) (steps ++ s ∷ [])
still_made_at ss all xs k x o p bs now next s steps within at told is makes still =
    still_made ss all o p bs now next (stmt_view x) (stmts_of (drop (k + 1) xs)) s steps told is makes (subst (λ ts. StillMakes ss all o now ts steps) (ap stmts_of (drop-at xs k x within at)) still)
