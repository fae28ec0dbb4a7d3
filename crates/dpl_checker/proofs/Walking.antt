-- What a walk over each statement's parts promises of the whole statement.
-- Each lemma goes from the parts in the order in which they are walked to the statement on its right side.
use Rattle.std.proofs.Common.{◌≡◌, ℕ, ◌+◌, max, ◌<◌, true, List, [], ◌++◌, length, drop, get_or, map, Option, Some, None, refl, sym, ap, ◌∙◌, subst, append_assoc, append-nil}
use Rattle.std.specs.Global.{Vec}
use Rattle.dpl_syntax.specs.declared.place.Place.{Place}
use Rattle.dpl_syntax.specs.declared.refusal.Breach.{Breach}
use Rattle.dpl_syntax.proofs.Walks.{drop-at}
use Rattle.dpl_language.specs.Tree.{ExprTree, ItemTree, VariablesTree, DeclareTree, HeadWord, LoopWord, ForWord, ForallWord, CoforallWord, StmtTree, If, Headed, Loop, Body, WordBody, BlockBody, Stmts, NoStmts, Else}
use Rattle.dpl_language.specs.Names.{Text}
use Rattle.dpl_language.specs.Phrases.{intents_of}
use Rattle.dpl_tree.specs.declared.statement.Stmt.{Stmt}
use Rattle.dpl_tree.specs.declared.statement.With.{With}
use Rattle.dpl_tree.specs.Declarations.{optional}
use Rattle.dpl_tree.specs.Statements.{with_view, stmt_view, stmts_of}
use Rattle.dpl_rules.specs.Types.{ValueType}
use Rattle.dpl_rules.specs.Sights.{Scopes, enter}
use Rattle.dpl_rules.specs.Assignments.{condition_breaches}
use Rattle.dpl_rules.specs.Loops.{typed_variable, over_type, variables_of, add_variables, each_once, header_breaches, with_breaches, behind}
use Rattle.dpl_rules.specs.Deeds.{Deed, AForall, ACoforall, held, expr_deeds, item_deeds}
use Rattle.dpl_rules.specs.Doings.{head_held, with_deeds, stmt_deeds, body_deeds, stmts_deeds, else_deeds}
use Rattle.dpl_rules.specs.Bodies.{ForallScope, names_of, forall_scope, forall_breaches, task_breaches}
use Rattle.dpl_rules.specs.Breaches.{head_breaches, stmt_breaches, body_breaches, stmts_breaches, else_breaches, top, top_sight, declarations, body_declarations, else_declarations, all_declarations, count_breaches, least_from}
use Rattle.dpl_rules.specs.Sound.{behind_all}
use Rattle.dpl_types.proofs.Breaches.{least_from_append}
use Rattle.dpl_deeds.specs.declared.deed.Deed.{Deed as DeedNode}
use Rattle.dpl_deeds.specs.View.{deed_view, Adds}
use Rattle.dpl_deeds.proofs.Steps.{added_behind}
use Rattle.dpl_scopes.specs.Slots.{next_slot_in}
use Rattle.dpl_limits.specs.declared.count.Counts.{Counts}
use Rattle.dpl_limits.specs.Counts.{counts_after, none_yet, all_told}
use Rattle.dpl_limits.proofs.Counting.{counts_after_append, counts_told}
use Rattle.dpl_heads.specs.Told.{head_told}
use Rattle.dpl_bound.specs.Bounds.{loop_type, slots_stmt, slots_stmts, slots_body, slots_else, slots_turn}
use Rattle.dpl_checker.specs.declared.walk.Around.{Around}
use Rattle.dpl_checker.specs.declared.walk.Walk.{Walk}
use Rattle.dpl_checker.specs.Walks.{outside, sight_in, Walks, WalksTop, WalksStmt, WalksStmts, WalksInner, WalksBody, behind_body, WalksElse, WalksLoop, WalksShared, WalksTurns, of_variables}
use Rattle.dpl_rules.proofs.Left.{leave_behind, leave_behind_all, leave_variables}
use Rattle.dpl_checker.proofs.Slots.{slots_of_loop}
use Rattle.dpl_checker.proofs.Steps.{told_then, told_before, adds_then}

-- one part and then another
counted_then : (c d e : Counts) (fs gs : List (DeclareTree Text)) → d ≡ counts_after c fs → e ≡ counts_after d gs → e ≡ counts_after c (fs ++ gs)
counted_then c d e fs gs first second = second ∙ ap (λ n. counts_after n gs) first ∙ sym (counts_after_append c fs gs)

walks_then : (ss vs : Scopes) (n m : ℕ) (ds es : List Deed) (bs cs : List Breach) (fs gs : List (DeclareTree Text)) (a b c : Walk)
    → Walks ss n ds bs fs a b → Walks vs m es cs gs b c → Walks vs m (ds ++ es) (bs ++ cs) (fs ++ gs) a c
walks_then ss vs n m ds es bs cs fs gs a b c first second = record {
  scopes = second.scopes;
  slots = second.slots;
  deeds = adds_then a.deeds.items b.deeds.items c.deeds.items ds es first.deeds second.deeds;
  told = told_then a.first b.first c.first bs cs first.told second.told;
  counts = counted_then a.counts b.counts c.counts fs gs first.counts second.counts;
}

-- a body where the scopes around it and the slots so far are known, and what stands behind `else`
body_where : (ss : Scopes) (n : ℕ) (around : Around) (t : Body Text) (b c : Walk) → b.scopes ≡ ss → b.slots ≡ n → WalksBody around t b c
    → Walks ss (slots_body (enter ss) t n) (body_deeds (enter ss) t) (body_breaches (sight_in (enter ss) around) t) (body_declarations t) b c
body_where ss n around t b c e f w =
    subst (λ m. Walks ss (slots_body (enter ss) t m) (body_deeds (enter ss) t) (body_breaches (sight_in (enter ss) around) t) (body_declarations t) b c) f
    (subst (λ vs. Walks vs (slots_body (enter vs) t b.slots) (body_deeds (enter vs) t) (body_breaches (sight_in (enter vs) around) t) (body_declarations t) b c) e w)

else_where : (ss : Scopes) (n : ℕ) (around : Around) (t : Else Text) (b c : Walk) → b.scopes ≡ ss → b.slots ≡ n → WalksElse around t b c
    → Walks ss (slots_else ss t n) (else_deeds (enter ss) t) (else_breaches (sight_in (enter ss) around) t) (else_declarations t) b c
else_where ss n around t b c e f w =
    subst (λ m. Walks ss (slots_else ss t m) (else_deeds (enter ss) t) (else_breaches (sight_in (enter ss) around) t) (else_declarations t) b c) f
    (subst (λ vs. Walks vs (slots_else vs t b.slots) (else_deeds (enter vs) t) (else_breaches (sight_in (enter vs) around) t) (else_declarations t) b c) e w)

-- a word with a head and a body
pub headed_walks : (word : HeadWord) (at : Place) (e : ExprTree Text) (body : Body Text) (around : Around) (a b c : Walk)
    → Walks a.scopes a.slots (head_held word at ++ expr_deeds a.scopes e) (head_breaches (sight_in a.scopes around) word e) [] a b → WalksBody around body b c
    → WalksStmt around (Headed word at e body) a c
headed_walks word at e body around a b c head w =
    let ss = a.scopes in
    let n = a.slots in
    walks_then ss ss n (slots_body (enter ss) body n) (head_held word at ++ expr_deeds ss e) (body_deeds (enter ss) body)
    (head_breaches (sight_in ss around) word e) (body_breaches (sight_in (enter ss) around) body) [] (body_declarations body) a b c
    head (body_where ss n around body b c head.scopes head.slots w)

pub if_walks : (at : Place) (e : ExprTree Text) (first : Body Text) (second : Else Text) (around : Around) (a b c d : Walk)
    → Walks a.scopes a.slots (expr_deeds a.scopes e) (condition_breaches (sight_in a.scopes around) e) [] a b → WalksBody around first b c → WalksElse around second c d
    → WalksStmt around (If at e first second) a d
if_walks at e first second around a b c d tested w x =
    let ss = a.scopes in
    let n = a.slots in
    let m = slots_body (enter ss) first n in
    let taken = body_where ss n around first b c tested.scopes tested.slots w in
    walks_then ss ss m (slots_else ss second m) (expr_deeds ss e ++ body_deeds (enter ss) first) (else_deeds (enter ss) second)
    (condition_breaches (sight_in ss around) e ++ body_breaches (sight_in (enter ss) around) first) (else_breaches (sight_in (enter ss) around) second)
    (body_declarations first) (else_declarations second) a c d
    (walks_then ss ss n m (expr_deeds ss e) (body_deeds (enter ss) first) (condition_breaches (sight_in ss around) e) (body_breaches (sight_in (enter ss) around) first) [] (body_declarations first) a b c tested taken)
    (else_where ss m around second c d taken.scopes taken.slots x)

-- ---- scopes that are entered and left
-- a statement, and several, in a scope of their own
abbrev pub StmtInside : Scopes → Around → StmtTree Text → Walk → Walk → Type 0
StmtInside ss around t a b = Walks ss (slots_stmt (enter ss) t a.slots) (stmt_deeds (enter ss) t) (stmt_breaches (sight_in (enter ss) around) t) (declarations t) a b

abbrev pub StmtsInside : Scopes → Around → Stmts Text → Walk → Walk → Type 0
StmtsInside ss around ts a b = Walks ss (slots_stmts (enter ss) ts a.slots) (stmts_deeds (enter ss) ts) (stmts_breaches (sight_in (enter ss) around) ts) (all_declarations ts) a b

pub stmt_left : (ss entered : Scopes) (around : Around) (t : StmtTree Text) (a b : Walk) (left : Scopes) → entered ≡ enter ss
    → WalksStmt around t (record a { scopes = entered }) b → left ≡ drop 1 b.scopes → StmtInside ss around t a (record b { scopes = left })
stmt_left ss entered around t a b left e w l =
    let inside = subst (λ vs. Walks (behind vs t) (slots_stmt vs t a.slots) (stmt_deeds vs t) (stmt_breaches (sight_in vs around) t) (declarations t) a b) e
    (record { scopes = w.scopes; slots = w.slots; deeds = w.deeds; told = w.told; counts = w.counts }) in
    record { scopes = l ∙ ap (drop 1) inside.scopes ∙ leave_behind [] ss t; slots = inside.slots; deeds = inside.deeds; told = inside.told; counts = inside.counts }

pub stmts_left : (ss entered : Scopes) (around : Around) (ts : Stmts Text) (a b : Walk) (left : Scopes) → entered ≡ enter ss
    → WalksStmts around ts (record a { scopes = entered }) b → left ≡ drop 1 b.scopes → StmtsInside ss around ts a (record b { scopes = left })
stmts_left ss entered around ts a b left e w l =
    let inside = subst (λ vs. Walks (behind_all vs ts) (slots_stmts vs ts a.slots) (stmts_deeds vs ts) (stmts_breaches (sight_in vs around) ts) (all_declarations ts) a b) e
    (record { scopes = w.scopes; slots = w.slots; deeds = w.deeds; told = w.told; counts = w.counts }) in
    record { scopes = l ∙ ap (drop 1) inside.scopes ∙ leave_behind_all [] ss ts; slots = inside.slots; deeds = inside.deeds; told = inside.told; counts = inside.counts }

leave_body : (ss : Scopes) (t : Body Text) → drop 1 (behind_body (enter ss) t) ≡ ss
leave_body ss (WordBody at t) = leave_behind [] ss t
leave_body ss (BlockBody from ts upto) = leave_behind_all [] ss ts

pub body_left : (ss entered : Scopes) (around : Around) (t : Body Text) (a b : Walk) (left : Scopes) → entered ≡ enter ss
    → WalksInner around t (record a { scopes = entered }) b → left ≡ drop 1 b.scopes
    → Walks ss (slots_body (enter ss) t a.slots) (body_deeds (enter ss) t) (body_breaches (sight_in (enter ss) around) t) (body_declarations t) a (record b { scopes = left })
body_left ss entered around t a b left e w l =
    let inside = subst (λ vs. Walks (behind_body vs t) (slots_body vs t a.slots) (body_deeds vs t) (body_breaches (sight_in vs around) t) (body_declarations t) a b) e
    (record { scopes = w.scopes; slots = w.slots; deeds = w.deeds; told = w.told; counts = w.counts }) in
    record { scopes = l ∙ ap (drop 1) inside.scopes ∙ leave_body ss t; slots = inside.slots; deeds = inside.deeds; told = inside.told; counts = inside.counts }

-- the same where the walk is known to be the one behind it
pub stmt_left_at : (ss entered : Scopes) (around : Around) (t : StmtTree Text) (a b m : Walk) (left : Scopes) → entered ≡ enter ss
    → WalksStmt around t (record a { scopes = entered }) b → m ≡ b → left ≡ drop 1 m.scopes → StmtInside ss around t a (record m { scopes = left })
stmt_left_at ss entered around t a b m left e w same l =
    subst (λ (x : Walk). left ≡ drop 1 x.scopes → StmtInside ss around t a (record x { scopes = left })) (sym same) (stmt_left ss entered around t a b left e w) l

pub stmts_left_at : (ss entered : Scopes) (around : Around) (ts : Stmts Text) (a b m : Walk) (left : Scopes) → entered ≡ enter ss
    → WalksStmts around ts (record a { scopes = entered }) b → m ≡ b → left ≡ drop 1 m.scopes → StmtsInside ss around ts a (record m { scopes = left })
stmts_left_at ss entered around ts a b m left e w same l =
    subst (λ (x : Walk). left ≡ drop 1 x.scopes → StmtsInside ss around ts a (record x { scopes = left })) (sym same) (stmts_left ss entered around ts a b left e w) l

-- ---- loops
-- the scope of a loop's variables is left
variables_left : (ss : Scopes) (word : LoopWord) (xs : VariablesTree Text) (item : ItemTree Text) (vs left : Scopes)
    → vs ≡ of_variables ss word xs item → left ≡ drop 1 vs → left ≡ ss
variables_left ss word xs item vs left e l =
    l ∙ ap (drop 1) e ∙ leave_variables (typed_variable word xs (over_type ss item)) (variables_of xs) [] ss

pub loop_walks : (word : LoopWord) (xs : VariablesTree Text) (item : ItemTree Text) (a : Walk) (rs : Scopes) (ds : Vec DeedNode) (p q : Option Breach) (t : Option ValueType) (b : Walk)
    → t ≡ loop_type a.scopes word xs item → p ≡ least_from a.first (head_told a.scopes word xs item) → Adds (item_deeds a.scopes item) a.deeds.items ds.items
    → rs ≡ add_variables t (variables_of xs) (enter a.scopes) → q ≡ least_from p (each_once (enter a.scopes) (variables_of xs))
    → b ≡ record a { scopes = rs; deeds = ds; first = q; slots = max a.slots (next_slot_in rs) } → WalksLoop word xs item a b
loop_walks word xs item a rs ds p q t b typed told added opened once is =
    let ss = a.scopes in
    let twice = each_once (enter ss) (variables_of xs) in
    let stands : rs ≡ of_variables ss word xs item = opened ∙ ap (λ (t : Option ValueType). add_variables t (variables_of xs) (enter ss)) typed in
    subst (λ (w : Walk). WalksLoop word xs item a w) (sym is) (record {
      scopes = stands;
      slots = ap (λ vs. max a.slots (next_slot_in vs)) stands ∙ slots_of_loop ss word xs item a.slots;
      deeds = added;
      told = told_then a.first p q (head_told ss word xs item) twice told once;
      counts = refl;
    })

pub for_walks : (at : Place) (xs : VariablesTree Text) (word : Place) (item : ItemTree Text) (body : Body Text) (around : Around) (a b c : Walk) (left : Scopes)
    → WalksLoop ForWord xs item a b → WalksBody around body b c → left ≡ drop 1 c.scopes
    → WalksStmt around (Loop ForWord at xs word item None body) a (record c { scopes = left })
for_walks at xs word item body around a b c left opened w l =
    let ss = a.scopes in
    let vs = of_variables ss ForWord xs item in
    let n = slots_turn ss ForWord xs item a.slots in
    let turns = body_where vs n around body b c opened.scopes opened.slots w in
    let owed = header_breaches ss ForWord xs item in
    let read = item_deeds ss item in
    let head =
    subst (λ ds. Walks vs n ds (owed ++ [] ++ []) [] a b) (sym (append-nil read))
    (subst (λ bs. Walks vs n read bs [] a b) (sym (append-nil (owed ++ []) ∙ append-nil owed)) opened) in
    let all = walks_then vs vs n (slots_body (enter vs) body n) (read ++ []) (body_deeds (enter vs) body) (owed ++ [] ++ []) (body_breaches (sight_in (enter vs) around) body)
    [] (body_declarations body) a b c head turns in
    record { scopes = variables_left ss ForWord xs item c.scopes left turns.scopes l; slots = all.slots; deeds = all.deeds; told = all.told; counts = all.counts }

-- what a loop's body adds stands behind the deeds before it
behind_start : (start : ℕ) (old new : List DeedNode) (ds : List Deed) → start ≡ length old → Adds ds old new → map deed_view (drop start new) ≡ ds
behind_start start old new ds e added = ap (λ n. map deed_view (drop n new)) e ∙ added_behind old new ds added

-- a head is told, then a body, and then what the body does
told_around : (o p q r : Option Breach) (head body does : List Breach) → p ≡ least_from o head → q ≡ least_from p body → r ≡ least_from q does
    → r ≡ least_from o (head ++ does ++ body)
told_around o p q r head body does first second third =
    told_then o p r head (does ++ body) first (told_before p q r does body second third)
    ∙ ap (least_from o) (sym (append_assoc head does body))

-- what is in sight in a forall's body, and the forall as its rules see it
abbrev pub in_turns : ℕ → Option With → Around → Around
in_turns depth with around = record { forall = Some (record { depth = depth; with = with }); in_task = around.in_task }

abbrev pub turns_at : ℕ → VariablesTree Text → Option With → ForallScope
turns_at depth xs with = record { variables = names_of (variables_of xs); reducing = record { depth = depth; variables = intents_of (optional with_view with) } }

abbrev pub in_task : Around → Around
in_task around = record { forall = around.forall; in_task = true }

module _ (at : Place) (xs : VariablesTree Text) (word : Place) (item : ItemTree Text) (with : Option With) (body : Body Text) (around : Around) where
  pub forall_walks : (depth start : ℕ) (a b c : Walk) (left : Scopes) (told : Option Breach)
      → depth ≡ length a.scopes
      → WalksTurns at xs item (optional with_view with) a b
      → start ≡ length b.deeds.items
      → WalksBody (in_turns depth with around) body b c
      → left ≡ drop 1 c.scopes
      → told ≡ least_from c.first (forall_breaches (turns_at depth xs with) (map deed_view (drop start c.deeds.items)))
      → WalksStmt around (Loop ForallWord at xs word item (optional with_view with) body) a (record c { scopes = left; first = told })
  forall_walks depth start a b c left told deep opened begin w l t =
      let ss = a.scopes in
      let intents = optional with_view with in
      let vs = of_variables ss ForallWord xs item in
      let inner = in_turns (length ss) with around in
      let n = slots_turn ss ForallWord xs item a.slots in
      let turns = body_where vs n inner body b c opened.scopes opened.slots (subst (λ n. WalksBody (in_turns n with around) body b c) deep w) in
      let ds = body_deeds (enter vs) body in
      let does : told ≡ least_from c.first (forall_breaches (forall_scope ss xs intents) ds) =
      t ∙ ap (λ n. least_from c.first (forall_breaches (turns_at n xs with) (map deed_view (drop start c.deeds.items)))) deep
      ∙ ap (λ es. least_from c.first (forall_breaches (forall_scope ss xs intents) es)) (behind_start start b.deeds.items c.deeds.items ds begin turns.deeds) in
      let head = held at AForall ++ item_deeds ss item ++ with_deeds intents in record {
        scopes = variables_left ss ForallWord xs item c.scopes left turns.scopes l;
        slots = turns.slots;
        deeds = adds_then a.deeds.items b.deeds.items c.deeds.items head ds opened.deeds turns.deeds;
        told = told_around a.first b.first c.first told (header_breaches ss ForallWord xs item ++ with_breaches ss intents)
            (body_breaches (sight_in (enter vs) inner) body) (forall_breaches (forall_scope ss xs intents) ds) opened.told turns.told does;
        counts = counted_then a.counts b.counts c.counts [] (body_declarations body) opened.counts turns.counts;
      }

  pub coforall_walks : (depth start : ℕ) (a : Walk) (marked : Vec DeedNode) (b : Walk) (intended : Vec DeedNode) (c : Walk) (left : Scopes) (told : Option Breach)
      → depth ≡ length a.scopes
      → Adds (held at ACoforall) a.deeds.items marked.items
      → WalksShared CoforallWord xs item (optional with_view with) (record a { deeds = marked }) b
      → start ≡ length b.deeds.items
      → Adds (with_deeds (optional with_view with)) b.deeds.items intended.items
      → WalksBody (in_task around) body (record b { deeds = intended }) c
      → left ≡ drop 1 c.scopes
      → told ≡ least_from c.first (task_breaches depth (map deed_view (drop start c.deeds.items)))
      → WalksStmt around (Loop CoforallWord at xs word item (optional with_view with) body) a (record c { scopes = left; first = told })
  coforall_walks depth start a marked b intended c left told deep mark opened begin intend w l t =
      let ss = a.scopes in
      let intents = optional with_view with in
      let vs = of_variables ss CoforallWord xs item in
      let inner = in_task around in
      let n = slots_turn ss CoforallWord xs item a.slots in
      let tasks = body_where vs n inner body (record b { deeds = intended }) c opened.scopes opened.slots w in
      let ds = body_deeds (enter vs) body in
      let both = adds_then b.deeds.items intended.items c.deeds.items (with_deeds intents) ds intend tasks.deeds in
      let does : told ≡ least_from c.first (task_breaches (length ss) (with_deeds intents ++ ds)) =
      t ∙ ap (λ n. least_from c.first (task_breaches n (map deed_view (drop start c.deeds.items)))) deep
      ∙ ap (λ es. least_from c.first (task_breaches (length ss) es)) (behind_start start b.deeds.items c.deeds.items (with_deeds intents ++ ds) begin both) in
      let head = held at ACoforall ++ item_deeds ss item in
      let begun = adds_then a.deeds.items marked.items b.deeds.items (held at ACoforall) (item_deeds ss item) mark opened.deeds in
      let shared = adds_then a.deeds.items b.deeds.items intended.items head (with_deeds intents) begun intend in record {
        scopes = variables_left ss CoforallWord xs item c.scopes left tasks.scopes l;
        slots = tasks.slots;
        deeds = adds_then a.deeds.items intended.items c.deeds.items (head ++ with_deeds intents) ds shared tasks.deeds;
        told = told_around a.first b.first c.first told (header_breaches ss CoforallWord xs item ++ with_breaches ss intents)
            (body_breaches (sight_in (enter vs) inner) body) (task_breaches (length ss) (with_deeds intents ++ ds)) opened.told tasks.told does;
        counts = counted_then a.counts b.counts c.counts [] (body_declarations body) opened.counts tasks.counts;
      }

-- ---- statements, one behind the other
-- What is left from here on is what was left at first: all but the deeds, and these.
pub record StillPasses (around : Around) (now : Walk) (left : Stmts Text) (old : Walk) (all : Stmts Text) : Type 0 where
  pub scopes : behind_all now.scopes left ≡ behind_all old.scopes all
  pub slots : slots_stmts now.scopes left now.slots ≡ slots_stmts old.scopes all old.slots
  pub told : least_from now.first (stmts_breaches (sight_in now.scopes around) left) ≡ least_from old.first (stmts_breaches (sight_in old.scopes around) all)
  pub counts : counts_after now.counts (all_declarations left) ≡ counts_after old.counts (all_declarations all)

abbrev pub StillAdds : Walk → Stmts Text → Walk → Stmts Text → Type 0
StillAdds now left old all = map deed_view now.deeds.items ++ stmts_deeds now.scopes left ≡ map deed_view old.deeds.items ++ stmts_deeds old.scopes all

abbrev pub StillWalks : Around → Walk → Stmts Text → Walk → Stmts Text → Type 0
StillWalks around now left old all = StillPasses around now left old all × StillAdds now left old all

pub passes_begun : (around : Around) (a : Walk) (ts : Stmts Text) → StillPasses around a ts a ts
passes_begun around a ts = record { scopes = refl; slots = refl; told = refl; counts = refl }

pub adds_begun : (a : Walk) (ts : Stmts Text) → StillAdds a ts a ts
adds_begun a ts = refl

pub passes_then : (around : Around) (a b c : Walk) (ts us vs : Stmts Text) → StillPasses around a ts b us → StillPasses around b us c vs → StillPasses around a ts c vs
passes_then around a b c ts us vs f g = record { scopes = f.scopes ∙ g.scopes; slots = f.slots ∙ g.slots; told = f.told ∙ g.told; counts = f.counts ∙ g.counts }

-- whatever stands in the list of deeds
pub passes_with : (around : Around) (now : Walk) (ds : Vec DeedNode) (left : Stmts Text) (old : Walk) (all : Stmts Text)
    → StillPasses around now left old all → StillPasses around (record now { deeds = ds }) left old all
passes_with around now ds left old all f = record { scopes = f.scopes; slots = f.slots; told = f.told; counts = f.counts }

pub passes_step : (around : Around) (xs : List Stmt) (k : ℕ) (x : Stmt) (a b : Walk) → k < length xs → x ≡ get_or xs k x → WalksStmt around (stmt_view x) a b
    → StillPasses around b (stmts_of (drop (k + 1) xs)) a (stmts_of (drop k xs))
passes_step around xs k x a b within is w =
    let t = stmt_view x in
    let ts = stmts_of (drop (k + 1) xs) in
    let vs = behind a.scopes t in
    rw (drop-at xs k x within is) (record {
      scopes = ap (λ ss. behind_all ss ts) w.scopes;
      slots = ap (λ ss. slots_stmts ss ts b.slots) w.scopes ∙ ap (slots_stmts vs ts) w.slots;
      told = ap (λ ss. least_from b.first (stmts_breaches (sight_in ss around) ts)) w.scopes
          ∙ ap (λ o. least_from o (stmts_breaches (sight_in vs around) ts)) w.told
          ∙ sym (least_from_append a.first (stmt_breaches (sight_in a.scopes around) t) (stmts_breaches (sight_in vs around) ts));
      counts = ap (λ n. counts_after n (all_declarations ts)) w.counts ∙ sym (counts_after_append a.counts (declarations t) (all_declarations ts));
    })

pub adds_step : (around : Around) (xs : List Stmt) (k : ℕ) (x : Stmt) (a b : Walk) → k < length xs → x ≡ get_or xs k x → WalksStmt around (stmt_view x) a b
    → StillAdds b (stmts_of (drop (k + 1) xs)) a (stmts_of (drop k xs))
adds_step around xs k x a b within is w =
    let t = stmt_view x in
    let ts = stmts_of (drop (k + 1) xs) in
    let vs = behind a.scopes t in
    rw (drop-at xs k x within is) (
    ap (λ ss. map deed_view b.deeds.items ++ stmts_deeds ss ts) w.scopes
    ∙ ap (λ ds. ds ++ stmts_deeds vs ts) w.deeds
    ∙ append_assoc (map deed_view a.deeds.items) (stmt_deeds a.scopes t) (stmts_deeds vs ts)
    )

pub still_ended : (around : Around) (now old : Walk) (left all : Stmts Text) → left ≡ NoStmts → StillWalks around now left old all → WalksStmts around all old now
still_ended around now old left all none walks =
    let end = subst (λ ts. StillWalks around now ts old all) none walks in
    record {
      scopes = end.0.scopes;
      slots = end.0.slots;
      deeds = sym (append-nil (map deed_view now.deeds.items)) ∙ end.1;
      told = end.0.told;
      counts = end.0.counts;
    }

-- those of the top level, where there were no deeds at first and are none now
pub top_ended : (now old : Walk) (left all : Stmts Text) → left ≡ NoStmts → old.deeds.items ≡ [] → now.deeds.items ≡ [] → StillPasses outside now left old all → WalksTop all old now
top_ended now old left all none empty cleared walks =
    let end = subst (λ ts. StillPasses outside now ts old all) none walks in
    record {
      scopes = end.scopes;
      slots = end.slots;
      deeds = ap (map deed_view) (cleared ∙ sym empty) ∙ sym (append-nil (map deed_view old.deeds.items));
      told = end.told;
      counts = end.counts;
    }

-- ---- a program
module _ (ts : Stmts Text) (a b : Walk) (scopes : a.scopes ≡ top) (slots : a.slots ≡ 0) (first : a.first ≡ None) (counts : a.counts ≡ none_yet)
    (walks : WalksTop ts a b) where
  all_walks : Walks (behind_all top ts) (slots_stmts top ts 0) [] (stmts_breaches top_sight ts) (all_declarations ts) a b
  all_walks =
      subst (λ n. Walks (behind_all top ts) (slots_stmts top ts n) [] (stmts_breaches top_sight ts) (all_declarations ts) a b) slots
      (subst (λ vs. Walks (behind_all vs ts) (slots_stmts vs ts a.slots) [] (stmts_breaches (sight_in vs outside) ts) (all_declarations ts) a b) scopes walks)

  pub program_behind : b.scopes ≡ behind_all top ts
  program_behind = all_walks.scopes

  pub program_slots : b.slots ≡ slots_stmts top ts 0
  program_slots = all_walks.slots

  pub program_told : least_from b.first (all_told b.counts) ≡ least_from None (stmts_breaches top_sight ts ++ count_breaches (all_declarations ts))
  program_told =
      let told = stmts_breaches top_sight ts in
      let counted = count_breaches (all_declarations ts) in
      ap (λ o. least_from o (all_told b.counts)) (all_walks.told ∙ ap (λ o. least_from o told) first)
      ∙ ap (least_from (least_from None told)) (ap all_told (all_walks.counts ∙ ap (λ c. counts_after c (all_declarations ts)) counts) ∙ counts_told (all_declarations ts))
      ∙ sym (least_from_append None told counted)
