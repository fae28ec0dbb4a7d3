-- A statement that a text spells, that needs nothing which doesn't run and that breaks no rule is runnable, where each name in
-- sight has a type of some kind; and so is a program.
use Rattle.std.proofs.Common.{◌≡◌, [], ◌++◌, Option, Some, None, refl}
use Rattle.dpl_language.specs.Tree.{ExprTree, Whole, Element, HeadWord, OnWord, ForWord, ForallWord, CoforallWord, StmtTree, Nothing, Declare, Assigned, Call, Write, Block, If, Headed, Loop, Body, WordBody, BlockBody, Stmts, NoStmts, Then, Else, NoElse, ElseDo}
use Rattle.dpl_language.specs.Names.{Text}
use Rattle.dpl_spelling.specs.Spelt.{ExprSpelt, StmtSpelt, BodySpelt, StmtsSpelt, ElseSpelt}
use Rattle.dpl_agreement.specs.Untasked.{UntaskedExpr, UntaskedHead, UntaskedStmt, UntaskedBody, UntaskedStmts, UntaskedElse}
use Rattle.dpl_rules.specs.Sights.{Scopes, enter}
use Rattle.dpl_rules.specs.Assignments.{assignment_breaches, condition_breaches}
use Rattle.dpl_rules.specs.Loops.{header_breaches, with_breaches, behind, in_loop}
use Rattle.dpl_rules.specs.Deeds.{expr_deeds, item_deeds}
use Rattle.dpl_rules.specs.Doings.{with_deeds, head_held, stmt_deeds, body_deeds, stmts_deeds, else_deeds}
use Rattle.dpl_rules.specs.Bodies.{forall_scope, written_arrays, forall_breaches, promoted_breaches}
use Rattle.dpl_rules.specs.Breaches.{top, top_sight, in_turn, head_breaches, stmt_breaches, body_breaches, stmts_breaches, else_breaches}
use Rattle.dpl_rules.proofs.Admission.{first_empty, second_empty}
use Rattle.dpl_words.specs.Words.{TruthLeaf}
use Rattle.dpl_memory.specs.Memory.{PlainKind}
use Rattle.dpl_nodes.specs.Spots.{IsNear}
use Rattle.dpl_runnable.specs.Runnable.{IsExprOf, IsRunnableStmt, IsRunnableBody, AreRunnableStmts, IsRunnableElse, IsRunnableTop, AreRunnableTops}
use Rattle.dpl_runnable.specs.Written.{IsWrittenStmt, IsWrittenBody, AreWrittenStmts, IsWrittenElse, IsWrittenTop, AreWrittenTops}
use Rattle.dpl_runnable.proofs.Scopes.{top-variables, in_loop-variables}
use Rattle.dpl_runnable.proofs.Declared.{runnable_declare}
use Rattle.dpl_runnable.proofs.Changes.{runnable_element, call-refuted, runnable_change}
use Rattle.dpl_runnable.proofs.Printed.{runnable_arguments, runnable_condition}
use Rattle.dpl_runnable.proofs.Loops.{runnable_header}
use Rattle.dpl_runnable.proofs.Reduced.{runnable_intents, inside-outer, inside-loop}
use Rattle.dpl_runnable.proofs.Around.{Turning, forall_by, intents_by, sight_by, Stands, MayDoIn, first-done, second-done, forall-refuted, enter-stands, loop-stands, behind-stands, reduced-around}

-- an expression behind a word that runs is a condition
runnable_head : (word : HeadWord) (f : Option Turning) (ss : Scopes) → Stands f ss → (e : ExprTree Text) → ExprSpelt IsNear ⊥ e → UntaskedExpr e → UntaskedHead word
    → head_breaches (sight_by f ss) word e ≡ [] → IsExprOf ss e (PlainKind TruthLeaf)
runnable_head OnWord f ss stands e s c runs h = absurd runs
runnable_head _ f ss stands e s c runs h = runnable_condition ss stands.names (forall_by f) e s c h

mutual
  pub runnable_stmt : (t : StmtTree Text) (f : Option Turning) (ss : Scopes) → Stands f ss → StmtSpelt IsNear ⊥ t → IsWrittenStmt t → UntaskedStmt t
      → stmt_breaches (sight_by f ss) t ≡ [] → MayDoIn f (stmt_deeds ss t) → IsRunnableStmt ss (intents_by f) t
  runnable_stmt (Nothing at) f ss stands s w c h m = tt
  runnable_stmt (Declare d) f ss stands s w c h m = (w, runnable_declare ss stands.names d s c h)
  runnable_stmt (Assigned (Whole x) sign item semicolon) f ss stands s w c h m = (
    runnable_change ss stands.names (forall_by f) (intents_by f) (reduced-around f ss stands.around) x sign item s.2 c.1
        (first_empty (assignment_breaches (sight_by f ss) (Whole x) sign item) (promoted_breaches ss (Whole x) item) h),
    s.1.0,
    s.0,
  )
  runnable_stmt (Assigned (Element x shape from es upto) sign item semicolon) f ss stands s w c h m = (
    runnable_element ss stands.names (forall_by f) x shape from es upto sign item s.0.2 s.2 c.0 c.1
        (first_empty (assignment_breaches (sight_by f ss) (Element x shape from es upto) sign item) (promoted_breaches ss (Element x shape from es upto) item) h),
    s.1.0,
    s.0.0,
  )
  runnable_stmt (Call x dot call semicolon) f ss stands s w c h m = call-refuted ss stands.names (forall_by f) x call h
  runnable_stmt (Write t) f ss stands s w c h m = runnable_arguments ss stands.names (forall_by f) t.arguments s.2 c h
  runnable_stmt (Block from ts upto) f ss stands s w c h m = runnable_stmts ts f (enter ss) (enter-stands f ss stands) s.1 w c h m
  runnable_stmt (If at e first second) f ss stands s w c h m =
      let test = condition_breaches (sight_by f ss) e in
      let one = body_breaches (sight_by f (enter ss)) first in
      let other = else_breaches (sight_by f (enter ss)) second in
      let front = first_empty (test ++ one) other h in
      let tested = expr_deeds ss e in
      let first_deeds = body_deeds (enter ss) first in
      let second_deeds = else_deeds (enter ss) second in (
        runnable_condition ss stands.names (forall_by f) e s.1 c.0 (first_empty test one front),
        runnable_body first f (enter ss) (enter-stands f ss stands) s.2 w.0 c.1 (second_empty test one front)
            (second-done f tested first_deeds (first-done f (tested ++ first_deeds) second_deeds m)),
        runnable_else second f ss stands s.3 w.1 c.2 (second_empty (test ++ one) other h)
            (second-done f (tested ++ first_deeds) second_deeds m),
      )
  runnable_stmt (Headed word at e body) f ss stands s w c h m =
      let test = head_breaches (sight_by f ss) word e in
      let others = body_breaches (sight_by f (enter ss)) body in (
        runnable_head word f ss stands e s.1 c.0 c.2 (first_empty test others h),
        runnable_body body f (enter ss) (enter-stands f ss stands) s.2 w c.1 (second_empty test others h)
            (second-done f (head_held word at ++ expr_deeds ss e) (body_deeds (enter ss) body) m),
        s.0,
        c.2,
      )
  runnable_stmt (Loop ForWord at xs within item intents body) f ss stands s w c h m =
      let inner = in_loop ss ForWord xs item in
      let head = header_breaches ss ForWord xs item in
      let intended = with_breaches ss intents in
      let others = body_breaches (sight_by f inner) body in
      let closed = c.0 in
      let headed = first_empty head intended (first_empty (head ++ intended) [] (first_empty (head ++ intended ++ []) others h)) in (
        runnable_header ss stands.names ForWord xs item w.0 s.3 closed headed,
        runnable_body body f inner (loop-stands IsNear ss f ForWord xs item stands s.3 closed headed) s.5 w.1 c.1 (second_empty (head ++ intended ++ []) others h)
            (second-done f (item_deeds ss item ++ with_deeds intents) (body_deeds inner body) m),
        s.0,
        c.2,
        tt,
      )
  runnable_stmt (Loop ForallWord at xs within item intents body) None ss stands s w c h m =
      let inner = in_loop ss ForallWord xs item in
      let ds = body_deeds inner body in
      let loop = forall_scope ss xs intents in
      let head = header_breaches ss ForallWord xs item in
      let intended = with_breaches ss intents in
      let told = forall_breaches loop ds in
      let others = body_breaches (in_turn (sight_by None ss) ForallWord xs item intents) body in
      let front = first_empty (head ++ intended ++ told) others h in
      let heads = first_empty (head ++ intended) told front in
      let headed = first_empty head intended heads in
      let none = second_empty head intended heads in
      let closed = c.0 in
      let f : Turning = record { outer = ss; variables = xs; intents = intents; written = written_arrays loop ds } in (
        runnable_header ss stands.names ForallWord xs item w.0 s.3 closed headed,
        runnable_body body (Some f) inner
            (record {
              names = in_loop-variables ss IsNear stands.names ForallWord xs item s.3 closed headed;
              around = record { names = stands.names; told = none; inside = inside-loop ss ss ForallWord xs item (inside-outer ss) };
            })
            s.5 w.1 c.1 (second_empty (head ++ intended ++ told) others h) (second_empty (head ++ intended) told front),
        s.0,
        c.2,
        (refl, runnable_intents ss stands.names intents none),
      )
  runnable_stmt (Loop ForallWord at xs within item intents body) (Some f) ss stands s w c h m =
      absurd (forall-refuted f at (item_deeds ss item ++ with_deeds intents ++ body_deeds (in_loop ss ForallWord xs item) body) m)
  runnable_stmt (Loop CoforallWord at xs within item intents body) f ss stands s w c h m = absurd c.2

  runnable_body : (t : Body Text) (f : Option Turning) (ss : Scopes) → Stands f ss → BodySpelt IsNear ⊥ t → IsWrittenBody t → UntaskedBody t
      → body_breaches (sight_by f ss) t ≡ [] → MayDoIn f (body_deeds ss t) → IsRunnableBody ss (intents_by f) t
  runnable_body (WordBody at t) f ss stands s w c h m = runnable_stmt t f ss stands s.1 w c h m
  runnable_body (BlockBody from ts upto) f ss stands s w c h m = runnable_stmts ts f ss stands s.1 w c h m

  runnable_stmts : (ts : Stmts Text) (f : Option Turning) (ss : Scopes) → Stands f ss → StmtsSpelt IsNear ⊥ ts → AreWrittenStmts ts → UntaskedStmts ts
      → stmts_breaches (sight_by f ss) ts ≡ [] → MayDoIn f (stmts_deeds ss ts) → AreRunnableStmts ss (intents_by f) ts
  runnable_stmts NoStmts f ss stands s w c h m = tt
  runnable_stmts (Then t rest) f ss stands s w c h m =
      let own = stmt_breaches (sight_by f ss) t in
      let others = stmts_breaches (sight_by f (behind ss t)) rest in
      let done = stmt_deeds ss t in
      let more = stmts_deeds (behind ss t) rest in
      let closed = c.0 in (
        runnable_stmt t f ss stands s.0 w.0 closed (first_empty own others h) (first-done f done more m),
        runnable_stmts rest f (behind ss t) (behind-stands IsNear ss f t stands s.0 closed (first_empty own others h)) s.1 w.1 c.1
            (second_empty own others h) (second-done f done more m),
      )

  runnable_else : (t : Else Text) (f : Option Turning) (ss : Scopes) → Stands f ss → ElseSpelt IsNear ⊥ t → IsWrittenElse t → UntaskedElse t
      → else_breaches (sight_by f (enter ss)) t ≡ [] → MayDoIn f (else_deeds (enter ss) t) → IsRunnableElse ss (intents_by f) t
  runnable_else NoElse f ss stands s w c h m = tt
  runnable_else (ElseDo at t) f ss stands s w c h m = runnable_stmt t f (enter ss) (enter-stands f ss stands) s.1 w c h m

-- ---- the top level
runnable_top : (t : StmtTree Text) (ss : Scopes) → Stands None ss → StmtSpelt IsNear ⊥ t → IsWrittenTop t → UntaskedStmt t → stmt_breaches (sight_by None ss) t ≡ [] → IsRunnableTop ss t
runnable_top (Declare d) ss stands s w c h = runnable_declare ss stands.names d s c h
runnable_top t ss stands s w c h = runnable_stmt t None ss stands s w c h tt

runnable_tops : (ts : Stmts Text) (ss : Scopes) → Stands None ss → StmtsSpelt IsNear ⊥ ts → AreWrittenTops ts → UntaskedStmts ts → stmts_breaches (sight_by None ss) ts ≡ [] → AreRunnableTops ss ts
runnable_tops NoStmts ss stands s w c h = tt
runnable_tops (Then t rest) ss stands s w c h =
    let own = stmt_breaches (sight_by None ss) t in
    let others = stmts_breaches (sight_by None (behind ss t)) rest in
    let closed = c.0 in (
      runnable_top t ss stands s.0 w.0 closed (first_empty own others h),
      runnable_tops rest (behind ss t) (behind-stands IsNear ss None t stands s.0 closed (first_empty own others h)) s.1 w.1 c.1 (second_empty own others h),
    )

-- a program whose text spells it, that needs nothing which doesn't run and that breaks no rule is runnable
pub program-runnable : (ts : Stmts Text) → StmtsSpelt IsNear ⊥ ts → UntaskedStmts ts → AreWrittenTops ts → stmts_breaches top_sight ts ≡ [] → AreRunnableTops top ts
program-runnable ts s c w h = runnable_tops ts top (record { names = top-variables; around = tt }) s w c h
