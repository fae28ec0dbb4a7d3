-- What breaks no rule stands where it may. In a forall's turn C9 forbids prints and loops that make turns or tasks;
-- outside it is asked that nothing needs what doesn't run yet, so that there are no tasks.
use Rattle.std.proofs.Common.{◌≡◌, List, [], ◌++◌, Option}
use Rattle.dpl_language.specs.Tree.{ItemTree, VariablesTree, WithTree, OnWord, LoopWord, ForWord, ForallWord, CoforallWord, StmtTree, Write, Block, If, Headed, Loop, Body, WordBody, BlockBody, Stmts, NoStmts, Then, Else, NoElse, ElseDo}
use Rattle.dpl_language.specs.Names.{Text}
use Rattle.dpl_agreement.specs.Untasked.{UntaskedLoop, UntaskedStmt, UntaskedBody, UntaskedStmts, UntaskedElse}
use Rattle.dpl_rules.specs.Types.{Origin}
use Rattle.dpl_rules.specs.Sights.{Scopes, Sight, enter, inside}
use Rattle.dpl_rules.specs.Assignments.{condition_breaches}
use Rattle.dpl_rules.specs.Loops.{header_breaches, with_breaches, in_loop, behind}
use Rattle.dpl_rules.specs.Deeds.{Deed, expr_deeds, item_deeds, each}
use Rattle.dpl_rules.specs.Doings.{with_deeds, stmt_deeds, body_deeds, stmts_deeds, else_deeds}
use Rattle.dpl_rules.specs.Bodies.{ForallScope, forall_scope, written_arrays, deed_breaches}
use Rattle.dpl_rules.specs.Breaches.{in_turn, turn_breaches, head_breaches, stmt_breaches, body_breaches, stmts_breaches, else_breaches}
use Rattle.dpl_rules.proofs.Admission.{first_empty, second_empty, first-each, second-each}
use Rattle.dpl_standing.specs.Standing.{Outside, InTurn, LoopMayStand, in_body, MayStand, BodyMayStand, AllMayStand, ElseMayStand}

-- ---- in a turn: what it does breaks no rule of a forall's body
module _ (loop : ForallScope) (written : List Origin) where
  abbrev MayBeDone : List Deed → Type 0
  MayBeDone ds = each (deed_breaches loop written) ds ≡ []

  first_done : (ds es : List Deed) → MayBeDone (ds ++ es) → MayBeDone ds
  first_done = first-each (deed_breaches loop written)

  second_done : (ds es : List Deed) → MayBeDone (ds ++ es) → MayBeDone es
  second_done = second-each (deed_breaches loop written)

  mutual
    pub turn-stands : (ss : Scopes) (t : StmtTree Text) → each (deed_breaches loop written) (stmt_deeds ss t) ≡ [] → MayStand InTurn t
    turn-stands ss (Write t) m = absurd cc
    turn-stands ss (Block from ts upto) m = turn_stmts-stand (enter ss) ts m
    turn-stands ss (If at e first second) m =
        let tested = expr_deeds ss e in
        let first_deeds = body_deeds (enter ss) first in
        let second_deeds = else_deeds (enter ss) second in (
          turn_body-stands (enter ss) first (second_done tested first_deeds (first_done (tested ++ first_deeds) second_deeds m)),
          turn_else-stands (enter ss) second (second_done (tested ++ first_deeds) second_deeds m),
        )
    turn-stands ss (Headed OnWord at e body) m = absurd cc
    turn-stands ss (Headed _ at e body) m = turn_body-stands (enter ss) body (second_done (expr_deeds ss e) (body_deeds (enter ss) body) m)
    turn-stands ss (Loop ForWord at xs within item intents body) m =
        let inner = in_loop ss ForWord xs item in
        (tt, turn_body-stands inner body (second_done (item_deeds ss item ++ with_deeds intents) (body_deeds inner body) m))
    turn-stands ss (Loop ForallWord at xs within item intents body) m = absurd cc
    turn-stands ss (Loop CoforallWord at xs within item intents body) m = absurd cc
    turn-stands ss _ m = tt

    pub turn_body-stands : (ss : Scopes) (t : Body Text) → each (deed_breaches loop written) (body_deeds ss t) ≡ [] → BodyMayStand InTurn t
    turn_body-stands ss (WordBody at t) m = turn-stands ss t m
    turn_body-stands ss (BlockBody from ts upto) m = turn_stmts-stand ss ts m

    pub turn_stmts-stand : (ss : Scopes) (ts : Stmts Text) → each (deed_breaches loop written) (stmts_deeds ss ts) ≡ [] → AllMayStand InTurn ts
    turn_stmts-stand ss NoStmts m = tt
    turn_stmts-stand ss (Then t rest) m =
        let done = stmt_deeds ss t in
        let more = stmts_deeds (behind ss t) rest in
        (turn-stands ss t (first_done done more m), turn_stmts-stand (behind ss t) rest (second_done done more m))

    pub turn_else-stands : (ss : Scopes) (t : Else Text) → each (deed_breaches loop written) (else_deeds ss t) ≡ [] → ElseMayStand InTurn t
    turn_else-stands ss NoElse m = tt
    turn_else-stands ss (ElseDo at t) m = turn-stands ss t m

-- ---- outside of foralls: no part needs what doesn't run
-- a loop stands where its body does, or what its body does breaks no rule of a forall's
loop-stands : (sight : Sight) (word : LoopWord) (xs : VariablesTree Text) (item : ItemTree Text) (intents : Option (WithTree Text)) (body : Body Text) → UntaskedLoop word
    → turn_breaches sight.scopes word xs intents (body_deeds (in_loop sight.scopes word xs item) body) ≡ [] → BodyMayStand Outside body
    → LoopMayStand Outside word × BodyMayStand (in_body Outside word) body
loop-stands sight ForWord xs item intents body c told inner = (tt, inner)
loop-stands sight ForallWord xs item intents body c told inner =
    let loop = forall_scope sight.scopes xs intents in
    let within = in_loop sight.scopes ForallWord xs item in
    (tt, turn_body-stands loop (written_arrays loop (body_deeds within body)) within body told)
loop-stands sight CoforallWord xs item intents body c told inner = absurd c

mutual
  pub program-stands : (sight : Sight) (t : StmtTree Text) → UntaskedStmt t → stmt_breaches sight t ≡ [] → MayStand Outside t
  program-stands sight (Block from ts upto) c h = program_stmts-stand (inside sight (enter sight.scopes)) ts c h
  program-stands sight (If at e first second) c h =
      let within = inside sight (enter sight.scopes) in
      let test = condition_breaches sight e in
      let one = body_breaches within first in
      let other = else_breaches within second in (
        program_body-stands within first c.1 (second_empty test one (first_empty (test ++ one) other h)),
        program_else-stands within second c.2 (second_empty (test ++ one) other h),
      )
  program-stands sight (Headed word at e body) c h =
      let within = inside sight (enter sight.scopes) in
      program_body-stands within body c.1 (second_empty (head_breaches sight word e) (body_breaches within body) h)
  program-stands sight (Loop word at xs within item intents body) c h =
      let ss = sight.scopes in
      let heads = header_breaches ss word xs item ++ with_breaches ss intents in
      let told = turn_breaches ss word xs intents (body_deeds (in_loop ss word xs item) body) in
      let others = body_breaches (in_turn sight word xs item intents) body in
      loop-stands sight word xs item intents body c.2
      (second_empty heads told (first_empty (heads ++ told) others h))
      (program_body-stands (in_turn sight word xs item intents) body c.1 (second_empty (heads ++ told) others h))
  program-stands sight _ c h = tt

  pub program_body-stands : (sight : Sight) (t : Body Text) → UntaskedBody t → body_breaches sight t ≡ [] → BodyMayStand Outside t
  program_body-stands sight (WordBody at t) c h = program-stands sight t c h
  program_body-stands sight (BlockBody from ts upto) c h = program_stmts-stand sight ts c h

  pub program_stmts-stand : (sight : Sight) (ts : Stmts Text) → UntaskedStmts ts → stmts_breaches sight ts ≡ [] → AllMayStand Outside ts
  program_stmts-stand sight NoStmts c h = tt
  program_stmts-stand sight (Then t rest) c h =
      let within = inside sight (behind sight.scopes t) in
      let own = stmt_breaches sight t in
      let others = stmts_breaches within rest in (
        program-stands sight t c.0 (first_empty own others h),
        program_stmts-stand within rest c.1 (second_empty own others h),
      )

  pub program_else-stands : (sight : Sight) (t : Else Text) → UntaskedElse t → else_breaches sight t ≡ [] → ElseMayStand Outside t
  program_else-stands sight NoElse c h = tt
  program_else-stands sight (ElseDo at t) c h = program-stands sight t c h
