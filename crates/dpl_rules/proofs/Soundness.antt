-- A sound program's foralls are admitted, and a program is sound exactly where it has no first breach.
-- The first breach is one of the program's.
use Rattle.std.proofs.Common.{◌≡◌, ◌↔◌, if◌then◌else◌, List, [], ◌∷◌, ◌++◌, Some, None, refl}
use Rattle.dpl_language.specs.Tree.{LoopWord, ForWord, ForallWord, CoforallWord, StmtTree, Nothing, Declare, Assigned, Call, Write, Block, If, Headed, Loop, Body, WordBody, BlockBody, Stmts, NoStmts, Then, Else, NoElse, ElseDo, ProgramTree}
use Rattle.dpl_language.specs.Names.{Text}
use Rattle.dpl_syntax.specs.declared.refusal.Breach.{Breach}
use Rattle.dpl_rules.specs.Sights.{Sight, enter, inside}
use Rattle.dpl_rules.specs.Assignments.{condition_breaches}
use Rattle.dpl_rules.specs.Loops.{header_breaches, with_breaches, in_loop, behind}
use Rattle.dpl_rules.specs.Doings.{body_deeds}
use Rattle.dpl_rules.specs.Foralls.{ForallIn, scope_in, deeds_in, forall_by, foralls, body_foralls, all_foralls, else_foralls}
use Rattle.dpl_rules.specs.Admitted.{AreAdmitted}
use Rattle.dpl_rules.specs.Breaches.{in_turn, turn_breaches, head_breaches, stmt_breaches, body_breaches, stmts_breaches, else_breaches, top, top_sight, all_declarations, count_breaches, breaches, before, least_from, first_breach}
use Rattle.dpl_rules.specs.Sound.{IsSound}
use Rattle.dpl_rules.proofs.Admission.{first_empty, second_empty, unbroken_admitted}

-- foralls, and others behind them
both_admitted : (fs gs : List ForallIn) → AreAdmitted fs → AreAdmitted gs → AreAdmitted (fs ++ gs)
both_admitted [] gs p q = q
both_admitted (f ∷ fs) gs p q = (p.0, both_admitted fs gs p.1 q)

-- a loop that is a forall
turns_admitted : (word : LoopWord) (f : ForallIn) → turn_breaches f.scopes word f.variables f.intents (body_deeds (in_loop f.scopes word f.variables f.over) f.body) ≡ []
    → AreAdmitted (forall_by word f)
turns_admitted ForWord f e = tt
turns_admitted ForallWord f e = (unbroken_admitted (scope_in f) (deeds_in f) e, tt)
turns_admitted CoforallWord f e = tt

mutual
  stmt_admitted : (sight : Sight) (t : StmtTree Text) → stmt_breaches sight t ≡ [] → AreAdmitted (foralls sight.scopes t)
  stmt_admitted sight (Nothing at) e = tt
  stmt_admitted sight (Declare d) e = tt
  stmt_admitted sight (Assigned target sign item semicolon) e = tt
  stmt_admitted sight (Call x dot call semicolon) e = tt
  stmt_admitted sight (Write w) e = tt
  stmt_admitted sight (Block from ts upto) e = stmts_admitted (inside sight (enter sight.scopes)) ts e
  stmt_admitted sight (If at c first second) e =
      let within = inside sight (enter sight.scopes) in
      let condition = condition_breaches sight c in
      let both = condition ++ body_breaches within first in
      both_admitted (body_foralls within.scopes first) (else_foralls within.scopes second)
      (body_admitted within first (second_empty condition (body_breaches within first) (first_empty both (else_breaches within second) e)))
      (else_admitted within second (second_empty both (else_breaches within second) e))
  stmt_admitted sight (Headed word at c body) e =
      let within = inside sight (enter sight.scopes) in
      body_admitted within body (second_empty (head_breaches sight word c) (body_breaches within body) e)
  stmt_admitted sight (Loop word at xs within item intents body) e =
      let ss = sight.scopes in
      let f : ForallIn = record { at = at; scopes = ss; variables = xs; over = item; intents = intents; body = body } in
      let header = header_breaches ss word xs item ++ with_breaches ss intents in
      let turns = turn_breaches ss word xs intents (body_deeds (in_loop ss word xs item) body) in
      let others = body_breaches (in_turn sight word xs item intents) body in
      both_admitted (forall_by word f) (body_foralls (in_loop ss word xs item) body)
      (turns_admitted word f (second_empty header turns (first_empty (header ++ turns) others e)))
      (body_admitted (in_turn sight word xs item intents) body (second_empty (header ++ turns) others e))

  body_admitted : (sight : Sight) (body : Body Text) → body_breaches sight body ≡ [] → AreAdmitted (body_foralls sight.scopes body)
  body_admitted sight (WordBody at t) e = stmt_admitted sight t e
  body_admitted sight (BlockBody from ts upto) e = stmts_admitted sight ts e

  stmts_admitted : (sight : Sight) (ts : Stmts Text) → stmts_breaches sight ts ≡ [] → AreAdmitted (all_foralls sight.scopes ts)
  stmts_admitted sight NoStmts e = tt
  stmts_admitted sight (Then t rest) e =
      let within = inside sight (behind sight.scopes t) in
      both_admitted (foralls sight.scopes t) (all_foralls within.scopes rest)
      (stmt_admitted sight t (first_empty (stmt_breaches sight t) (stmts_breaches within rest) e))
      (stmts_admitted within rest (second_empty (stmt_breaches sight t) (stmts_breaches within rest) e))

  else_admitted : (sight : Sight) (second : Else Text) → else_breaches sight second ≡ [] → AreAdmitted (else_foralls sight.scopes second)
  else_admitted sight NoElse e = tt
  else_admitted sight (ElseDo at t) e = stmt_admitted sight t e

-- a sound program's foralls are admitted
pub sound_admitted : (t : ProgramTree Text) → IsSound t → AreAdmitted (all_foralls top t.stmts)
sound_admitted t e =
    stmts_admitted top_sight t.stmts (first_empty (stmts_breaches top_sight t.stmts) (count_breaches (all_declarations t.stmts)) e)

-- ---- the first breach
some_first : (a : Breach) (bs : List Breach) → least_from (Some a) bs ≡ None → ⊥
some_first a [] e = absurd cc
some_first a (b ∷ bs) e = some_first (if before b a then b else a) bs e

none_first : (bs : List Breach) → least_from None bs ≡ None → bs ≡ []
none_first [] e = refl
none_first (b ∷ bs) e = absurd (some_first b bs e)

first_none : (bs : List Breach) → bs ≡ [] → least_from None bs ≡ None
first_none [] e = refl
first_none (b ∷ bs) e = absurd cc

pub sound_exactly : (t : ProgramTree Text) → IsSound t ↔ (first_breach t ≡ None)
sound_exactly t = (first_none (breaches t), none_first (breaches t))
