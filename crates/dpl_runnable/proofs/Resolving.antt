-- The names of a program that runs resolve: with its names resolved by the scopes as they stand where each name does, it fits a memory with as
-- many slots as it needs, where the command line gives what it owes the names at the end. So all that is in sight there is known.
use Rattle.std.proofs.Common.{◌≡◌, ℕ, ◌+◌, ◌<◌, ◌≤◌, List, [], Option, Some, None, refl, sym, ap, ◌∙◌, subst, arith}
use Rattle.std.specs.Prelude.{option_map}
use Rattle.dpl_language.specs.Tree.{Op, ItemTree, WithTree, VariablesTree, Whole, Element, OnWord, LoopWord, ForWord, ForallWord, CoforallWord, StmtTree, Nothing, Declare, Assigned, Call, Write, Block, If, Headed, Loop, Body, WordBody, BlockBody, Stmts, NoStmts, Then, Else, NoElse, ElseDo, ProgramTree}
use Rattle.dpl_language.specs.Names.{Text}
use Rattle.dpl_language.specs.Writing.{arguments_of}
use Rattle.dpl_agreement.specs.Renamed.{renamed_item, renamed_with}
use Rattle.dpl_agreement.specs.Scopes.{after_all, fits as fits_stmt, fits_item, suits_turns, fits_variables, fits_loop, begun, inside, fits_all, fits_body, fits_else, fits_arguments}
use Rattle.dpl_agreement.proofs.RenamedParts.{arguments_of-renamed, intents_of-renamed}
use Rattle.dpl_agreement.specs.Untasked.{UntaskedLoop}
use Rattle.dpl_rules.specs.Types.{ValueType}
use Rattle.dpl_rules.specs.Sights.{Scopes, enter}
use Rattle.dpl_rules.specs.Declarations.{declared_by}
use Rattle.dpl_rules.specs.Loops.{variables_of, add_variables, in_loop, behind}
use Rattle.dpl_rules.specs.Breaches.{top}
use Rattle.dpl_rules.specs.Sound.{behind_all}
use Rattle.dpl_scopes.specs.Slots.{next_slot_in}
use Rattle.dpl_memory.specs.Resolved.{Bound, Start, first_seen, resolving}
use Rattle.dpl_typed.specs.Leaves.{value_kind}
use Rattle.dpl_bound.specs.Sights.{bound_in, sight_of, AreKnownScopes}
use Rattle.dpl_runnable.specs.Runnable.{IsRunnableHeader, IsRunnableLoop, reduced_in, IsRunnableStmt, IsRunnableBody, AreRunnableStmts, IsRunnableElse, IsRunnableTop, AreRunnableTops}
use Rattle.dpl_bound.specs.Bounds.{bound_new, bound_variables, loop_type, bound_stmt, bound_body, bound_stmts, bound_else, bound_program, with_slot, slots_each, slots_turn, slots_stmt, slots_body, slots_stmts, slots_else, slots_of}
use Rattle.dpl_runnable.specs.Given.{AreGiven}
use Rattle.dpl_runnable.specs.InSight.{seen_of, AreOpen, AreOwed, IsOwedBy, AreTurnKinds}
use Rattle.dpl_runnable.proofs.Scoped.{open-known, after-stmt, after-stmts, IsOverNone, single-over}
use Rattle.dpl_runnable.proofs.Headers.{header-typed, header-fresh}
use Rattle.dpl_runnable.proofs.Turned.{turn-kind, variables-plain, variables-fit, inside-same, turns-suit, max-left, each-grows, variables-within}
use Rattle.dpl_runnable.proofs.Fitting.{expr-fits, item-fits, arguments-fit}
use Rattle.dpl_runnable.proofs.Declaring.{declared-open, config-leaf, declare-fits}
use Rattle.dpl_runnable.proofs.Changing.{change-fits, element-fits}
use Rattle.dpl_runnable.proofs.Configs.{tops-one, owed-before, given-owed}

-- ---- SLOTS are never taken back
mutual
  stmt-grows : (t : StmtTree Text) (ss : Scopes) (n : ℕ) → n ≤ slots_stmt ss t n
  stmt-grows (Declare d) ss n = max-left n (next_slot_in ss + 1)
  stmt-grows (Block from ts upto) ss n = stmts-grow ts (enter ss) n
  stmt-grows (If at e first second) ss n =
      let one = body-grows first (enter ss) n in
      let other = else-grows second ss (slots_body (enter ss) first n) in
      omega (arith, one, other)
  stmt-grows (Headed word at e body) ss n = body-grows body (enter ss) n
  stmt-grows (Loop word at xs within item intents body) ss n =
      let one = each-grows (loop_type ss word xs item) (variables_of xs) (enter ss) n in
      let other = body-grows body (in_loop ss word xs item) (slots_turn ss word xs item n) in
      omega (arith, one, other)
  stmt-grows _ ss n = omega arith

  body-grows : (b : Body Text) (ss : Scopes) (n : ℕ) → n ≤ slots_body ss b n
  body-grows (WordBody at t) ss n = stmt-grows t ss n
  body-grows (BlockBody from ts upto) ss n = stmts-grow ts ss n

  stmts-grow : (ts : Stmts Text) (ss : Scopes) (n : ℕ) → n ≤ slots_stmts ss ts n
  stmts-grow NoStmts ss n = omega arith
  stmts-grow (Then t rest) ss n =
      let one = stmt-grows t ss n in
      let other = stmts-grow rest (behind ss t) (slots_stmt ss t n) in
      omega (arith, one, other)

  else-grows : (o : Else Text) (ss : Scopes) (n : ℕ) → n ≤ slots_else ss o n
  else-grows NoElse ss n = omega arith
  else-grows (ElseDo at t) ss n = stmt-grows t (enter ss) n

-- ---- BEHIND STATEMENTS all that is in sight is known
pub stmt-open : (t : StmtTree Text) (ss : Scopes) (is : List (Bound × Op)) → IsRunnableStmt ss is t → AreOpen ss → AreOpen (behind ss t)
stmt-open (Declare d) ss is r h = declared-open ss d r.1 h
stmt-open _ ss is r h = h

pub top-open : (t : StmtTree Text) (ss : Scopes) → IsRunnableTop ss t → AreOpen ss → AreOpen (behind ss t)
top-open (Declare d) ss r h = declared-open ss d r h
top-open _ ss r h = h

tops-open : (ts : Stmts Text) (ss : Scopes) → AreRunnableTops ss ts → AreOpen ss → AreOpen (behind_all ss ts)
tops-open NoStmts ss r h = h
tops-open (Then t rest) ss r h = tops-open rest (behind ss t) r.1 (top-open t ss r.0 h)

-- so what is owed behind them is owed before
tops-owed : (start : Start) (ts : Stmts Text) (ss : Scopes) → AreRunnableTops ss ts → AreOpen ss → AreOwed start (behind_all ss ts) → AreOwed start ss
tops-owed start NoStmts ss r h owed = owed
tops-owed start (Then t rest) ss r h owed =
    let opened = top-open t ss r.0 h in
    owed-before t ss start h (open-known (behind ss t) opened) (tops-owed start rest (behind ss t) r.1 opened owed)

-- ---- LOOPS
-- the scope of a loop's variables of a type
abbrev turning : Option ValueType → VariablesTree Text → Scopes → Scopes
turning t xs ss = add_variables t (variables_of xs) (enter ss)

module _ (start : Start) (ss : Scopes) (h : AreOpen ss) (word : LoopWord) (untasked : UntaskedLoop word) (xs : VariablesTree Text) (item : ItemTree Text) (r : IsRunnableHeader ss xs item) (is : List (Bound × Op)) where
  abbrev type : ValueType
  type = (header-typed ss xs item r word untasked).0

  typed : loop_type ss word xs item ≡ Some type
  typed = (header-typed ss xs item r word untasked).1

  kinds : AreTurnKinds xs (value_kind type)
  kinds = (header-typed ss xs item r word untasked).2

  no_domain : IsOverNone (Some type)
  no_domain = let (k, kind, single) = turn-kind xs (value_kind type) kinds in single-over type k kind single

  pub loop-open : AreOpen (in_loop ss word xs item)
  loop-open =
      let (k, kind, single) = turn-kind xs (value_kind type) kinds in
      subst (λ o. AreOpen (enter (turning o xs ss))) (sym typed)
      (tt, open-known (turning (Some type) xs ss) (variables-plain type k kind single (variables_of xs) (enter ss) (header-fresh ss xs item r (Some type)) (tt, open-known ss h)))

  pub head-fits : fits_item (resolving start) None (renamed_item (bound_in ss) item) (seen_of ss is)
  head-fits = item-fits start ss (open-known ss h) is item r.over.found None

  pub head-suits : suits_turns (resolving start) (bound_variables (loop_type ss word xs item) (enter ss) xs) (renamed_item (bound_in ss) item) (seen_of ss is)
  head-suits =
      subst (λ o. suits_turns (resolving start) (bound_variables o (enter ss) xs) (renamed_item (bound_in ss) item) (seen_of ss is)) (sym typed)
      (turns-suit start ss is item word xs type (open-known ss h) r.over.found typed kinds)

  pub turns-fit : (n : ℕ) → slots_turn ss word xs item n ≤ start.slots → fits_variables (resolving start) (bound_variables (loop_type ss word xs item) (enter ss) xs) (seen_of (enter ss) is)
  turns-fit n within =
      let there = variables-within (Some type) xs (enter ss) n in
      let enough : slots_each (Some type) (variables_of xs) (enter ss) n ≤ start.slots = subst (λ o. slots_each o (variables_of xs) (enter ss) n ≤ start.slots) typed within in
      subst (λ o. fits_variables (resolving start) (bound_variables o (enter ss) xs) (seen_of (enter ss) is)) (sym typed)
      (variables-fit start type ss is xs kinds (header-fresh ss xs item r (Some type)) (open-known ss h) (omega (arith, there, enough)))

  pub loop-inside : inside (resolving start) (bound_variables (loop_type ss word xs item) (enter ss) xs) (seen_of ss is) ≡ seen_of (in_loop ss word xs item) is
  loop-inside =
      subst (λ o. inside (resolving start) (bound_variables o (enter ss) xs) (seen_of ss is) ≡ seen_of (enter (turning o xs ss)) is) (sym typed)
      (inside-same start type ss is no_domain xs)

-- ---- STATEMENTS
module _ (start : Start) where
  within : (ss : Scopes) (n : ℕ) → with_slot ss n ≤ start.slots → next_slot_in ss < start.slots
  within ss n le =
      let more : next_slot_in ss < with_slot ss n = omega arith in
      omega (arith, more, le)

  -- a loop may be run, and what is in sight in its turns
  loop-fits : (ss : Scopes) (is : List (Bound × Op)) (word : LoopWord) (ys : VariablesTree Bound) (intents : Option (WithTree Text)) → UntaskedLoop word → IsRunnableLoop ss is word intents
      → fits_loop (resolving start) word ys (option_map (renamed_with (bound_in ss)) intents) (seen_of ss is)
  loop-fits ss is ForWord ys intents untasked r = tt
  loop-fits ss is ForallWord ys intents untasked r = r.0
  loop-fits ss is CoforallWord ys intents untasked r = absurd untasked

  begun-seen : (ss : Scopes) (is : List (Bound × Op)) (word : LoopWord) (intents : Option (WithTree Text)) → UntaskedLoop word
      → begun (resolving start) word (option_map (renamed_with (bound_in ss)) intents) (seen_of ss is) ≡ seen_of ss (reduced_in ss is word intents)
  begun-seen ss is ForWord intents untasked = refl
  begun-seen ss is ForallWord intents untasked = ap (seen_of ss) (intents_of-renamed (bound_in ss) intents)
  begun-seen ss is CoforallWord intents untasked = absurd untasked

  mutual
    stmt-fits : (t : StmtTree Text) (ss : Scopes) (is : List (Bound × Op)) (n : ℕ) → AreOpen ss → IsRunnableStmt ss is t → slots_stmt ss t n ≤ start.slots → fits_stmt (resolving start) (bound_stmt ss t) (seen_of ss is)
    stmt-fits (Nothing at) ss is n h r le = tt
    stmt-fits (Declare d) ss is n h r le =
        declare-fits ss d r.1 start (open-known ss h) is (within ss n le) (subst (λ c. IsOwedBy c start (bound_new ss (declared_by ss d))) (sym r.0) tt)
    stmt-fits (Assigned (Whole x) sign item semicolon) ss is n h r le = change-fits start ss (open-known ss h) is x sign item semicolon r.0
    stmt-fits (Assigned (Element x shape from es upto) sign item semicolon) ss is n h r le = element-fits start ss (open-known ss h) is x shape from es upto sign item semicolon r.0
    stmt-fits (Call x dot call semicolon) ss is n h r le = absurd r
    stmt-fits (Write w) ss is n h r le =
        subst (λ xs. fits_arguments (resolving start) xs (seen_of ss is)) (sym (arguments_of-renamed (bound_in ss) w.arguments)) (arguments-fit start ss (open-known ss h) is (arguments_of w.arguments) r)
    stmt-fits (Block from ts upto) ss is n h r le = stmts-fit ts (enter ss) is n (tt, open-known ss h) r le
    stmt-fits (If at e first second) ss is n h r le =
        let more = else-grows second ss (slots_body (enter ss) first n) in (
          expr-fits start ss (open-known ss h) is e r.0.found,
          body-fits first (enter ss) is n (tt, open-known ss h) r.1 (omega (arith, more, le)),
          else-fits second ss is (slots_body (enter ss) first n) h r.2 le,
        )
    stmt-fits (Headed OnWord at e body) ss is n h r le = absurd r.3
    stmt-fits (Headed _ at e body) ss is n h r le = (expr-fits start ss (open-known ss h) is e r.0.found, body-fits body (enter ss) is n (tt, open-known ss h) r.1 le, tt)
    stmt-fits (Loop word at xs within item intents body) ss is n h r le =
        let inner = in_loop ss word xs item in
        let js = reduced_in ss is word intents in
        let ys = bound_variables (loop_type ss word xs item) (enter ss) xs in
        let more = body-grows body inner (slots_turn ss word xs item n) in
        let seen = sym (begun-seen ss is word intents r.3) in (
          head-fits start ss h word r.3 xs item r.0 is,
          head-suits start ss h word r.3 xs item r.0 is,
          loop-fits ss is word ys intents r.3 r.4,
          subst (λ g. fits_variables (resolving start) ys ((resolving start).enter g)) seen (turns-fit start ss h word r.3 xs item r.0 js n (omega (arith, more, le))),
          subst (λ g. fits_body (resolving start) (bound_body inner body) (inside (resolving start) ys g)) seen
              (subst (fits_body (resolving start) (bound_body inner body)) (sym (loop-inside start ss h word r.3 xs item r.0 js))
              (body-fits body inner js (slots_turn ss word xs item n) (loop-open start ss h word r.3 xs item r.0 is) r.1 le)),
        )

    body-fits : (b : Body Text) (ss : Scopes) (is : List (Bound × Op)) (n : ℕ) → AreOpen ss → IsRunnableBody ss is b → slots_body ss b n ≤ start.slots → fits_body (resolving start) (bound_body ss b) (seen_of ss is)
    body-fits (WordBody at t) ss is n h r le = stmt-fits t ss is n h r le
    body-fits (BlockBody from ts upto) ss is n h r le = stmts-fit ts ss is n h r le

    stmts-fit : (ts : Stmts Text) (ss : Scopes) (is : List (Bound × Op)) (n : ℕ) → AreOpen ss → AreRunnableStmts ss is ts → slots_stmts ss ts n ≤ start.slots → fits_all (resolving start) (bound_stmts ss ts) (seen_of ss is)
    stmts-fit NoStmts ss is n h r le = tt
    stmts-fit (Then t rest) ss is n h r le =
        let more = stmts-grow rest (behind ss t) (slots_stmt ss t n) in
        let opened = stmt-open t ss is r.0 h in (
          stmt-fits t ss is n h r.0 (omega (arith, more, le)),
          subst (fits_all (resolving start) (bound_stmts (behind ss t) rest)) (sym (after-stmt start t ss is (open-known (behind ss t) opened)))
              (stmts-fit rest (behind ss t) is (slots_stmt ss t n) opened r.1 le),
        )

    else-fits : (o : Else Text) (ss : Scopes) (is : List (Bound × Op)) (n : ℕ) → AreOpen ss → IsRunnableElse ss is o → slots_else ss o n ≤ start.slots → fits_else (resolving start) (bound_else ss o) (seen_of ss is)
    else-fits NoElse ss is n h r le = tt
    else-fits (ElseDo at t) ss is n h r le = stmt-fits t (enter ss) is n (tt, open-known ss h) r le

  -- ---- THE TOP LEVEL
  top-fits : (t : StmtTree Text) (ss : Scopes) (n : ℕ) → AreOpen ss → IsRunnableTop ss t → slots_stmt ss t n ≤ start.slots → AreOwed start (behind ss t) → fits_stmt (resolving start) (bound_stmt ss t) (seen_of ss [])
  top-fits (Declare d) ss n h r le owed = declare-fits ss d r start (open-known ss h) [] (within ss n le) (given-owed start ss d (config-leaf ss d r) owed.1)
  top-fits t ss n h r le owed = stmt-fits t ss [] n h r le

  tops-fit : (ts : Stmts Text) (ss : Scopes) (n : ℕ) → AreOpen ss → AreRunnableTops ss ts → slots_stmts ss ts n ≤ start.slots → AreOwed start (behind_all ss ts) → fits_all (resolving start) (bound_stmts ss ts) (seen_of ss [])
  tops-fit NoStmts ss n h r le owed = tt
  tops-fit (Then t rest) ss n h r le owed =
      let more = stmts-grow rest (behind ss t) (slots_stmt ss t n) in
      let opened = top-open t ss r.0 h in (
        top-fits t ss n h r.0 (omega (arith, more, le)) (tops-owed start rest (behind ss t) r.1 opened owed),
        subst (fits_all (resolving start) (bound_stmts (behind ss t) rest)) (sym (after-stmt start t ss [] (open-known (behind ss t) opened)))
            (tops-fit rest (behind ss t) (slots_stmt ss t n) opened r.1 le owed),
      )

-- ---- PROGRAMS
pub program-known : (t : ProgramTree Text) → AreRunnableTops top t.stmts → AreKnownScopes (behind_all top t.stmts)
program-known t r = open-known (behind_all top t.stmts) (tops-open t.stmts top r (tt, tt))

pub program-resolves : (t : ProgramTree Text) → AreRunnableTops top t.stmts → (start : Start) → slots_of t ≤ start.slots → AreGiven start (behind_all top t.stmts) → fits_all (resolving start) (bound_program t).stmts first_seen
program-resolves t r start le given = tops-fit start t.stmts top 0 (tt, tt) r le (tops-one t.stmts top tt, given)

-- what is in sight at its end is what the walk of the resolved program leaves
pub program-left : (t : ProgramTree Text) (scopes : Scopes) → scopes ≡ behind_all top t.stmts → AreKnownScopes scopes → (start : Start) → (after_all (resolving start) (bound_program t).stmts first_seen).frames ≡ sight_of scopes
program-left t scopes behind plain start = ap (λ s. s.frames) (after-stmts start t.stmts top [] (subst AreKnownScopes behind plain)) ∙ ap sight_of (sym behind)
