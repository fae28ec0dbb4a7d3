-- The array that a forall's body writes first is, in the resolved tree, the one of that name in sight outside of the forall: the slot is that
-- of the name's declaration there. By the walk that keeps arrays in sight outer ones, since a body declares none.
use Rattle.std.proofs.Common.{◌≡◌, ℕ, true, [], length, Option, Some, None, is_some, refl, sym, ap, ◌∙◌, subst}
use Rattle.std.specs.Prelude.{option_map, ◌++◌}
use Rattle.std.specs.Option.{option_or}
use Rattle.std.proofs.lemmas.Option.{none-some, same_Some}
use Rattle.dpl_language.specs.Tree.{Kind, Whole, Element, ForWord, ForallWord, CoforallWord, StmtTree, Assigned, Block, If, Headed, Loop, Body, WordBody, BlockBody, Stmts, NoStmts, Then, Else, NoElse, ElseDo}
use Rattle.dpl_language.specs.Names.{Text}
use Rattle.dpl_spelling.specs.Spelt.{StmtSpelt, BodySpelt, StmtsSpelt, ElseSpelt}
use Rattle.dpl_agreement.specs.Untasked.{UntaskedStmt, UntaskedBody, UntaskedStmts, UntaskedElse}
use Rattle.dpl_rules.specs.Sights.{Declared, Scopes, lookup, type_declared, enter}
use Rattle.dpl_rules.specs.Assignments.{assignment_breaches, condition_breaches}
use Rattle.dpl_rules.specs.Loops.{header_breaches, with_breaches, in_loop, behind}
use Rattle.dpl_rules.specs.Deeds.{expr_deeds, item_deeds}
use Rattle.dpl_rules.specs.Doings.{with_deeds, head_held, stmt_deeds, body_deeds, stmts_deeds, else_deeds}
use Rattle.dpl_rules.specs.Bodies.{forall_scope, written_arrays, forall_breaches, promoted_breaches}
use Rattle.dpl_rules.specs.Breaches.{in_turn, head_breaches, stmt_breaches, body_breaches, stmts_breaches, else_breaches}
use Rattle.dpl_rules.specs.Foralls.{ForallIn}
use Rattle.dpl_rules.proofs.Admission.{first_empty, second_empty}
use Rattle.dpl_standing.specs.Written.{first_written, first_in_body, first_among, first_in_else}
use Rattle.dpl_nodes.specs.Spots.{IsNear}
use Rattle.dpl_scopes.specs.Slots.{slot_in}
use Rattle.dpl_scopes.proofs.Slots.{slot_in-lookup}
use Rattle.dpl_memory.specs.Memory.{ArrayKind}
use Rattle.dpl_memory.specs.Resolved.{Bound, text_of}
use Rattle.dpl_typed.specs.Leaves.{kind_by, kind_in, leaf_by}
use Rattle.dpl_bound.specs.Sights.{bound_in}
use Rattle.dpl_runnable.proofs.Scopes.{in_loop-variables}
use Rattle.dpl_runnable.proofs.Changes.{runnable_element}
use Rattle.dpl_runnable.proofs.Reduced.{inside-outer, inside-loop}
use Rattle.dpl_runnable.proofs.Around.{Turning, forall_by, sight_by, Stands, MayDoIn, first-done, second-done, forall-refuted, enter-stands, loop-stands, behind-stands}
use Rattle.dpl_bound.specs.Bounds.{bound_stmt, bound_body, bound_stmts, bound_else}
use Rattle.dpl_run.proofs.FirstWritten.{itself, bound_itself, AreWithin, IsLaw, named-array, within-behind, within-loop}

-- ---- a resolved tree writes first what its text does
either-text : (a c : Option Bound) (x y : Option Text) → option_map text_of a ≡ x → option_map text_of c ≡ y → option_map text_of (option_or a c) ≡ option_or x y
either-text None c x y p q = q ∙ ap (λ o. option_or o y) p
either-text (Some b) c x y p q = ap (λ o. option_or o y) p

mutual
  stmt-text : (t : StmtTree Text) (ss : Scopes) → option_map text_of (first_written bound_itself (bound_stmt ss t)) ≡ first_written itself t
  stmt-text (Assigned (Whole x) sign item semicolon) ss = refl
  stmt-text (Assigned (Element x shape from es upto) sign item semicolon) ss = refl
  stmt-text (Block from ts upto) ss = stmts-text ts (enter ss)
  stmt-text (If at e first second) ss =
      either-text (first_in_body bound_itself (bound_body (enter ss) first)) (first_in_else bound_itself (bound_else ss second)) (first_in_body itself first) (first_in_else itself second)
      (body-text first (enter ss)) (else-text second ss)
  stmt-text (Headed word at e body) ss = body-text body (enter ss)
  stmt-text (Loop word at xs within item intents body) ss = body-text body (in_loop ss word xs item)
  stmt-text _ ss = refl

  pub body-text : (b : Body Text) (ss : Scopes) → option_map text_of (first_in_body bound_itself (bound_body ss b)) ≡ first_in_body itself b
  body-text (WordBody at t) ss = stmt-text t ss
  body-text (BlockBody from ts upto) ss = stmts-text ts ss

  stmts-text : (ts : Stmts Text) (ss : Scopes) → option_map text_of (first_among bound_itself (bound_stmts ss ts)) ≡ first_among itself ts
  stmts-text NoStmts ss = refl
  stmts-text (Then t rest) ss =
      either-text (first_written bound_itself (bound_stmt ss t)) (first_among bound_itself (bound_stmts (behind ss t) rest)) (first_written itself t) (first_among itself rest)
      (stmt-text t ss) (stmts-text rest (behind ss t))

  else-text : (o : Else Text) (ss : Scopes) → option_map text_of (first_in_else bound_itself (bound_else ss o)) ≡ first_in_else itself o
  else-text NoElse ss = refl
  else-text (ElseDo at t) ss = stmt-text t (enter ss)

-- ---- an array that is in sight outside, with its slot
pub record IsOuterArray (outer : Scopes) (b : Bound) : Type 0 where
  pub elements : Kind
  pub kind : kind_in outer b.text ≡ Some (ArrayKind elements)
  pub slot : slot_in outer b.text ≡ Some b.variable.slot

abbrev pub AreOuter : Scopes → Option Bound → Type 0
AreOuter outer o = (b : Bound) → o ≡ Some b → IsOuterArray outer b

none-outer : (outer : Scopes) → AreOuter outer None
none-outer outer b e = absurd (none-some b e)

either-outer : (outer : Scopes) (a c : Option Bound) → AreOuter outer a → AreOuter outer c → AreOuter outer (option_or a c)
either-outer outer None c p q b e = q b e
either-outer outer (Some x) c p q b e = p b e

some-slot : (o : Option ℕ) → is_some o ≡ true → (slot : ℕ) × (o ≡ Some slot)
some-slot None e = absurd cc
some-slot (Some slot) e = (slot, refl)

module _ (f : Turning) where
  -- an element that is written is one of an array outside
  element-outer : (x : Text) (ss : Scopes) (l : Kind) → Stands (Some f) ss → AreWithin (length f.outer) ss → kind_in ss x ≡ Some (ArrayKind l) → IsOuterArray f.outer (bound_in ss x)
  element-outer x ss l stands within kind = by (lookup ss x) refl
    where
      by : (o : Option Declared) → lookup ss x ≡ o → IsOuterArray f.outer (bound_in ss x)
      by None e = absurd (none-some (ArrayKind l) (ap (λ o. kind_by (type_declared o)) (sym e) ∙ kind))
      by (Some d) e =
          let of_kind : kind_by d.type ≡ Some (ArrayKind l) = ap (λ o. kind_by (type_declared o)) (sym e) ∙ kind in
          let found = stands.around.inside.found x d e (within x d e (named-array d l (stands.names x d e) of_kind)) in
          let slot = some-slot (slot_in ss x) (slot_in-lookup ss x ∙ ap is_some e) in
          record {
            elements = l;
            kind = ap (λ o. kind_by (type_declared o)) (found.0 ∙ sym e) ∙ kind;
            slot = sym found.1 ∙ slot.1 ∙ ap (λ n. Some n) (sym (ap (λ o. (leaf_by o (slot_in ss x)).slot) kind ∙ ap (λ o. (leaf_by (Some (ArrayKind l)) o).slot) slot.1));
          }

  mutual
    turn-outer : (t : StmtTree Text) (ss : Scopes) → Stands (Some f) ss → AreWithin (length f.outer) ss → StmtSpelt IsNear ⊥ t → UntaskedStmt t → stmt_breaches (sight_by (Some f) ss) t ≡ []
        → MayDoIn (Some f) (stmt_deeds ss t) → AreOuter f.outer (first_written bound_itself (bound_stmt ss t))
    turn-outer (Assigned (Whole x) sign item semicolon) ss stands within s c h m = none-outer f.outer
    turn-outer (Assigned (Element x shape from es upto) sign item semicolon) ss stands within s c h m =
        let element = runnable_element ss stands.names (forall_by (Some f)) x shape from es upto sign item s.0.2 s.2 c.0 c.1
        (first_empty (assignment_breaches (sight_by (Some f) ss) (Element x shape from es upto) sign item) (promoted_breaches ss (Element x shape from es upto) item) h) in
        λ b e. subst (IsOuterArray f.outer) (same_Some (bound_in ss x.name) b e) (element-outer x.name ss element.kind stands within element.target)
    turn-outer (Block from ts upto) ss stands within s c h m = turn_stmts-outer ts (enter ss) (enter-stands (Some f) ss stands) within s.1 c h m
    turn-outer (If at e first second) ss stands within s c h m =
        let inner = enter ss in
        let test = condition_breaches (sight_by (Some f) ss) e in
        let one = body_breaches (sight_by (Some f) inner) first in
        let other = else_breaches (sight_by (Some f) inner) second in
        let tested = expr_deeds ss e in
        let first_deeds = body_deeds inner first in
        let second_deeds = else_deeds inner second in
        either-outer f.outer (first_in_body bound_itself (bound_body inner first)) (first_in_else bound_itself (bound_else ss second))
        (turn_body-outer first inner (enter-stands (Some f) ss stands) within s.2 c.1 (second_empty test one (first_empty (test ++ one) other h))
        (second-done (Some f) tested first_deeds (first-done (Some f) (tested ++ first_deeds) second_deeds m)))
        (turn_else-outer second ss stands within s.3 c.2 (second_empty (test ++ one) other h) (second-done (Some f) (tested ++ first_deeds) second_deeds m))
    turn-outer (Headed word at e body) ss stands within s c h m =
        let inner = enter ss in
        turn_body-outer body inner (enter-stands (Some f) ss stands) within s.2 c.1
        (second_empty (head_breaches (sight_by (Some f) ss) word e) (body_breaches (sight_by (Some f) inner) body) h)
        (second-done (Some f) (head_held word at ++ expr_deeds ss e) (body_deeds inner body) m)
    turn-outer (Loop ForWord at xs in_word item intents body) ss stands within s c h m =
        let inner = in_loop ss ForWord xs item in
        let head = header_breaches ss ForWord xs item in
        let intended = with_breaches ss intents in
        let others = body_breaches (sight_by (Some f) inner) body in
        let headed = first_empty head intended (first_empty (head ++ intended) [] (first_empty (head ++ intended ++ []) others h)) in
        turn_body-outer body inner (loop-stands IsNear ss (Some f) ForWord xs item stands s.3 c.0 headed) (within-loop (length f.outer) ForWord xs item ss within)
        s.5 c.1 (second_empty (head ++ intended ++ []) others h) (second-done (Some f) (item_deeds ss item ++ with_deeds intents) (body_deeds inner body) m)
    turn-outer (Loop ForallWord at xs in_word item intents body) ss stands within s c h m =
        absurd (forall-refuted f at (item_deeds ss item ++ with_deeds intents ++ body_deeds (in_loop ss ForallWord xs item) body) m)
    turn-outer (Loop CoforallWord at xs in_word item intents body) ss stands within s c h m = absurd c.2
    turn-outer _ ss stands within s c h m = none-outer f.outer

    turn_body-outer : (t : Body Text) (ss : Scopes) → Stands (Some f) ss → AreWithin (length f.outer) ss → BodySpelt IsNear ⊥ t → UntaskedBody t → body_breaches (sight_by (Some f) ss) t ≡ []
        → MayDoIn (Some f) (body_deeds ss t) → AreOuter f.outer (first_in_body bound_itself (bound_body ss t))
    turn_body-outer (WordBody at t) ss stands within s c h m = turn-outer t ss stands within s.1 c h m
    turn_body-outer (BlockBody from ts upto) ss stands within s c h m = turn_stmts-outer ts ss stands within s.1 c h m

    turn_stmts-outer : (ts : Stmts Text) (ss : Scopes) → Stands (Some f) ss → AreWithin (length f.outer) ss → StmtsSpelt IsNear ⊥ ts → UntaskedStmts ts → stmts_breaches (sight_by (Some f) ss) ts ≡ []
        → MayDoIn (Some f) (stmts_deeds ss ts) → AreOuter f.outer (first_among bound_itself (bound_stmts ss ts))
    turn_stmts-outer NoStmts ss stands within s c h m = none-outer f.outer
    turn_stmts-outer (Then t rest) ss stands within s c h m =
        let own = stmt_breaches (sight_by (Some f) ss) t in
        let others = stmts_breaches (sight_by (Some f) (behind ss t)) rest in
        let done = stmt_deeds ss t in
        let more = stmts_deeds (behind ss t) rest in
        let unbroken = first_empty own others h in
        let may = first-done (Some f) done more m in
        either-outer f.outer (first_written bound_itself (bound_stmt ss t)) (first_among bound_itself (bound_stmts (behind ss t) rest))
        (turn-outer t ss stands within s.0 c.0 unbroken may)
        (turn_stmts-outer rest (behind ss t) (behind-stands IsNear ss (Some f) t stands s.0 c.0 unbroken) (within-behind f ss t within unbroken may) s.1 c.1
        (second_empty own others h) (second-done (Some f) done more m))

    turn_else-outer : (t : Else Text) (ss : Scopes) → Stands (Some f) ss → AreWithin (length f.outer) ss → ElseSpelt IsNear ⊥ t → UntaskedElse t → else_breaches (sight_by (Some f) (enter ss)) t ≡ []
        → MayDoIn (Some f) (else_deeds (enter ss) t) → AreOuter f.outer (first_in_else bound_itself (bound_else ss t))
    turn_else-outer NoElse ss stands within s c h m = none-outer f.outer
    turn_else-outer (ElseDo at t) ss stands within s c h m = turn-outer t (enter ss) (enter-stands (Some f) ss stands) within s.1 c h m

-- of the array that a forall's body writes first
abbrev pub WritesOuter : ForallIn → Type 0
WritesOuter f = AreOuter f.scopes (first_in_body bound_itself (bound_body (in_loop f.scopes ForallWord f.variables f.over) f.body))

pub forall-outer : IsLaw WritesOuter
forall-outer ss stands within at xs word item intents body s c h =
    let inner = in_loop ss ForallWord xs item in
    let ds = body_deeds inner body in
    let loop = forall_scope ss xs intents in
    let head = header_breaches ss ForallWord xs item in
    let intended = with_breaches ss intents in
    let told = forall_breaches loop ds in
    let others = body_breaches (in_turn (sight_by None ss) ForallWord xs item intents) body in
    let front = first_empty (head ++ intended ++ told) others h in
    let heads = first_empty (head ++ intended) told front in
    let f : Turning = record { outer = ss; variables = xs; intents = intents; written = written_arrays loop ds } in
    turn_body-outer f body inner
    (record {
      names = in_loop-variables ss IsNear stands.names ForallWord xs item s.3 c.0 (first_empty head intended heads);
      around = record { names = stands.names; told = second_empty head intended heads; inside = inside-loop ss ss ForallWord xs item (inside-outer ss) };
    })
    (within-loop (length ss) ForallWord xs item ss within)
    s.5 c.1 (second_empty (head ++ intended ++ told) others h) (second_empty (head ++ intended) told front)
