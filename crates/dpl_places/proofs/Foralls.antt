-- The foralls of a tree stand where some of its statements do, in their order, whatever is in sight of them.
use Rattle.std.proofs.Common.{inl, List, [], ◌∷◌, ◌++◌, map, refl, sym, subst}
use Rattle.std.proofs.lemmas.List.{map-append}
use Rattle.dpl_syntax.specs.declared.place.Place.{Place}
use Rattle.dpl_language.specs.Names.{Text}
use Rattle.dpl_language.specs.Tree.{LoopWord, ForWord, ForallWord, CoforallWord, StmtTree, Nothing, Declare, Assigned, Call, Write, Block, If, Headed, Loop, Body, WordBody, BlockBody, Stmts, NoStmts, Then, Else, NoElse, ElseDo}
use Rattle.dpl_rules.specs.Sights.{Scopes, enter}
use Rattle.dpl_rules.specs.Loops.{in_loop, behind}
use Rattle.dpl_rules.specs.Foralls.{ForallIn, forall_by, foralls, body_foralls, all_foralls, else_foralls}
use Rattle.dpl_places.specs.Statements.{stmt_places, body_places, stmts_places, else_places}
use Rattle.dpl_places.specs.Rising.{IsPart}
use Rattle.dpl_places.proofs.Parts.{part-later, part-both}

abbrev pub forall_places : List ForallIn → List Place
forall_places fs = map (λ f. f.at) fs

both-foralls : (fs gs : List ForallIn) (ps qs : List Place) → IsPart (forall_places fs) ps → IsPart (forall_places gs) qs → IsPart (forall_places (fs ++ gs)) (ps ++ qs)
both-foralls fs gs ps qs h k = subst (λ rs. IsPart rs (ps ++ qs)) (sym (map-append (λ f. f.at) fs gs)) (part-both (forall_places fs) (forall_places gs) ps qs h k)

by-part : (word : LoopWord) (f : ForallIn) → IsPart (forall_places (forall_by word f)) (f.at ∷ [])
by-part ForWord f = tt
by-part ForallWord f = inl (refl, refl)
by-part CoforallWord f = tt

mutual
  pub foralls-part : (t : StmtTree Text) (ss : Scopes) → IsPart (forall_places (foralls ss t)) (stmt_places t)
  foralls-part (Nothing at) ss = tt
  foralls-part (Declare d) ss = tt
  foralls-part (Assigned target sign item semicolon) ss = tt
  foralls-part (Call x dot call semicolon) ss = tt
  foralls-part (Write w) ss = tt
  foralls-part (Block from ts upto) ss = part-later (forall_places (all_foralls (enter ss) ts)) from (stmts_places ts) (all_foralls-part ts (enter ss))
  foralls-part (If at e first second) ss =
      let both =
      both-foralls (body_foralls (enter ss) first) (else_foralls (enter ss) second) (body_places first) (else_places second)
      (body_foralls-part first (enter ss)) (else_foralls-part second (enter ss))
      in
      part-later (forall_places (body_foralls (enter ss) first ++ else_foralls (enter ss) second)) at (body_places first ++ else_places second) both
  foralls-part (Headed word at e body) ss = part-later (forall_places (body_foralls (enter ss) body)) at (body_places body) (body_foralls-part body (enter ss))
  foralls-part (Loop word at xs within item intents body) ss =
      let f : ForallIn = record { at = at; scopes = ss; variables = xs; over = item; intents = intents; body = body } in
      both-foralls (forall_by word f) (body_foralls (in_loop ss word xs item) body) (at ∷ []) (body_places body) (by-part word f) (body_foralls-part body (in_loop ss word xs item))

  body_foralls-part : (b : Body Text) (ss : Scopes) → IsPart (forall_places (body_foralls ss b)) (body_places b)
  body_foralls-part (WordBody at t) ss = foralls-part t ss
  body_foralls-part (BlockBody from ts upto) ss = all_foralls-part ts ss

  pub all_foralls-part : (ts : Stmts Text) (ss : Scopes) → IsPart (forall_places (all_foralls ss ts)) (stmts_places ts)
  all_foralls-part NoStmts ss = refl
  all_foralls-part (Then t rest) ss =
      both-foralls (foralls ss t) (all_foralls (behind ss t) rest) (stmt_places t) (stmts_places rest) (foralls-part t ss) (all_foralls-part rest (behind ss t))

  else_foralls-part : (o : Else Text) (ss : Scopes) → IsPart (forall_places (else_foralls ss o)) (else_places o)
  else_foralls-part NoElse ss = refl
  else_foralls-part (ElseDo at t) ss = foralls-part t ss
