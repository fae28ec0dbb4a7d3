-- What a program without the words of tasks means doesn't hang on the histories that it is given.
-- Two states agree that are the same but for histories: only a coforall sees them.
use Rattle.std.proofs.Common.{◌≡◌, List, [], ◌∷◌, refl, sym, ap, ◌∙◌, subst, Some, None, Option}
use Rattle.dpl_history.specs.declared.cell.CellState.{CellState}
use Rattle.dpl_history.specs.declared.cell.CellOp.{CellOp}
use Rattle.dpl_history.specs.declared.cell.Reply.{Reply}
use Rattle.dpl_history.specs.declared.history.Event.{Event}
use Rattle.dpl_history.specs.Cells.{effect}
use Rattle.dpl_language.specs.Tree.{WithTree, VariablesTree, LoopWord, ForWord, ForallWord, CoforallWord, ProgramTree, StmtTree, Block, If, Headed, Loop, Body, WordBody, BlockBody, Stmts, NoStmts, Then, Else, NoElse, ElseDo}
use Rattle.dpl_language.specs.Values.{Value, index_of, ranges_in, array_domain, is_domain}
use Rattle.dpl_language.specs.Ranges.{indices_in, loop_ranges}
use Rattle.dpl_language.specs.Outcome.{no_deeds, Outcome, Done, Stop, Waits}
use Rattle.dpl_language.specs.Environment.{Limits}
use Rattle.dpl_language.specs.Statements.{exec_all}
use Rattle.dpl_language.specs.Names.{Text, State, by_name, look_up, state_in, effect_on, call_in}
use Rattle.dpl_language.specs.Program.{settled, first_state, meaning}
use Rattle.dpl_agreement.specs.Untasked.{UntaskedLoop, UntaskedStmt, UntaskedBody, UntaskedStmts, UntaskedElse}
use Rattle.dpl_agreement.specs.Scopes.{Scoping, IsLawful, fits, fits_loop, fits_body, fits_all, fits_else}
use Rattle.dpl_agreement.specs.Agreement.{AnswersAlike, Simulates, EndsAlike}
use Rattle.dpl_agreement.proofs.FreeNames.{anything, stmts_fit}
use Rattle.dpl_agreement.proofs.RenamedSame.{renamed_stmts-same, renamed_content-same, renamed_intents-same}
use Rattle.dpl_agreement.proofs.RunsAlike.{All-every}
use Rattle.dpl_agreement.proofs.Agreement.{exec_all-alike}

-- ---- trees without the words of tasks: any name may be used in any way, and no coforall is entered
abbrev uncoforalled : {N : Type 0} → Scoping N (Unit {0})
uncoforalled = record anything { coforalls = λ x g. ⊥ }

uncoforalled-lawful : {N : Type 0} → IsLawful (uncoforalled {N = N})
uncoforalled-lawful = record { leave-enter = λ g. refl; leave-add = λ x form g. refl; reads-add = λ x form g d. tt }

module _ {N : Type 0} where
  -- all but its bodies fits as where anything may be
  fitting : (t : StmtTree N) → fits anything t tt
  fitting t = (stmts_fit (Then t NoStmts)).0

  loop-fits : (word : LoopWord) (xs : VariablesTree N) (intents : Option (WithTree N)) → UntaskedLoop word → fits_loop uncoforalled word xs intents tt
  loop-fits ForWord xs intents u = tt
  loop-fits ForallWord xs intents u = tt
  loop-fits CoforallWord xs intents u = absurd u

  mutual
    stmt-fits : (t : StmtTree N) → UntaskedStmt t → fits uncoforalled t tt
    stmt-fits (Block from body upto) u = stmts-fit body u
    stmt-fits (If at e first second) u = ((fitting (If at e first second)).0, body-fits first u.1, else-fits second u.2)
    stmt-fits (Headed word at e body) u = let f = fitting (Headed word at e body) in (f.0, body-fits body u.1, f.2)
    stmt-fits (Loop word at xs within item intents body) u =
        let f = fitting (Loop word at xs within item intents body) in (f.0, f.1, loop-fits word xs intents u.2, f.3, body-fits body u.1)
    stmt-fits t u = fitting t

    body-fits : (b : Body N) → UntaskedBody b → fits_body uncoforalled b tt
    body-fits (WordBody at t) u = stmt-fits t u
    body-fits (BlockBody from ts upto) u = stmts-fit ts u

    stmts-fit : (ts : Stmts N) → UntaskedStmts ts → fits_all uncoforalled ts tt
    stmts-fit NoStmts u = tt
    stmts-fit (Then t rest) u = (stmt-fits t u.0, stmts-fit rest u.1)

    else-fits : (o : Else N) → UntaskedElse o → fits_else uncoforalled o tt
    else-fits NoElse u = tt
    else-fits (ElseDo at t) u = stmt-fits t u

-- ---- with other histories
module _ (hs : List (List Event)) where
  abbrev given : State → State
  given s = record s { histories = hs }

  abbrev Same : Unit {0} → State → State → Type 0
  Same g s1 s2 = s2 ≡ given s1

  effect-same : (x : Text) (s : State) (o : Option (CellState × Reply)) → AnswersAlike (Same tt) (effect_on x s o) (effect_on x (given s) o)
  effect-same x s None = refl
  effect-same x s (Some a) = (_, refl, refl)

  call-same : (x : Text) (op : CellOp) (s : State) (o : Option (List Reply)) → AnswersAlike (Same tt) (call_in x op s o) (call_in x op (given s) o)
  call-same x op s None = effect-same x s (effect op (state_in (look_up x s.store)))
  call-same x op s (Some []) = refl
  call-same x op s (Some (r ∷ rs)) = (_, refl, refl)

  same-simulates : (limits : Limits) → Simulates limits (λ x. x) uncoforalled by_name by_name Same
  same-simulates limits = record {
    lawful = uncoforalled-lawful;
    gets = λ x g s1 s2 r f. ap (by_name.get x) (sym r);
    whole_targets = λ x op g s1 s2 r f. ap (λ s. array_domain (by_name.get x s)) (sym r);
    domain_targets = λ x op g s1 s2 r f. ap (λ s. is_domain (by_name.get x s)) (sym r);
    updates = λ x op v g s1 s2 r f h. ap (by_name.update x op v) r;
    elements_at = λ x t g s1 s2 r f. ap (by_name.element x t) (sym r);
    elements = λ x items vs g s1 s2 r f e. ap (by_name.element x (index_of vs)) (sym r);
    puts_at = λ x t v g s1 s2 r f h. ap (by_name.put_element x t v) r;
    puts = λ x items vs v g s1 s2 r f e h. ap (by_name.put_element x (index_of vs) v) r;
    declares = λ x c g s1 s2 r f h. ap (by_name.declare x c) r ∙ ap (λ c. given (by_name.declare x c s1)) (sym (renamed_content-same c));
    roots = λ x g s1 s2 r f d. ap (by_name.root x) (sym r);
    deals = λ x root g s1 s2 r f d. ap (by_name.deal x root) r;
    gives = λ x g s1 s2 r f. ap (by_name.given x) (sym r);
    suited = λ x item v g s1 s2 r f w e. tt;
    suited_new = λ x item v g s1 s2 r f d e. tt;
    suited_element = λ x item v g s1 s2 r f e. tt;
    suited_once = λ x item v g s1 s2 r f w e. tt;
    suited_turn = λ x item t v g s1 s2 r f w p e. tt;
    suited_initial = λ x over item t v g s1 s2 r f d p e. tt;
    changed = λ x op t old w g s1 s2 r f e h. tt;
    turned = λ x item over g s1 s2 r f e. All-every (λ t. Unit {0}) (λ t. tt) (indices_in (loop_ranges limits.locales over));
    spanned = λ x from items v g s1 s2 r f d e. tt;
    spanned_array = λ x over k from items v vs g s1 s2 r f e h. tt;
    given_holds = λ x v g s1 s2 r f e. tt;
    enters = λ g s1 s2 r. ap by_name.enter r;
    leaves = λ g h s1 s2 t1 t2 before out r. ap by_name.leave r;
    intends = λ is g s1 s2 r f. ap (by_name.intend is) r ∙ ap (λ is. given (by_name.intend is s1)) (sym (renamed_intents-same is));
    ends_forall = λ is g s1 s2 r f. ap (by_name.intend []) r;
    notes = λ at rs done g s1 s2 r. refl;
    has = λ x op g s1 s2 r f w. ap (by_name.has_arrays x) (sym r);
    redomains = λ x op v g s1 s2 r f w h. ap (by_name.redomain x (ranges_in v)) r;
    heres = λ g s1 s2 r. ap by_name.here (sym r);
    moves = λ k g s1 s2 r m. ap (by_name.move k) r;
    calls = λ x op g s1 s2 r f. subst (λ s. AnswersAlike (Same tt) (by_name.call x op s1) (by_name.call x op s)) (sym r) (call-same x op s1 s1.replies);
    cells = λ x g s1 s2 r c. absurd c;
    histories = λ x g s1 s2 r c. absurd c;
    begins = λ x rs g s1 s2 r c. absurd c;
    settles = λ x h g s1 s2 r c. absurd c;
  }

  -- the same end, with the same deeds; where it is done, with these histories still to come
  abbrev pub ends_given : Outcome State → Outcome State
  ends_given (Done s done) = Done (given s) done
  ends_given (Stop f done) = Stop f done
  ends_given (Waits at c op done) = Waits at c op done

  ended : (o p : Outcome State) → EndsAlike (λ s1 s2. s2 ≡ given s1) o p → p ≡ ends_given o
  ended (Done s done) p e = e.2 ∙ ap (λ s. Done s done) e.1
  ended (Stop f done) p e = e
  ended (Waits at c op done) p e = e

  settled-given : (o : Outcome State) → settled (ends_given o) ≡ ends_given (settled o)
  settled-given (Done s done) = refl
  settled-given (Stop f done) = refl
  settled-given (Waits at c op done) = refl

  pub histories-free : (t : ProgramTree Text) → UntaskedStmts t.stmts → (sets : List (Text × Value)) (limits : Limits) (is : List (List Event)) → meaning t sets limits hs ≡ ends_given (meaning t sets limits is)
  histories-free t u sets limits is =
      ap settled (ended _ _ (subst (λ ts. EndsAlike (λ s1 s2. s2 ≡ given s1) (exec_all limits by_name ts (first_state sets is) no_deeds) (exec_all limits by_name t.stmts (first_state sets hs) no_deeds)) (renamed_stmts-same t.stmts)
      (exec_all-alike limits (λ x. x) uncoforalled by_name by_name Same (same-simulates limits) t.stmts tt (stmts-fit t.stmts u) (first_state sets is) (first_state sets hs) no_deeds refl)))
      ∙ settled-given (exec_all limits by_name t.stmts (first_state sets is) no_deeds)
