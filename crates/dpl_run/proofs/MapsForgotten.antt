-- Maps and roots change nothing of what a program does: without them it does the same, and ends the same way.
-- The theorems stand last: of a program without its maps, of programs that are the same but for their maps, and where no name gets a root.
use Rattle.std.proofs.Common.{◌≡◌, ◌↔◌, ℕ, nat_lt, List, [], refl, sym, ap, ◌∙◌, subst, Some, None, Option}
use Rattle.std.specs.Prelude.{option_map}
use mathlib.Core.Path.{fun_ext}
use Rattle.dpl_syntax.specs.declared.place.Place.{Place}
use Rattle.dpl_history.specs.declared.history.Event.{Event}
use Rattle.dpl_language.specs.Tree.{Placed, ExprTree, ArrayTypeTree, TypeTree, ScalarType, SyncType, DomainType, ArrayType, InitTree, ItemInit, CreateInit, TypedTree, InitialTree, DeclareTree, ForWord, ForallWord, CoforallWord, StmtTree, Nothing, Declare, Assigned, Call, Write, Block, If, Headed, Loop, Body, WordBody, BlockBody, Stmts, NoStmts, Then, Else, NoElse, ElseDo, ProgramTree}
use Rattle.dpl_language.specs.Values.{Value, Domain, Array, ranges_in, fault, PastLimit, ArrayTooLarge}
use Rattle.dpl_language.specs.Distributions.{Root}
use Rattle.dpl_language.specs.Ranges.{indices_in, size_in, loop_ranges, too_large}
use Rattle.dpl_language.specs.Outcome.{Deeds, no_deeds, Outcome, Done, Stop, Waits, Run, with_value, unless}
use Rattle.dpl_language.specs.Environment.{Environment, Limits}
use Rattle.dpl_language.specs.Phrases.{declared_over, intents_of, first_name}
use Rattle.dpl_language.specs.Expressions.{domain_of}
use Rattle.dpl_language.specs.Declarations.{Shell, type_of, initial_then, array_of_init, array_of, declare_typed, given_or, declare_by, declare}
use Rattle.dpl_language.specs.Roots.{deal_domain, deal_array, deal_by, dealt}
use Rattle.dpl_language.specs.Statements.{task_limit, holds, exec, exec_body, exec_all, exec_else}
use Rattle.dpl_language.specs.Names.{Text, State, by_name}
use Rattle.dpl_language.specs.Program.{first_state, meaning}
use Rattle.dpl_agreement.specs.Agreement.{EndsAlike}
use Rattle.dpl_agreement.proofs.RunsAlike.{with_ok-same, then_do-alike, with_value-alike, choose-alike, unless-alike, named_turn-alike, settled-alike, MovesAlike, headed-alike}
use Rattle.dpl_says.specs.Given.{given}
use Rattle.dpl_says.specs.Says.{Ending, run_of, Means}
use Rattle.dpl_run.specs.Unmapped.{unmapped_type, unmapped_typed, unmapped_init, unmapped_elements, initial_by, unmapped_declare, unmapped_stmt, unmapped_body, unmapped_stmts, unmapped_else, unmapped, rootless, meaning_by, bare, unrooted, Shows}
use Rattle.dpl_run.proofs.ButForRoots.{dealing, KeepsRest, Alike, SameRun, value-alike, item-alike, scoped-alike, turn_of-alike, turns-alike, tasks_of-alike, assign-alike, cell_call-alike, write-alike, declare-alike}

-- A DECLARATION WITHOUT MAPS declares the same, since nothing that it declares hangs on a map
module _ {N S : Type 0} (limits : Limits) (env : Environment N S) where
  init-unmapped : (i : InitTree N) (go : Value → Run S) (s : S) (done : Deeds) → initial_then limits env (unmapped_init i) go s done ≡ initial_then limits env i go s done
  init-unmapped (ItemInit item mapped) go s done = refl
  init-unmapped (CreateInit c) go s done = refl

  elements-unmapped : (x : Placed N) (shell : Shell N) (equals : Place) (i : InitTree N) (s : S) (done : Deeds)
      → array_of limits env x shell (unmapped_elements equals i) s done ≡ array_of_init limits env x shell equals i s done
  elements-unmapped x shell equals (ItemInit item mapped) s done = refl
  elements-unmapped x shell equals (CreateInit c) s done = refl

  typed-unmapped : (x : Placed N) (type : TypeTree N) (i : Option (InitialTree N)) (s : S) (done : Deeds)
      → declare_typed limits env x (Some (unmapped_type type)) (initial_by (Some type) i) s done ≡ declare_typed limits env x (Some type) i s done
  typed-unmapped x (ScalarType at k) None s done = refl
  typed-unmapped x (ScalarType at k) (Some i) s done = init-unmapped i.init _ s done
  typed-unmapped x (SyncType at kind_at k) None s done = refl
  typed-unmapped x (SyncType at kind_at k) (Some i) s done = init-unmapped i.init _ s done
  typed-unmapped x (DomainType d) None s done = refl
  typed-unmapped x (DomainType d) (Some i) s done = init-unmapped i.init _ s done
  typed-unmapped x (ArrayType a) None s done = refl
  typed-unmapped x (ArrayType a) (Some i) s done =
      ap (λ (make : Shell N → Run S). with_value (domain_of limits env a.from a.over s)
      (λ v. unless (too_large (ranges_in v)) (fault ArrayTooLarge x.at) (make (record { over = declared_over a.over; kind = a.kind; ranges = ranges_in v }))) s done)
      (fun_ext (λ shell. fun_ext (λ s. fun_ext (λ done. elements-unmapped x shell i.equals i.init s done))))

  any-unmapped : (x : Placed N) (typed : Option (TypedTree N)) (i : Option (InitialTree N)) (s : S) (done : Deeds)
      → declare_typed limits env x (type_of (option_map {T = TypedTree N} {U = TypedTree N} unmapped_typed typed)) (initial_by (type_of typed) i) s done ≡ declare_typed limits env x (type_of typed) i s done
  any-unmapped x None None s done = refl
  any-unmapped x None (Some i) s done = init-unmapped i.init _ s done
  any-unmapped x (Some t) i s done = typed-unmapped x t.type i s done

  by-unmapped : (config : Option Place) (d : DeclareTree N) (s : S) (done : Deeds) → declare_by limits env config (unmapped_declare d) s done ≡ declare_by limits env config d s done
  by-unmapped None d s done = any-unmapped d.name d.typed d.initial s done
  by-unmapped (Some config) d s done =
      ap (λ go. given_or limits env d.name (env.given d.name.name s) go s done) (fun_ext (λ s. fun_ext (λ done. any-unmapped d.name d.typed d.initial s done)))

  declare-unmapped : (d : DeclareTree N) (s : S) (done : Deeds) → declare limits env (unmapped_declare d) s done ≡ declare limits env d s done
  declare-unmapped d s done = by-unmapped d.config d s done

  -- ITS ROOT. What is so behind a declaration, and of the state in which a name is dealt some root, is so where it is dealt its own.
  module _ (d : DeclareTree N) (s after : S) (So : S → Type 0) (undealt : So after) (deals : (x : N) (root : Root) → So (env.deal x root after)) where
    domain-dealt : (type : Option (TypeTree N)) (v : Value) → So (deal_domain limits env type d.initial d.name.name v s after)
    domain-dealt type (Domain rs) = deals d.name.name _
    domain-dealt type _ = undealt

    array-dealt : (a : ArrayTypeTree N) (v : Value) → So (deal_array limits env a d.name.name v s after)
    array-dealt a (Array k rs) = deals d.name.name _
    array-dealt a _ = undealt

    by-dealt : (type : Option (TypeTree N)) (v : Value) → So (deal_by limits env type d.initial d.name.name v s after)
    by-dealt None v = domain-dealt None v
    by-dealt (Some (ScalarType at k)) v = domain-dealt (Some (ScalarType at k)) v
    by-dealt (Some (SyncType at kind_at k)) v = domain-dealt (Some (SyncType at kind_at k)) v
    by-dealt (Some (DomainType t)) v = domain-dealt (Some (DomainType t)) v
    by-dealt (Some (ArrayType a)) v = array-dealt a v

    dealt-so : So (dealt limits env d s after)
    dealt-so = by-dealt (type_of d.typed) (env.get d.name.name after)

-- a root leaves all else as it is, whichever a declaration gives; and where none is kept, dealing does nothing at all
dealt-bare : (limits : Limits) (deal : Text → Root → State → State) → KeepsRest deal → (d : DeclareTree Text) (s after : State) → bare (dealt limits (dealing deal) d s after) ≡ bare after
dealt-bare limits deal keeps d s after = dealt-so limits (dealing deal) d s after (λ u. bare u ≡ bare after) refl (λ x root. keeps x root after)

pub dealt-nothing : (limits : Limits) (d : DeclareTree Text) (s after : State) → dealt limits rootless d s after ≡ after
dealt-nothing limits d s after = dealt-so limits rootless d s after (λ u. u ≡ after) refl (λ x root. refl)

-- A STATEMENT, and the same without maps, whose roots may be dealt otherwise
module _ (limits : Limits) (deal other : Text → Root → State → State) (keeps : KeepsRest deal) (keeps_too : KeepsRest other) where
  abbrev first : Environment Text State
  first = dealing deal

  abbrev second : Environment Text State
  second = dealing other

  holds-alike : (e : ExprTree Text) (s u : State) → Alike s u → holds limits first e s ≡ holds limits second e u
  holds-alike e s u r = with_ok-same _ _ _ _ (value-alike limits deal other e None s u r) (λ v. refl)

  -- on a locale, and back
  moves-alike : MovesAlike limits limits first second Alike
  moves-alike = record { heres = λ s u r. ap by_name.here r; moves = λ k s u r. ap (λ s. bare (by_name.move k s)) r }

  -- a declaration, and then its root
  declared-alike : (d : DeclareTree Text) → SameRun (exec limits first (Declare d)) (exec limits second (Declare (unmapped_declare d)))
  declared-alike d s u done r =
      then_do-alike Alike Alike _ _ _ _
      (subst (λ o. EndsAlike Alike (declare limits first d s done) o) (sym (declare-unmapped limits second d u done)) (declare-alike limits deal other d s u done r))
      (λ v w done q. (
        dealt limits second (unmapped_declare d) u w,
        dealt-bare limits deal keeps d s v ∙ q ∙ sym (dealt-bare limits other keeps_too (unmapped_declare d) u w),
        refl,
      ))

  mutual
    exec-alike : (t : StmtTree Text) → SameRun (exec limits first t) (exec limits second (unmapped_stmt t))
    exec-alike (Nothing at) s u done r = (u, r, refl)
    exec-alike (Declare d) s u done r = declared-alike d s u done r
    exec-alike (Assigned target sign item semicolon) s u done r = assign-alike limits deal other target sign item s u done r
    exec-alike (Call x dot call semicolon) s u done r = cell_call-alike limits deal other x call s u done r
    exec-alike (Write w) s u done r = write-alike limits deal other w s u done r
    exec-alike (Block from body upto) s u done r = scoped-alike limits deal other _ _ (exec_all-alike body) s u done r
    exec-alike (If at e a b) s u done r =
        with_value-alike Alike _ _ _ _ s u done (holds-alike e s u r)
        (λ c. choose-alike c Alike Alike _ _ _ _ (scoped-alike limits deal other _ _ (exec_body-alike a)) (exec_else-alike b) s u done r)
    exec-alike (Headed word at e body) s u done r =
        headed-alike limits limits first second Alike word at e e _ _ refl (value-alike limits deal other e None) (scoped-alike limits deal other _ _ (exec_body-alike body)) (λ is. moves-alike) s u done r
    exec-alike (Loop ForWord at xs within item intents body) s u done r =
        with_value-alike Alike _ _ _ _ s u done (item-alike limits deal other item None s u r)
        (λ v. turns-alike limits deal other at (loop_ranges limits.locales v) _ _ (turn_of-alike limits deal other xs v _ _ (exec_body-alike body)) s u done r)
    exec-alike (Loop ForallWord at xs within item intents body) s u done r =
        with_value-alike Alike _ _ _ _ s u done (item-alike limits deal other item None s u r)
        (λ v. then_do-alike Alike Alike _ _ _ _
        (turns-alike limits deal other at (loop_ranges limits.locales v) _ _ (named_turn-alike Alike _ _ (turn_of-alike limits deal other xs v _ _ (exec_body-alike body)))
        (by_name.intend (intents_of intents) s) (by_name.intend (intents_of intents) u) done (ap (λ s. bare (by_name.intend (intents_of intents) s)) r))
        (λ v w done q. (by_name.intend [] w, ap (λ s. bare (by_name.intend [] s)) q, refl)))
    exec-alike (Loop CoforallWord at xs within item intents body) s u done r =
        with_value-alike Alike _ _ _ _ s u done (item-alike limits deal other item None s u r)
        (λ v. unless-alike (nat_lt task_limit (size_in (loop_ranges limits.locales v))) (fault PastLimit at) Alike Alike _ _
        (tasks_of-alike limits deal other (first_name xs) _ _ (turn_of-alike limits deal other xs v _ _ (exec_body-alike body)) (indices_in (loop_ranges limits.locales v))) s u done r)

    exec_body-alike : (b : Body Text) → SameRun (exec_body limits first b) (exec_body limits second (unmapped_body b))
    exec_body-alike (WordBody at t) s u done r = exec-alike t s u done r
    exec_body-alike (BlockBody from ts upto) s u done r = exec_all-alike ts s u done r

    exec_all-alike : (ts : Stmts Text) → SameRun (exec_all limits first ts) (exec_all limits second (unmapped_stmts ts))
    exec_all-alike NoStmts s u done r = (u, r, refl)
    exec_all-alike (Then t rest) s u done r = then_do-alike Alike Alike _ _ _ _ (exec-alike t s u done r) (exec_all-alike rest)

    exec_else-alike : (o : Else Text) → SameRun (exec_else limits first o) (exec_else limits second (unmapped_else o))
    exec_else-alike NoElse s u done r = (u, r, refl)
    exec_else-alike (ElseDo at t) s u done r = scoped-alike limits deal other _ _ (exec-alike t) s u done r

-- WHAT IS LEFT OF A RUN BUT FOR ROOTS
unrooted-same : (a b : Outcome State) → EndsAlike Alike a b → unrooted a ≡ unrooted b
unrooted-same (Done s done) b al = ap (λ s. Done s done) al.1 ∙ ap unrooted (sym al.2)
unrooted-same (Stop f done) b al = ap unrooted (sym al)
unrooted-same (Waits at c op done) b al = ap unrooted (sym al)

-- a program, and the same without maps, whose roots may be dealt otherwise
meaning-alike : (deal other : Text → Root → State → State) → KeepsRest deal → KeepsRest other → (t : ProgramTree Text) (sets : List (Text × Value)) (limits : Limits) (histories : List (List Event))
    → unrooted (meaning_by (dealing deal) t sets limits histories) ≡ unrooted (meaning_by (dealing other) (unmapped t) sets limits histories)
meaning-alike deal other keeps keeps_too t sets limits histories =
    unrooted-same _ _
    (settled-alike Alike _ _ (exec_all-alike limits deal other keeps keeps_too t.stmts (first_state sets histories) (first_state sets histories) no_deeds refl))

-- roots are kept, or none is
kept : KeepsRest by_name.deal
kept x root s = refl

dropped : KeepsRest rootless.deal
dropped x root s = refl

-- THE THEOREMS. Without its maps a program does the same, and ends the same way: it writes the same text, does the same to cells, and stops
-- with the same fault in the same turn, or leaves the same variables.
pub maps-forgotten : (t : ProgramTree Text) (sets : List (Text × Value)) (limits : Limits) (histories : List (List Event))
    → unrooted (meaning (unmapped t) sets limits histories) ≡ unrooted (meaning t sets limits histories)
maps-forgotten t sets limits histories = sym (meaning-alike by_name.deal by_name.deal kept kept t sets limits histories)

-- So programs that are the same but for their maps mean the same.
pub maps-exchanged : (t u : ProgramTree Text) → unmapped t ≡ unmapped u → (sets : List (Text × Value)) (limits : Limits) (histories : List (List Event))
    → unrooted (meaning t sets limits histories) ≡ unrooted (meaning u sets limits histories)
maps-exchanged t u same sets limits histories =
    sym (maps-forgotten t sets limits histories) ∙ ap (λ p. unrooted (meaning p sets limits histories)) same ∙ maps-forgotten u sets limits histories

-- And a program does the same where no name gets a root, whatever is declared: there dealing does nothing, as `dealt-nothing` has it.
pub roots-forgotten : (t : ProgramTree Text) (sets : List (Text × Value)) (limits : Limits) (histories : List (List Event))
    → unrooted (meaning_by rootless t sets limits histories) ≡ unrooted (meaning t sets limits histories)
roots-forgotten t sets limits histories =
    meaning-alike rootless.deal by_name.deal dropped kept t sets limits histories ∙ maps-forgotten t sets limits histories

-- WHAT IS SEEN OF A RUN hangs on no root that it leaves.
shows-unrooted : (o : Outcome State) (ending : Ending) (said : List ℕ) → Shows (unrooted o) ending said ↔ Shows o ending said
shows-unrooted (Done s done) ending said =
    (λ h. record { happened = h.happened; writes = h.writes; ends = h.ends }, λ h. record { happened = h.happened; writes = h.writes; ends = h.ends })
shows-unrooted (Stop f done) ending said = (λ h. h, λ h. h)
shows-unrooted (Waits at c op done) ending said = (λ h. h, λ h. h)

shows-same : (o q : Outcome State) (ending : Ending) (said : List ℕ) → unrooted o ≡ unrooted q → Shows o ending said → Shows q ending said
shows-same o q ending said same h =
    (shows-unrooted q ending said).0 (subst (λ (r : Outcome State). Shows r ending said) same ((shows-unrooted o ending said).1 h))

means-same : (t : ProgramTree Text) (sets : List (List ℕ)) (limits : Limits) (histories : List (List Event)) (ending : Ending) (said : List ℕ) (o : Outcome State)
    → unrooted o ≡ unrooted (run_of t sets limits histories) → Means t sets limits histories ending said ↔ Shows o ending said
means-same t sets limits histories ending said o same = (
  λ m. shows-same (run_of t sets limits histories) o ending said (sym same) (record { happened = m.happened; writes = m.writes; ends = m.ends }),
  λ h. let shown = shows-same o (run_of t sets limits histories) ending said same h in record { happened = shown.happened; writes = shown.writes; ends = shown.ends },
)

-- So what a program means, it means without its maps, given the same values; and it means that where no name gets a root.
pub means-unmapped : (t : ProgramTree Text) (sets : List (List ℕ)) (limits : Limits) (histories : List (List Event)) (ending : Ending) (said : List ℕ)
    → Means t sets limits histories ending said ↔ Shows (meaning (unmapped t) (given t sets) limits histories) ending said
means-unmapped t sets limits histories ending said = means-same t sets limits histories ending said _ (maps-forgotten t (given t sets) limits histories)

pub means-rootless : (t : ProgramTree Text) (sets : List (List ℕ)) (limits : Limits) (histories : List (List Event)) (ending : Ending) (said : List ℕ)
    → Means t sets limits histories ending said ↔ Shows (meaning_by rootless t (given t sets) limits histories) ending said
means-rootless t sets limits histories ending said = means-same t sets limits histories ending said _ (roots-forgotten t (given t sets) limits histories)
