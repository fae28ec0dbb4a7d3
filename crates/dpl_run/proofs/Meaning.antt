-- A run of a program's plan in a memory is what the program means.
-- From the agreement of a memory with names, from lowering, and from what the planner gives.
use Rattle.std.proofs.Common.{◌≡◌, ℕ, Bool, List, [], map, Option, Some, None, refl, sym, ap, ◌∙◌, subst}
use Rattle.std.specs.Prelude.{true, option_map, option_and_then}
use Rattle.dpl_history.specs.declared.history.Event.{Event}
use Rattle.std.proofs.lemmas.Option.{none-some}
use Rattle.dpl_language.specs.Tree.{ProgramTree, Kind, IntKind, BoolKind}
use Rattle.dpl_language.specs.Values.{Fault}
use Rattle.dpl_language.specs.Outcome.{Deeds, no_deeds, Outcome as Meant, Done, Stop, Waits}
use Rattle.dpl_language.specs.Environment.{Limits}
use Rattle.dpl_language.specs.Statements.{exec_all}
use Rattle.dpl_language.specs.Names.{Text, Frame, State, paired}
use Rattle.dpl_language.specs.Program.{settled, meaning, written, left, top_level, own_frame}
use Rattle.dpl_language.specs.Together.{AllTogether, Happened}
use Rattle.dpl_agreement.specs.Renamed.{renamed_program, renamed_stmts}
use Rattle.dpl_agreement.specs.Scopes.{fits_all, after_all}
use Rattle.dpl_agreement.specs.Agreement.{EndsAlike}
use Rattle.dpl_agreement.proofs.ProgramsAlike.{run_from}
use Rattle.dpl_rules.specs.Types.{ValueType, Scalar, Range, Domain, Tuple, scalar_of}
use Rattle.dpl_rules.specs.Sights.{Scopes, lookup, type_declared}
use Rattle.dpl_rules.specs.Sound.{behind_all, sets_fit}
use Rattle.dpl_rules.specs.Breaches.{top}
use Rattle.dpl_lowered.proofs.Runs.{exec_all-lowered}
use Rattle.dpl_words.specs.Words.{LeafKind, IntLeaf, TruthLeaf, RangeLeaf}
use Rattle.dpl_memory.specs.Memory.{PlainKind, DomainKind, TupleKind, Memory, known_variable, in_memory}
use Rattle.dpl_memory.specs.Resolved.{variable_of, Start, first_memory, first_seen, resolving, frame_in, names_in_order, left_in, StandsFor}
use Rattle.dpl_memory.proofs.Known.{memory-known}
use Rattle.dpl_memory.proofs.MemoryAgrees.{meaning-memory, left-memory}
use Rattle.dpl_frame.specs.declared.fault.Fault.{Fault as FaultNode}
use Rattle.dpl_nodes.specs.declared.step.Step.{Step}
use Rattle.dpl_nodes.specs.Steps.{steps_of}
use Rattle.dpl_frame.specs.Faults.{fault_view}
use Rattle.dpl_says.specs.Given.{given, words_by}
use Rattle.dpl_says.specs.Says.{Leaves, Faults, ending_of, run_of, Means}
use Rattle.dpl_given.specs.Words.{words_in}
use Rattle.dpl_given.proofs.Alike.{kind_as, given-alike}
use Rattle.dpl_typed.specs.Typed.{is_rank, is_tuple_rank}
use Rattle.dpl_typed.specs.Leaves.{value_kind, kind_by}
use Rattle.dpl_runnable.proofs.Kept.{kind_if-some}
use Rattle.dpl_runnable.proofs.Expressions.{variable-cases}
use Rattle.dpl_bound.specs.Sights.{sight_of, AreKnownScopes}
use Rattle.dpl_run.specs.Plans.{IsPlan, IsGivenAlike}
use Rattle.dpl_outcome.specs.declared.outcome.Outcome.{Outcome}
use Rattle.dpl_outcome.specs.declared.outcome.Outcome.TheVariants.{Done as DoneWith, Stopped, Rejected}
use Rattle.dpl_run.specs.Headline.{ending}
use Rattle.dpl_outcome.specs.Names.{names_of}
use Rattle.dpl_run.specs.TopLevel.{sighted_in}
use Rattle.dpl_run.specs.Runs.{RanTo}
use Rattle.dpl_run.proofs.Collecting.{names_in_order-top}

-- ---- the ends of the two runs
done-alike : (R : State → Memory → Type 0) (o : Meant State) (r : Meant Memory) (last : Memory) (done : Deeds) → EndsAlike R o r → r ≡ Done last done → (s : State) × (o ≡ Done s done)
done-alike R (Done s did) r last done al e =
    let both : Done al.0 did ≡ Done last done = sym al.2 ∙ e in
    let same : did ≡ done = cc in
    (s, ap (Done s) same)
done-alike R (Stop f did) r last done al e = absurd (let both : Stop f did ≡ Done last done = sym al ∙ e in cc)
done-alike R (Waits at c op did) r last done al e = absurd (let both : Waits at c op did ≡ Done last done = sym al ∙ e in cc)

stop-alike : (R : State → Memory → Type 0) (o : Meant State) (r : Meant Memory) (f : Fault) (done : Deeds) → EndsAlike R o r → r ≡ Stop f done → o ≡ Stop f done
stop-alike R (Done s did) r f done al e = absurd (let both : Done al.0 did ≡ Stop f done = sym al.2 ∙ e in cc)
stop-alike R (Stop g did) r f done al e =
    let both : Stop g did ≡ Stop f done = sym al ∙ e in
    let fault : g ≡ f = cc in
    let same : did ≡ done = cc in
    ap (λ h. Stop h did) fault ∙ ap (Stop f) same
stop-alike R (Waits at c op did) r f done al e = absurd (let both : Waits at c op did ≡ Stop f done = sym al ∙ e in cc)

-- ---- what the sets give
of_scalar : (l : Kind) (k : LeafKind) → value_kind (Scalar l) ≡ Some (PlainKind k) → scalar_of (Scalar l) ≡ kind_as k
of_scalar IntKind k e =
    let is : IntLeaf ≡ k = cc in
    ap kind_as is
of_scalar BoolKind k e =
    let is : TruthLeaf ≡ k = cc in
    ap kind_as is

of_range : (strided : Bool) (k : LeafKind) → value_kind (Range strided) ≡ Some (PlainKind k) → scalar_of (Range strided) ≡ kind_as k
of_range strided k e =
    let is : RangeLeaf ≡ k = cc in
    ap kind_as is

of_domain : (rank : ℕ) (strided : Bool) (k : LeafKind) → value_kind (Domain rank strided) ≡ Some (PlainKind k) → ⊥
of_domain rank strided k e =
    let is : DomainKind ≡ PlainKind k = (kind_if-some (is_rank rank) DomainKind (PlainKind k) e).1 in
    cc

of_tuple : (rank : ℕ) (k : LeafKind) → value_kind (Tuple rank) ≡ Some (PlainKind k) → ⊥
of_tuple rank k e =
    let is : TupleKind ≡ PlainKind k = (kind_if-some (is_tuple_rank rank) TupleKind (PlainKind k) e).1 in
    cc

scalar-kind : (t : ValueType) (k : LeafKind) → value_kind t ≡ Some (PlainKind k) → scalar_of t ≡ kind_as k
scalar-kind t k e =
    variable-cases (λ t. value_kind t ≡ Some (PlainKind k) → scalar_of t ≡ kind_as k) (λ l. of_scalar l k) (λ strided. of_range strided k) (λ rank strided r e. absurd (of_domain rank strided k e)) (λ rank r e. absurd (of_tuple rank k e))
    t (PlainKind k) refl e e

declared-kind : (t : Option ValueType) (k : LeafKind) → kind_by t ≡ Some (PlainKind k) → option_and_then scalar_of t ≡ kind_as k
declared-kind None k e = absurd (none-some (PlainKind k) e)
declared-kind (Some t) k e = scalar-kind t k e

-- A plan of a program that the sets fit, run from its first memory.
module _ (t : ProgramTree Text) (sets : List (List ℕ)) (slots : ℕ) (scopes : Scopes) (steps : List Step) (plan : IsPlan t slots scopes steps) (fit : sets_fit (behind_all top t.stmts) [] sets ≡ true) where
  abbrev pub start : Start
  start = record { slots = slots; cells = 0; texts = given t sets; words = words_in scopes sets; histories = None }

  pub alike : IsGivenAlike scopes start
  alike x k slot kind at =
      ap (λ ss. paired x (words_by ss sets)) (sym plan.behind)
      ∙ given-alike scopes x k slot (declared-kind (type_declared (lookup scopes x)) k kind) at [] sets (ap (λ ss. sets_fit ss [] sets) plan.behind ∙ fit)

  fits : fits_all (resolving start) plan.resolved.stmts first_seen
  fits = plan.fits start refl alike

  module _ (limits : Limits) where
    runs : exec_all limits in_memory (steps_of steps) (first_memory start) no_deeds ≡ exec_all limits in_memory (renamed_stmts variable_of plan.resolved.stmts) (first_memory start) no_deeds
    runs =
        ap (λ ts. exec_all limits in_memory ts (first_memory start) no_deeds) (sym plan.nodes)
        ∙ exec_all-lowered limits in_memory known_variable memory-known (renamed_stmts variable_of plan.resolved.stmts) (first_memory start) no_deeds

    -- a run in a memory that ends so is the run of the resolved program
    by_plan : (o : Meant Memory) → settled (exec_all limits in_memory (steps_of steps) (first_memory start) no_deeds) ≡ o → run_from limits in_memory (renamed_program variable_of plan.resolved) (first_memory start) ≡ o
    by_plan o e = ap settled (sym runs) ∙ e

    ends : (histories : List (List Event)) → EndsAlike (StandsFor start (after_all (resolving start) plan.resolved.stmts first_seen)) (run_of t sets limits histories) (run_from limits in_memory (renamed_program variable_of plan.resolved) (first_memory start))
    ends histories =
        subst (λ p. EndsAlike (StandsFor start (after_all (resolving start) plan.resolved.stmts first_seen)) (meaning p (given t sets) limits histories) (run_from limits in_memory (renamed_program variable_of plan.resolved) (first_memory start)))
        plan.text (meaning-memory start limits plan.resolved histories tt fits)

    -- what the names of the top level hold at the end
    leaves : (histories : List (List Event)) (last : Memory) (done : Deeds) → settled (exec_all limits in_memory (steps_of steps) (first_memory start) no_deeds) ≡ Done last done
        → option_map own_frame (left (run_of t sets limits histories)) ≡ Some (frame_in last (map (sighted_in scopes) (names_of scopes)))
    leaves histories last done e =
        ap (λ p. option_map own_frame (left (meaning p (given t sets) limits histories))) (sym plan.text)
        ∙ left-memory start limits plan.resolved histories tt fits
        ∙ ap (left_in (after_all (resolving start) plan.resolved.stmts first_seen).frames) (by_plan (Done last done) e)
        ∙ ap (λ fs. Some (frame_in last (names_in_order fs))) (plan.sight start ∙ ap sight_of plan.behind)
        ∙ ap (λ f. Some f) (names_in_order-top last t.stmts (subst AreKnownScopes plan.behind plan.plain))
        ∙ ap (λ ss. Some (frame_in last (map (sighted_in ss) (names_of ss)))) (sym plan.behind)

    means-done : (histories : List (List Event)) (last : Memory) (done : Deeds) (out : List ℕ) (frame : Frame) → settled (exec_all limits in_memory (steps_of steps) (first_memory start) no_deeds) ≡ Done last done → out ≡ done.text → AllTogether done.entered
        → frame ≡ frame_in last (map (sighted_in scopes) (names_of scopes)) → Means t sets limits histories (Leaves frame) out
    means-done histories last done out frame e text together are =
        let d = done-alike _ (run_of t sets limits histories) _ last done (ends histories) (by_plan (Done last done) e) in
        let held : Some (own_frame (top_level d.0.store)) ≡ Some (frame_in last (map (sighted_in scopes) (names_of scopes))) = sym (ap (λ o. option_map own_frame (left o)) d.1) ∙ leaves histories last done e in
        let same : own_frame (top_level d.0.store) ≡ frame_in last (map (sighted_in scopes) (names_of scopes)) = cc in
        record {
          happened = subst (λ (o : Meant State). Happened o) (sym d.1) together;
          writes = text ∙ ap written (sym d.1);
          ends = ap ending_of d.1 ∙ ap (λ f. Some (Leaves f)) (same ∙ sym are);
        }

    means-stop : (histories : List (List Event)) (fault : FaultNode) (done : Deeds) (said : List ℕ) → settled (exec_all limits in_memory (steps_of steps) (first_memory start) no_deeds) ≡ Stop (fault_view fault) done
        → said ≡ written {S = Memory} (Stop (fault_view fault) done) → AllTogether done.entered → Means t sets limits histories (Faults (fault_view fault)) said
    means-stop histories fault done said e says together =
        let d = stop-alike _ (run_of t sets limits histories) _ (fault_view fault) done (ends histories) (by_plan (Stop (fault_view fault) done) e) in
        record {
          happened = subst (λ (o : Meant State). Happened o) (sym d) together;
          writes = says ∙ ap written (sym d);
          ends = ap ending_of d;
        }

    -- how the run in a memory ended is how the program's run does
    pub means-ran : (histories : List (List Event)) (o : Outcome) (said : List ℕ) → RanTo scopes (settled (exec_all limits in_memory (steps_of steps) (first_memory start) no_deeds)) o said → Means t sets limits histories (ending o) said
    means-ran histories (DoneWith frame) said ran = means-done histories ran.0 ran.1 said frame ran.2 ran.3 ran.4 ran.5
    means-ran histories (Stopped fault) said ran = means-stop histories fault ran.0 said ran.1 ran.2 ran.3
    means-ran histories (Rejected r) said ran = absurd ran
