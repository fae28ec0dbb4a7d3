-- A plan of a program that has no refusal deals out the turns of each forall that its run enters by the definition's map.
-- What the tree of its steps says of a forall's map is what the call that makes the forall goes by; and these foralls are the ones that are counted.
use Rattle.std.proofs.Common.{◌≡◌, ℕ, List, [], ◌∷◌, None, refl, sym, ap, ◌∙◌, subst, map}
use Rattle.dpl_language.specs.Tree.{ProgramTree, One}
use Rattle.dpl_language.specs.Environment.{Limits}
use Rattle.dpl_language.specs.Outcome.{no_deeds}
use Rattle.dpl_language.specs.Names.{Text, by_name}
use Rattle.dpl_language.specs.Program.{first_state}
use Rattle.dpl_language.specs.Roots.{derived_from, derived_item}
use Rattle.dpl_agreement.specs.Renamed.{renamed_program}
use Rattle.dpl_agreement.specs.Scopes.{fits_all}
use Rattle.dpl_agreement.specs.Untasked.{UntaskedStmts}
use Rattle.dpl_spelling.specs.Spelt.{StmtsSpelt}
use Rattle.dpl_rules.specs.Sights.{Scopes}
use Rattle.dpl_rules.specs.Breaches.{top, top_sight, stmts_breaches, first_breach}
use Rattle.dpl_rules.specs.Sound.{behind_all, sets_fit, refusal}
use Rattle.dpl_rules.proofs.Soundness.{sound_exactly}
use Rattle.dpl_rules.specs.Foralls.{all_foralls}
use Rattle.dpl_lowered.specs.LoweredStatements.{lowered_program}
use Rattle.dpl_memory.specs.Memory.{known_variable, in_memory}
use Rattle.dpl_memory.specs.Resolved.{variable_of, Start, first_memory, first_seen, resolving}
use Rattle.dpl_standing.specs.Standing.{Outside, AllMayStand}
use Rattle.dpl_standing.specs.Written.{first_in_body}
use Rattle.dpl_readings.specs.Readings.{steps_in}
use Rattle.dpl_readings.specs.Written.{slot_of, written_among}
use Rattle.dpl_readings.proofs.Standing.{steps_in-of}
use Rattle.dpl_nodes.specs.Spots.{IsNear}
use Rattle.dpl_nodes.specs.Roots.{slot_by}
use Rattle.dpl_nodes.specs.Typed.{range_item, domain_view}
use Rattle.dpl_nodes.specs.Steps.{listed, steps_of}
use Rattle.dpl_nodes.specs.declared.step.Step.{Step}
use Rattle.dpl_nodes.specs.declared.tree.DomainExpr.{DomainExpr}
use Rattle.dpl_nodes.specs.declared.tree.RangeExpr.{RangeExpr}
use Rattle.dpl_nodes.proofs.Underived.{item-underived}
use Rattle.dpl_places.specs.Statements.{stmts_places}
use Rattle.dpl_places.specs.Rising.{IsRising}
use Rattle.dpl_places.proofs.Programs.{foralls-rising}
use Rattle.dpl_says.specs.Given.{given}
use Rattle.dpl_given.specs.Words.{words_in}
use Rattle.dpl_bound.specs.Bounds.{bound_program, slots_of}
use Rattle.dpl_runnable.specs.Runnable.{AreRunnableTops}
use Rattle.dpl_runnable.proofs.Texts.{program-spelled}
use Rattle.dpl_run.specs.Entered.{entered_all, Pairwise}
use Rattle.dpl_run.specs.Recorded.{loop_of}
use Rattle.dpl_run.specs.Dealing.{IsDealtAlike, DealsAsMeant, IsDealtAsCounted, DealsAsCounted}
use Rattle.dpl_run.proofs.CountedAt.{count-at}
use Rattle.dpl_run.specs.Plans.{start_of, IsPlan}
use Rattle.dpl_run.proofs.Planned.{plan-resolves, planned, sets-fit}
use Rattle.dpl_run.proofs.Standing.{plan-stands}
use Rattle.dpl_run.proofs.Meaning.{alike}
use Rattle.dpl_run.proofs.Runnable.{unbroken, walk-unbroken}
use Rattle.dpl_run.proofs.TurnsMap.{turns-dealt}
use Rattle.dpl_run.proofs.Recorded.{loops-entered}

-- ---- a forall as a typed statement: over a range its turns are dealt out as over no name, over a domain by the name that the call is handed
pub range-origin : (r : RangeExpr) → slot_by (derived_item (range_item r)) ≡ None
range-origin r = item-underived r

pub domain-origin : (d : DomainExpr) → slot_by (derived_item (One (domain_view d))) ≡ slot_by (derived_from (domain_view d))
domain-origin d = refl

pub body-written : (ts : _) → first_in_body slot_of (listed ts) ≡ written_among ts
body-written ts = refl

-- ---- a program and its plan
abbrev start_by : ProgramTree Text → List (List ℕ) → ℕ → Scopes → Start
start_by t sets slots scopes = record { slots = slots; cells = 0; texts = given t sets; words = words_in scopes sets; histories = None }

pub program-deals : (t : ProgramTree Text) (sets : List (List ℕ)) (limits : Limits) (slots : ℕ) (scopes : Scopes) (steps : List Step) → StmtsSpelt IsNear ⊥ t.stmts → UntaskedStmts t.stmts → stmts_breaches top_sight t.stmts ≡ []
    → fits_all (resolving (start_by t sets slots scopes)) (bound_program t).stmts first_seen
    → (lowered_program known_variable (renamed_program variable_of (bound_program t))).stmts ≡ steps_of steps → AllMayStand Outside (steps_of steps) → DealsAsMeant t sets limits slots scopes steps
program-deals t sets limits slots scopes steps spelt untasked unbroken fit nodes stands layout histories =
    subst (λ us. Pairwise (IsDealtAlike layout limits (all_foralls top t.stmts)) (entered_all limits by_name t.stmts (first_state (given t sets) histories) no_deeds)
    (entered_all limits in_memory us (first_memory (start_of slots scopes sets)) no_deeds)) (nodes ∙ sym (steps_in-of Outside steps stands))
    (turns-dealt layout limits (start_by t sets slots scopes) t.stmts histories spelt untasked unbroken tt fit (ap (λ (p : ProgramTree Text). p.stmts) (program-spelled t)))

-- ---- a program that has no refusal
pub plan-deals : (t : ProgramTree Text) (sets : List (List ℕ)) (limits : Limits) (slots : ℕ) (scopes : Scopes) (steps : List Step) → StmtsSpelt IsNear ⊥ t.stmts → UntaskedStmts t.stmts → refusal t sets ≡ None
    → (lowered_program known_variable (renamed_program variable_of (bound_program t))).stmts ≡ steps_of steps
    → AreRunnableTops top t.stmts → slots ≡ slots_of t → scopes ≡ behind_all top t.stmts → DealsAsMeant t sets limits slots scopes steps
plan-deals t sets limits slots scopes steps spelt untasked unrefused nodes runs count behind =
    let sound = (sound_exactly t).1 (unbroken (first_breach t) (sets_fit (behind_all top t.stmts) [] sets) unrefused) in
    let plan : IsPlan t slots scopes steps = planned t slots scopes steps runs nodes count behind in
    program-deals t sets limits slots scopes steps spelt untasked (walk-unbroken t sound)
    (plan-resolves t slots scopes runs count behind (start_by t sets slots scopes) refl (alike t sets slots scopes steps plan (sets-fit t sets unrefused))) nodes
    (plan-stands t sets slots scopes steps plan untasked unrefused)

-- ---- the foralls that are counted: those on record, which are those that the run by names enters
pair-map : {A B C : Type 0} (R : A → C → Type 0) (Q : B → C → Type 0) (f : A → B) → ((x : A) (z : C) → R x z → Q (f x) z)
    → (xs : List A) (zs : List C) → Pairwise R xs zs → Pairwise Q (map f xs) zs
pair-map R Q f h [] [] p = tt
pair-map R Q f h [] (z ∷ zs) p = absurd p
pair-map R Q f h (x ∷ xs) [] p = absurd p
pair-map R Q f h (x ∷ xs) (z ∷ zs) p = (h x z p.0, pair-map R Q f h xs zs p.1)

pub counted-dealt : (t : ProgramTree Text) (sets : List (List ℕ)) (limits : Limits) (slots : ℕ) (scopes : Scopes) (steps : List Step)
    → UntaskedStmts t.stmts → IsRising (stmts_places t.stmts) → DealsAsMeant t sets limits slots scopes steps → DealsAsCounted t sets limits slots scopes steps
counted-dealt t sets limits slots scopes steps untasked rising deals layout histories =
    let fs = all_foralls top t.stmts in
    let run = entered_all limits in_memory (steps_in Outside steps) (first_memory (start_of slots scopes sets)) no_deeds in
    subst (λ loops. Pairwise (IsDealtAsCounted layout limits fs) loops run) (sym (loops-entered t untasked (given t sets) limits histories))
    (pair-map (IsDealtAlike layout limits fs) (IsDealtAsCounted layout limits fs) loop_of
    (λ e r d. record {
      forall = d.forall;
      among = d.among;
      at = d.at;
      at_run = d.at_run;
      ranges = d.ranges;
      map = d.map;
      counted = count-at layout (loop_of e) fs d.forall (foralls-rising t.stmts top rising) d.among d.at;
    })
    (entered_all limits by_name t.stmts (first_state (given t sets) histories) no_deeds) run (deals layout histories))
