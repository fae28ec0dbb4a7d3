-- How a run over words from no output ends.
-- What was to come to it is told by what it made; its statements are calm but for foralls, so it does the same from a memory to which nothing comes.
use Rattle.std.proofs.Common.{◌≡◌, ⊎_elim, ℕ, List, [], map, None, Result, Ok, Err, refl, sym, ap, ◌∙◌, subst}
use Rattle.std.specs.Prelude.{◌++◌, ◌∷◌}
use Rattle.dpl_language.specs.Values.{Fault as Meant}
use Rattle.dpl_language.specs.Outcome.{Deeds, no_deeds, Outcome, Done as DoneAt, Stop as StopAt, Waits}
use Rattle.dpl_language.specs.Environment.{Limits}
use Rattle.dpl_language.specs.Statements.{exec_all}
use Rattle.dpl_language.specs.Names.{Text, Frame}
use Rattle.dpl_language.specs.Program.{settled, fault_text, line_ended}
use Rattle.dpl_rules.specs.Sights.{Scopes}
use Rattle.dpl_memory.specs.Memory.{VariableKind, PlainKind, DomainKind, TupleKind, ArrayKind, CellKind, Coming, Memory, in_memory}
use Rattle.dpl_memory.specs.Resolved.{Sighted, content_in, entry_in, frame_in}
use Rattle.dpl_frame.specs.declared.fault.Fault.{Fault}
use Rattle.dpl_frame.specs.Faults.{fault_view}
use Rattle.dpl_loop.specs.declared.stop.RunStop.{RunStop}
use Rattle.dpl_loop.specs.declared.stop.RunStop.TheVariants as stop
use Rattle.dpl_standing.specs.Standing.{Outside}
use Rattle.dpl_nodes.specs.declared.step.Step.{Step}
use Rattle.dpl_readings.specs.Readings.{steps_in}
use Rattle.dpl_coming.specs.Taken.{nothing, with_coming, ends_with, before}
use Rattle.dpl_coming.specs.Walks.{Outside as OutsideTasks, Walks}
use Rattle.dpl_coming.proofs.CalmSteps.{steps-calm}
use Rattle.dpl_coming.proofs.Coming.{exec_all-coming}
use Rattle.dpl_program.specs.Printed.{by_text}
use Rattle.dpl_outcome.specs.declared.outcome.Outcome.TheVariants.{Done, Stopped}
use Rattle.dpl_run.specs.TopLevel.{sighted_in}
use Rattle.dpl_outcome.specs.Names.{names_of}
use Rattle.dpl_run.specs.Runs.{RanTo}

-- WHAT NAMES HOLD hangs on nothing that is to come
content-unseen : (rest : Coming) (k : VariableKind) (slot : ℕ) (s : Memory) → content_in {N = Text} k slot None (with_coming rest s) ≡ content_in k slot None s
content-unseen rest (PlainKind l) slot s = refl
content-unseen rest DomainKind slot s = refl
content-unseen rest TupleKind slot s = refl
content-unseen rest (ArrayKind k) slot s = refl
content-unseen rest (CellKind k) slot s = refl

frame-unseen : (rest : Coming) (bs : List Sighted) (s : Memory) → frame_in (with_coming rest s) bs ≡ frame_in s bs
frame-unseen rest [] s = refl
frame-unseen rest (b ∷ bs) s =
    ap (λ c. record { name = b.text; content = c } ∷ frame_in (with_coming rest s) bs) (content-unseen rest b.kind b.slot s) ∙ ap (λ es. entry_in s b ∷ es) (frame-unseen rest bs s)

-- THE SAME END with nothing to come
done-settled : (rest : Coming) (o : Outcome Memory) (s : Memory) (made : Deeds) → settled (ends_with rest o) ≡ DoneAt s made → (last : Memory) × (settled o ≡ DoneAt last made) × (with_coming rest last ≡ s)
done-settled rest (DoneAt last done) s made e =
    let same : done ≡ made = cc in
    let there : with_coming rest last ≡ s = cc in
    (last, ap (DoneAt last) same, there)
done-settled rest (StopAt f done) s made e = absurd cc
done-settled rest (Waits at c op done) s made e = absurd cc

stop-settled : (rest : Coming) (o : Outcome Memory) (f : Meant) (made : Deeds) → settled (ends_with rest o) ≡ StopAt f made → settled o ≡ StopAt f made
stop-settled rest (DoneAt s done) f made e = absurd cc
stop-settled rest (StopAt g done) f made e = e
stop-settled rest (Waits at c op done) f made e = e

module _ (may : Type 0) (limits : Limits) (steps : List Step) (words last : Memory) (none out : List ℕ) where
  abbrev Walked : Result (Unit {0}) RunStop → Type 0
  Walked r = Walks may OutsideTasks (λ at c op. ⊥) r (by_text none) (by_text out) words last (exec_all limits in_memory (steps_in Outside steps))

  -- a run that a gate refused
  pub refused-may : (h : RunStop) → h ≡ stop.Gate → Walked (Err h) → may
  refused-may h is walked = ⊎_elim (λ m. m) (λ stuck. absurd stuck.3) ((subst (λ h. Walked (Err h)) is walked).ends nothing no_deeds refl)

  module _ (scopes : Scopes) (empty : none ≡ []) where
    abbrev ended : Outcome Memory
    ended = exec_all limits in_memory (steps_in Outside steps) words no_deeds

    calm : (rest : Coming) → exec_all limits in_memory (steps_in Outside steps) (with_coming rest words) no_deeds ≡ ends_with rest ended
    calm rest = exec_all-coming (Unit {0}) rest limits (steps_in Outside steps) words no_deeds (steps-calm (Unit {0}) Outside (λ is. tt) steps)

    printed : (made : Deeds) → out ≡ none ++ made.text → out ≡ made.text
    printed made told = told ∙ ap (λ t. t ++ made.text) empty

    pub ran-done : (v : Unit {0}) (left : Frame) → Walked (Ok v) → left ≡ frame_in last (map (sighted_in scopes) (names_of scopes)) → RanTo scopes (settled ended) (Done left) out
    ran-done v left k are =
        let rest = before k.made nothing in
        let names = map (sighted_in scopes) (names_of scopes) in
        let there = done-settled rest ended (with_coming nothing last) k.made (ap settled (sym (calm rest)) ∙ k.ends nothing no_deeds refl) in (
          there.0,
          k.made,
          there.1,
          printed k.made (k.known tt).0,
          (k.known tt).1,
          are ∙ sym (frame-unseen nothing names last) ∙ sym (ap (λ m. frame_in m names) there.2) ∙ frame-unseen rest names there.0,
        )

    pub ran-stop : (h : RunStop) (fault : Fault) (said : List ℕ) → h ≡ stop.Fault fault → Walked (Err h) → said ≡ out ++ line_ended out ++ fault_text (fault_view fault) ++ 10 ∷ []
        → RanTo scopes (settled ended) (Stopped fault) said
    ran-stop h fault said is walked says =
        let k = subst (λ h. Walked (Err h)) is walked in
        let rest = before k.made nothing in
        let text = printed k.made (k.known tt).0 in (
          k.made,
          stop-settled rest ended (fault_view fault) k.made (ap settled (sym (calm rest)) ∙ k.ends nothing no_deeds refl),
          says ∙ ap (λ t. t ++ line_ended t ++ fault_text (fault_view fault) ++ 10 ∷ []) text,
          (k.known tt).1,
        )
