-- The run of the steps, from the memory with what the sets give, is what the program means.
use Rattle.std.proofs.Common.{◌≡◌, ◌∙◌, None, [], map, sym, ap, subst}
use Rattle.dpl_language.specs.Outcome.{no_deeds}
use Rattle.dpl_language.specs.Program.{settled}
use Rattle.dpl_language.specs.Statements.{exec_all}
use Rattle.dpl_tree.specs.Statements.{program_view}
use Rattle.dpl_rules.specs.Breaches.{top}
use Rattle.dpl_memory.specs.Memory.{in_memory}
use Rattle.dpl_memory.specs.Resolved.{first_memory}
use Rattle.dpl_nodes.specs.Steps.{steps_of}
use Rattle.dpl_standing.specs.Standing.{Outside}
use Rattle.dpl_readings.specs.Readings.{steps_in}
use Rattle.dpl_readings.proofs.Standing.{steps_in-of}
use Rattle.dpl_frame.specs.Frames.{Framed}
use Rattle.dpl_typed.proofs.Standing.{if_ok}
use Rattle.dpl_run.specs.TopLevel.{AreLeft}
use Rattle.dpl_run.specs.Plans.{start_of}
use Rattle.dpl_run.specs.Runs.{RanTo}
use Rattle.dpl_outcome.specs.Settings.{limits_of}
use Rattle.dpl_run.proofs.Declared.{top-left, tops-left}
use Rattle.dpl_run.proofs.Elsewhere.{runs-anywhere}
use Rattle.dpl_run.proofs.Meaning.{means-ran}
use Rattle.dpl_run.proofs.Planned.{sets-fit}
use Rattle.dpl_run.proofs.Runnable.{program-untasked, program-runs}
use Rattle.dpl_run.proofs.Stages.{program-unrefused}
use Rattle.dpl_run.proofs.Standing.{plan-stands}
use Rattle.dpl_run.proofs.run.run_to_end.Goals as goal

pub returns-clause-runs : goal.returns-clause-runs
returns-clause-runs g c =
    let p = c.args.checked.now in
    let is = c.requires in
    let t = program_view p.program.value in
    let sets = map (λ set. set.now) p.sets.now in
    let text = is.unrefused.0 in
    let program = is.unrefused.1 in
    let unrefused = program-unrefused text sets t program in
    let steps = p.steps.items in
    let f = c.in_ok-frame.frame in
    let limits = limits_of c.args.config.now in
    let start = start_of p.slots p.scopes sets in
    let same-limits : f.limits ≡ limits = ap (λ (f : Framed). f.limits) c.in_ok-frame.ensures in
    let same-memory : f.memory ≡ first_memory start =
    ap (λ (f : Framed). f.memory) c.in_ok-frame.ensures
    ∙ ap (λ ws. first_memory (record { slots = p.slots; cells = 0; texts = []; words = ws; histories = None })) (c.deref.ensures.value ∙ is.given) in
    let read : steps_in Outside steps ≡ steps_of steps =
    steps_in-of Outside steps (plan-stands t sets p.slots p.scopes steps is.plan (program-untasked text sets t program) unrefused) in
    if_ok c.run.result
    (λ ended ran.
    let left = subst AreLeft (sym is.plan.behind) (tops-left t.stmts top (program-runs text sets t program) top-left) in
    let from = subst (λ ss. RanTo p.scopes (settled (exec_all f.limits in_memory (steps_in Outside ss) f.memory no_deeds)) ended.outcome ended.text.items) c.deref-2.ensures.value
    (ran is.plan.plain left) in
    let there =
    subst (λ ts. RanTo p.scopes (settled (exec_all limits in_memory ts (first_memory start) no_deeds)) ended.outcome ended.text.items) read
    (subst (λ m. RanTo p.scopes (settled (exec_all limits in_memory (steps_in Outside steps) m no_deeds)) ended.outcome ended.text.items) same-memory
    (subst (λ l. RanTo p.scopes (settled (exec_all l in_memory (steps_in Outside steps) f.memory no_deeds)) ended.outcome ended.text.items) same-limits from)) in
    runs-anywhere text sets t program limits ended.outcome ended.text.items
    (λ histories. means-ran t sets p.slots p.scopes steps is.plan (sets-fit t sets unrefused) limits histories ended.outcome ended.text.items there))
    c.run.ensures.ends
