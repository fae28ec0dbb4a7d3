-- What is done directly is what the language's meaning does, whatever is noted and to come.
-- These are the answers to the goals of the statements that are done directly.
use Rattle.std.proofs.Common.{◌≡◌, true, false, Ok, None, rules, sym, subst, ap, ◌∙◌, w64, FitsSigned}
use Rattle.std.proofs.lemmas.Int.{to_z-of_z}
use Rattle.dpl_language.specs.Tree.{One, ExprTree, Stmts, Else}
use Rattle.dpl_language.specs.Values.{Truth}
use Rattle.dpl_language.specs.Outcome.{Done}
use Rattle.dpl_language.specs.Statements.{exec}
use Rattle.dpl_memory.specs.Memory.{in_memory}
use Rattle.dpl_frame.specs.Frames.{Framed}
use Rattle.dpl_nodes.specs.declared.step.Step.TheVariants as step
use Rattle.dpl_nodes.specs.Typed.{int_view, truth_view}
use Rattle.dpl_nodes.proofs.Unread.{cell_read-int}
use Rattle.dpl_readings.specs.Readings.{step_in, else_in, steps_in}
use Rattle.dpl_readings.proofs.Views.{if_in}
use Rattle.dpl_elements.specs.Changes.{ends_as}
use Rattle.dpl_elements.proofs.Changing.{exec-int}
use Rattle.dpl_coming.specs.Calm.{IsCalm}
use Rattle.dpl_coming.specs.Noting.{noting}
use Rattle.dpl_coming.specs.Walks.{with_rest}
use Rattle.dpl_coming.proofs.CalmSteps.{simple-calm}
use Rattle.dpl_coming.proofs.Unseen.{exec-calm-done, value-unseen}
use Rattle.dpl_simple.proofs.Noted.{then-noted, else-noted}
use Rattle.dpl_simple.proofs.direct.+direct.Goals as goal

pub direct_statement-returns-in-Some-clause-done : goal.direct_statement-returns-in-Some-clause-done
direct_statement-returns-in-Some-clause-done g t c is w note site rest done =
    let limits = c.args.frame.now.limits in
    let s = c.args.frame.now.memory in
    let fits : FitsSigned w64 c.in-Some.number = search rules in
    let set = simp to_z-of_z at c.set_number.ensures in
    let form = step.Int c.in-Int.deed c.in-Int.slot c.in-Int.e in
    ap (λ t. exec limits (noting note) (step_in w t) (with_rest site rest s) done) c.in-Int.is
    ∙ exec-calm-done limits site rest note (step_in w form) s _ done (simple-calm ⊥ w form tt)
    (exec-int limits c.in-Int.deed c.in-Int.slot (One (int_view c.in-Int.e.now)) s done (cell_read-int c.in-Int.e.now)
    ∙ ap (λ m. ends_as m done) c.in-Some.ensures
    ∙ ap (λ (f : Framed). Done f.memory done) (sym set))

pub direct_branch-returns-then-met-clause-done : goal.direct_branch-returns-then-met-clause-done
direct_branch-returns-then-met-clause-done g t c is w note site rest done =
    let limits = c.args.frame.now.limits in
    let s = c.args.frame.now.memory in
    let e = truth_view c.in-If.condition.now in
    let holding : c.in-Some.met ≡ true = search rules in
    ap (λ t. exec limits (noting note) (step_in w t) (with_rest site rest s) done) c.in-If.is
    ∙ ap (λ t. exec limits (noting note) t (with_rest site rest s) done) (if_in w c.in-If.condition c.in-If.body c.in-If.otherwise)
    ∙ then-noted limits note e (steps_in w c.in-If.body.now) (else_in w c.in-If.otherwise) (with_rest site rest s) done
    (value-unseen limits site rest e None s ∙ c.in-Some.ensures ∙ ap (λ b. Ok (Truth b)) holding)
    ∙ c.direct_sole.ensures.done is w note site rest done

pub direct_branch-returns-else-met-clause-done : goal.direct_branch-returns-else-met-clause-done
direct_branch-returns-else-met-clause-done g t c is w note site rest done =
    let limits = c.args.frame.now.limits in
    let s = c.args.frame.now.memory in
    let e = truth_view c.in-If.condition.now in
    let holding : c.in-Some.met ≡ false = search rules in
    ap (λ t. exec limits (noting note) (step_in w t) (with_rest site rest s) done) c.in-If.is
    ∙ ap (λ t. exec limits (noting note) t (with_rest site rest s) done) (if_in w c.in-If.condition c.in-If.body c.in-If.otherwise)
    ∙ else-noted limits note e (steps_in w c.in-If.body.now) (else_in w c.in-If.otherwise) (with_rest site rest s) done
    (value-unseen limits site rest e None s ∙ c.in-Some.ensures ∙ ap (λ b. Ok (Truth b)) holding)
    ∙ c.direct_else.ensures.done is w note site rest done
