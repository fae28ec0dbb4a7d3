-- The body is seen statement by statement.
use Rattle.std.proofs.Common.{◌≡◌, ap, ◌∙◌, subst}
use Rattle.dpl_language.specs.Tree.{Headed}
use Rattle.dpl_nodes.specs.Typed.{truth_view}
use Rattle.dpl_nodes.specs.Steps.{step_word, listed, steps_of}
use Rattle.dpl_nodes.proofs.Rows.{steps_view-row}
use Rattle.dpl_heads.specs.Made.{IsTruth}
use Rattle.dpl_heads.proofs.steps.headed_step.Goals as goal

pub returns-in-Some : goal.returns-in-Some
returns-in-Some c = λ e h.
    let b = c.in-Some.condition in
    let is : truth_view b.now ≡ e = subst (IsTruth e) c.in-Some.is h in
    ap (λ row. Headed (step_word c.args.word) c.args.at.now (truth_view b.now) (listed row)) (steps_view-row c.args.body.now)
    ∙ ap (λ x. Headed (step_word c.args.word) c.args.at.now x (listed (steps_of c.args.body.now))) is
