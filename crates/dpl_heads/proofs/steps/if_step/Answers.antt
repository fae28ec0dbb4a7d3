-- The body is seen statement by statement.
use Rattle.std.proofs.Common.{◌≡◌, ap, ◌∙◌, subst}
use Rattle.dpl_language.specs.Tree.{If}
use Rattle.dpl_lowered.specs.Shapes.{nowhere}
use Rattle.dpl_nodes.specs.Typed.{truth_view}
use Rattle.dpl_nodes.specs.Steps.{listed, steps_of, else_view}
use Rattle.dpl_nodes.proofs.Rows.{steps_view-row}
use Rattle.dpl_heads.specs.Made.{IsTruth}
use Rattle.dpl_heads.proofs.steps.if_step.Goals as goal

pub returns-in-Some : goal.returns-in-Some
returns-in-Some c = λ e h.
    let b = c.in-Some.condition in
    let is : truth_view b.now ≡ e = subst (IsTruth e) c.in-Some.is h in
    ap (λ row. If nowhere (truth_view b.now) (listed row) (else_view c.args.otherwise)) (steps_view-row c.args.body.now)
    ∙ ap (λ x. If nowhere x (listed (steps_of c.args.body.now)) (else_view c.args.otherwise)) is
