-- The body is seen statement by statement.
use Rattle.std.proofs.Common.{None, sym, ap, ◌∙◌}
use Rattle.dpl_language.specs.Tree.{Loop, ForWord}
use Rattle.dpl_lowered.specs.Shapes.{nowhere}
use Rattle.dpl_nodes.specs.declared.step.Names.TheVariants as names
use Rattle.dpl_nodes.specs.Steps.{listed, names_view, steps_of}
use Rattle.dpl_nodes.proofs.Rows.{steps_view-row}
use Rattle.dpl_heads.specs.declared.head.Iterable.TheVariants as iterable
use Rattle.dpl_heads.specs.Made.{over_item}
use Rattle.dpl_heads.proofs.steps.for_step.Goals as goal

pub returns-in-Int : goal.returns-in-Int
returns-in-Int c = λ fits.
    let range = iterable.Range c.in-Range.range in
    ap (λ row. Loop ForWord c.args.at.now (names_view (names.Int c.in-Int.slot)) nowhere (over_item range) None (listed row)) (steps_view-row c.args.body.now)
    ∙ ap (λ n. Loop ForWord c.args.at.now (names_view n) nowhere (over_item range) None (listed (steps_of c.args.body.now))) (sym c.in-Int.is)
    ∙ ap (λ o. Loop ForWord c.args.at.now (names_view c.args.names) nowhere (over_item o) None (listed (steps_of c.args.body.now))) (sym c.in-Range.is)

pub returns-in-Domain : goal.returns-in-Domain
returns-in-Domain c = λ fits.
    let domain = iterable.Domain c.in-Domain.domain in
    ap (λ row. Loop ForWord c.args.at.now (names_view c.args.names) nowhere (over_item domain) None (listed row)) (steps_view-row c.args.body.now)
    ∙ ap (λ o. Loop ForWord c.args.at.now (names_view c.args.names) nowhere (over_item o) None (listed (steps_of c.args.body.now))) (sym c.in-Domain.is)
