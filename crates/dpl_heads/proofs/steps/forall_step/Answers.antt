-- The body is seen statement by statement.
use Rattle.std.proofs.Common.{sym, ap, ◌∙◌, map}
use Rattle.dpl_language.specs.Tree.{Loop, ForallWord}
use Rattle.dpl_lowered.specs.Shapes.{nowhere}
use Rattle.dpl_lowered.specs.LoweredStatements.{with_intents}
use Rattle.dpl_nodes.specs.declared.step.Names.TheVariants as names
use Rattle.dpl_nodes.specs.Steps.{listed, intent_view, names_view, steps_of}
use Rattle.dpl_nodes.proofs.Rows.{steps_view-row}
use Rattle.dpl_heads.specs.declared.head.Iterable.TheVariants as iterable
use Rattle.dpl_heads.specs.Made.{over_item}
use Rattle.dpl_heads.proofs.steps.forall_step.Goals as goal

pub returns-in-Int : goal.returns-in-Int
returns-in-Int c = λ fits.
    let range = iterable.Range c.in-Range.range in
    let is = with_intents (map intent_view c.args.changed.now.reduced.now) in
    ap (λ row. Loop ForallWord c.args.at.now (names_view (names.Int c.in-Int.slot)) nowhere (over_item range) is (listed row)) (steps_view-row c.args.body.now)
    ∙ ap (λ n. Loop ForallWord c.args.at.now (names_view n) nowhere (over_item range) is (listed (steps_of c.args.body.now))) (sym c.in-Int.is)
    ∙ ap (λ o. Loop ForallWord c.args.at.now (names_view c.args.names) nowhere (over_item o) is (listed (steps_of c.args.body.now))) (sym c.in-Range.is)

pub returns-in-Domain : goal.returns-in-Domain
returns-in-Domain c = λ fits.
    let domain = iterable.Domain c.in-Domain.domain in
    let is = with_intents (map intent_view c.args.changed.now.reduced.now) in
    ap (λ row. Loop ForallWord c.args.at.now (names_view c.args.names) nowhere (over_item domain) is (listed row)) (steps_view-row c.args.body.now)
    ∙ ap (λ o. Loop ForallWord c.args.at.now (names_view c.args.names) nowhere (over_item o) is (listed (steps_of c.args.body.now))) (sym c.in-Domain.is)
