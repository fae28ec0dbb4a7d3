-- One argument's text is printed, and then those behind it.
use Rattle.std.proofs.lemmas.Result.{err_from_is_err_and}
use Rattle.dpl_values.specs.Reductions.{MayRefuseReduction}
use Rattle.dpl_values.proofs.Telling.{refused-within}
use Rattle.dpl_values.specs.Arguments.{EachInArgument, EachInArguments}
use Rattle.dpl_print.proofs.Growing.{each-argument, texts-step, texts-halt}
use Rattle.dpl_print.proofs.print.show_all.Goals as goal

pub returns-in_err-show : goal.returns-in_err-show
returns-in_err-show g c =
    let may = g.G.Gate.may_refuse c.args.gate.now in
    let f = c.args.frame.now in
    let p = err_from_is_err_and c.from_residual.result c.from_residual.ensures.1 in
    rw (p.1, p.2)
    (texts-halt c.args.frame.now.limits (MayRefuseReduction may f (EachInArgument c.argument-item.result)) _ c.args.arguments.now c.loop-argument.argument-index c.argument-item.result c.args.frame.now.memory c.args.out.now.items c.loop-argument.out.items c.show.new.out.items c.in_err-show.field-0.0
    (refused-within may f (EachInArgument c.argument-item.result) (EachInArguments c.args.arguments.now) (λ Holds. each-argument c.args.arguments.now c.loop-argument.argument-index c.argument-item.result Holds c.loop-argument-test.true c.argument-item.is))
    c.loop-argument-test.true c.argument-item.is c.in_err-show.ensures c.loop-argument.invariant)

pub loop-argument-preserved : goal.loop-argument-preserved
loop-argument-preserved g c =
    texts-step c.args.frame.now.limits c.args.arguments.now c.loop-argument.argument-index c.argument-item.result c.args.frame.now.memory c.args.out.now.items c.loop-argument.out.items c.show.new.out.items
    c.loop-argument-test.true c.argument-item.is c.in_ok-show.ensures c.loop-argument.invariant
