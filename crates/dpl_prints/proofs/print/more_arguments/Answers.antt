-- One argument more, and no more.
use Rattle.std.proofs.Common.{◌++◌, map, drop, refl, ◌∙◌, arith}
use Rattle.std.proofs.lemmas.List.{at_drop_all}
use Rattle.dpl_prints.specs.Told.{arguments_in}
use Rattle.dpl_deeds.specs.View.{deed_view}
use Rattle.dpl_rules.specs.Doings.{arguments_deeds}
use Rattle.dpl_prints.proofs.Doing.{done-step, all-done}
use Rattle.dpl_prints.proofs.Printing.{none-made, all-made, arguments-step}
use Rattle.dpl_prints.proofs.print.more_arguments.Goals as goal

pub loop-next-init : goal.loop-next-init
loop-next-init c = record {
  told = refl;
  plain = λ h. h;
  made = λ none known plain. none-made c.args.scopes.now c.args.shown.now.items (arguments_in c.args.others.now);
  done = refl;
}

pub loop-next-preserved : goal.loop-next-preserved
loop-next-preserved c =
    let at = c.loop-next in
    let step = arguments-step c.args.scopes.now c.args.others.now at.next-index _ c.loop-next-test.true c.args.in_task c.args.shown.now.items at.shown.items c.push.new.shown.items c.in-Ok.made at.first c.argument.new.first
    c.in-Ok.ensures.told c.in-Ok.ensures.node c.in-Ok-push.ensures at.invariant.plain at.invariant.made in
    let done = done-step c.args.scopes.now c.args.others.now at.next-index _ c.loop-next-test.true (map deed_view at.deeds.items) (map deed_view c.argument.new.deeds.items) c.in-Ok.ensures.deeds in
    record { told = step.0 ∙ at.invariant.told; plain = step.1; made = step.2; done = done ∙ at.invariant.done }

pub returns-clause-node : goal.returns-clause-node
returns-clause-node c = λ none known plain.
    let at = c.loop-next in
    let left = arguments_in c.args.others.now in
    all-made c.args.scopes.now c.args.shown.now.items left _ at.shown.items (at_drop_all arguments_in c.args.others.now at.next-index (omega arith)) (at.invariant.made none known plain)

pub returns-clause-deeds : goal.returns-clause-deeds
returns-clause-deeds c =
    let at = c.loop-next in
    let ss = c.args.scopes.now in
    all-done ss (arguments_in (drop at.next-index c.args.others.now)) (map deed_view c.args.deeds.now.items ++ arguments_deeds ss (arguments_in c.args.others.now)) (map deed_view at.deeds.items)
    (at_drop_all arguments_in c.args.others.now at.next-index (omega arith)) at.invariant.done
