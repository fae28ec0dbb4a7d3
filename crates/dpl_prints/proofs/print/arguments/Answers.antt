-- The first argument, and those behind it.
use Rattle.std.proofs.Common.{rules, ◌≡◌, [], ◌∷◌, ◌++◌, map, sym, ap, subst, ◌∙◌}
use Rattle.dpl_tree.specs.Statements.{argument_view}
use Rattle.dpl_rules.specs.Doings.{arguments_deeds}
use Rattle.dpl_deeds.specs.View.{deed_view}
use Rattle.dpl_typed.proofs.Standing.{if_ok, on_any}
use Rattle.dpl_prints.specs.Plain.{ArePlainArguments}
use Rattle.dpl_prints.specs.Told.{printed_told, arguments_in}
use Rattle.dpl_prints.specs.Made.{AreArgumentsAs}
use Rattle.dpl_prints.proofs.Doing.{argument-done}
use Rattle.dpl_prints.proofs.Printing.{arguments_next, arguments-made}
use Rattle.dpl_types.proofs.Unbroken.{unbroken}
use Rattle.dpl_prints.proofs.print.arguments.Goals as goal

pub returns-clause-node : goal.returns-clause-node
returns-clause-node c =
    let ss = c.args.scopes.now in
    let w = c.args.written.now in
    let a = argument_view w.first in
    let rest = arguments_in w.others.now in
    let same = arguments_next w.others.now in
    let empty : c.new-shown.result.items ≡ [] = search rules in
    if_ok c.list.result
    (λ r is. λ none known plain.
    let more = subst (ArePlainArguments ss) same plain.1 in
    let here = (unbroken c.argument.new.first (printed_told ss c.args.in_task rest) (sym c.in-Ok-more_arguments.ensures.told ∙ none)).0 in
    let made = arguments-made ss a rest c.new-shown.result.items c.push.new.shown.items c.more_arguments.new.shown.items c.in-Ok.made empty c.in-Ok-push.ensures (c.in-Ok.ensures.node here known plain.0)
    (c.in-Ok-more_arguments.ensures.node none known more) in
    subst (λ rest. AreArgumentsAs ss (a ∷ rest) r.now) (sym same) (subst (AreArgumentsAs ss (a ∷ rest)) (sym is) made))
    c.list.ensures

pub returns-clause-deeds : goal.returns-clause-deeds
returns-clause-deeds c =
    let ss = c.args.scopes.now in
    let w = c.args.written.now in
    let a = argument_view w.first in
    let before = map deed_view c.args.deeds.now.items in
    on_any c.list.result
    (c.in-Ok-more_arguments.ensures.deeds
    ∙ argument-done ss a (arguments_in w.others.now) before (map deed_view c.argument.new.deeds.items) c.in-Ok.ensures.deeds
    ∙ ap (λ rest. before ++ arguments_deeds ss (a ∷ rest)) (sym (arguments_next w.others.now)))
