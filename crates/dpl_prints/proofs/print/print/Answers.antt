-- What is shown of all arguments is what is printed.
use Rattle.std.proofs.Common.{Some, ◌++◌, map, sym, ap, subst, ◌∙◌}
use Rattle.dpl_language.specs.Writing.{arguments_of}
use Rattle.dpl_tree.specs.Declarations.{optional}
use Rattle.dpl_tree.specs.Statements.{arguments_view, written_view}
use Rattle.dpl_rules.specs.Deeds.{APrint, held}
use Rattle.dpl_rules.specs.Doings.{arguments_deeds}
use Rattle.dpl_deeds.specs.View.{deed_view}
use Rattle.dpl_deeds.proofs.Steps.{added_then}
use Rattle.dpl_prints.specs.Plain.{ArePlainArguments}
use Rattle.dpl_prints.proofs.Printing.{print-made}
use Rattle.dpl_prints.proofs.print.print.Goals as goal

pub returns-clause-node : goal.returns-clause-node
returns-clause-node c = λ none plain.
    let ss = c.args.scopes.now in
    let some = subst (λ o. ArePlainArguments ss (arguments_of (optional arguments_view o))) c.in-Some.is plain.1 in
    print-made ss (written_view c.args.written.now) (Some (arguments_view c.in-Some.some)) c.in-Ok-arguments.shown (ap (optional arguments_view) c.in-Some.is) (c.in-Ok-arguments.ensures.node none plain.0 some)

pub returns-clause-deeds : goal.returns-clause-deeds
returns-clause-deeds c =
    let ss = c.args.scopes.now in
    let before = map deed_view c.args.deeds.now.items in
    let print = held c.args.written.now.at APrint in
    c.in-Ok-arguments.ensures.deeds
    ∙ added_then before (map deed_view c.held.new.deeds.items) print (arguments_deeds ss (arguments_of (Some (arguments_view c.in-Some.some)))) c.in-Ok.ensures
    ∙ ap (λ xs. before ++ (print ++ arguments_deeds ss (arguments_of (optional arguments_view xs)))) (sym c.in-Some.is)
