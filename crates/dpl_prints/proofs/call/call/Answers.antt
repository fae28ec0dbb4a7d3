-- A call is held, and then does what its argument does.
use Rattle.std.proofs.Common.{rules, ◌≡◌, map, is_some, ap, ◌∙◌}
use Rattle.dpl_tree.specs.Statements.{call_view}
use Rattle.dpl_tree.specs.View.{name_view}
use Rattle.dpl_rules.specs.Expressions.{cell_declared}
use Rattle.dpl_rules.specs.Sights.{type_declared}
use Rattle.dpl_deeds.specs.View.{deed_view}
use Rattle.dpl_typed.proofs.Standing.{on_ok}
use Rattle.dpl_prints.proofs.Doing.{call-done}
use Rattle.dpl_prints.proofs.call.call.Goals as goal

pub returns-clause-deeds : goal.returns-clause-deeds
returns-clause-deeds c =
    let some : c.is_some.result ≡ is_some c.cell_in-kind.result = search rules in
    on_ok c.call_argument.result
    (λ added. call-done c.args.scopes.now (name_view c.args.written.now.name) (call_view c.args.written.now.call) c.is_some.result
    (map deed_view c.args.deeds.now.items) (map deed_view c.held_if.new.deeds.items) (map deed_view c.call_argument.new.deeds.items)
    (some ∙ ap is_some (c.cell_in-kind.ensures ∙ ap (λ d. cell_declared (type_declared d)) c.lookup-declared.ensures.declared)) c.in-Ok.ensures added)
    c.call_argument.ensures.deeds
