-- Where each variable is there once, what is in sight stays known.
use Rattle.dpl_tree.specs.Statements.{variables_view}
use Rattle.dpl_scopes.specs.Types.{of_type}
use Rattle.dpl_typed.proofs.Standing.{on_both}
use Rattle.dpl_heads.proofs.Entered.{entered-known}
use Rattle.dpl_heads.proofs.variables.enter_loop.Goals as goal

pub returns-clause-known : goal.returns-clause-known
returns-clause-known c =
    on_both c.declared.result
    (λ scopes told. entered-known (variables_view c.args.variables.now) (of_type c.args.found) c.args.scopes.now c.enter.new.self c.declared.new.scopes c.args.first.now c.declared.new.first c.in-Ok.ensures.ok scopes told)
    c.declared.ensures.scopes c.declared.ensures.told
