-- The first of several variables is declared, and then the others.
use Rattle.std.proofs.Common.{sym, ap, ◌∙◌}
use Rattle.dpl_tree.specs.View.{name_view}
use Rattle.dpl_tree.specs.Statements.{variables_view}
use Rattle.dpl_rules.specs.Breaches.{least_from}
use Rattle.dpl_rules.specs.Loops.{each_once, variables_of}
use Rattle.dpl_scopes.specs.Types.{of_type}
use Rattle.dpl_heads.specs.Listed.{names_in}
use Rattle.dpl_heads.proofs.Once.{variables_begin}
use Rattle.dpl_heads.proofs.Opened.{several-node}
use Rattle.dpl_heads.proofs.variables.declared.Goals as goal

pub returns-in-Ok-more_variables-clause-told : goal.returns-in-Ok-more_variables-clause-told
returns-in-Ok-more_variables-clause-told c =
    let t = of_type c.args.found in
    let ss = c.args.scopes.now in
    let o = c.args.first.now in
    let head = c.in-Ok-variable.ensures in
    let rest = c.in-Ok-more_variables.ensures in
    variables_begin t (name_view c.in-Many.head) (names_in c.in-Many.others.now) ss c.variable-in-Many.new.scopes o c.variable-in-Many.new.first c.more_variables.new.first head.scopes head.told rest.told
    ∙ ap (λ v. least_from o (each_once ss (variables_of (variables_view v)))) (sym c.in-Many.is)

pub returns-in-Ok-more_variables-clause-node : goal.returns-in-Ok-more_variables-clause-node
returns-in-Ok-more_variables-clause-node c =
    let m = c.in-Many in
    let head = c.in-Ok-variable in
    let rest = c.in-Ok-more_variables in
    several-node (of_type c.args.found) c.args.variables.now m.from m.upto m.head m.others c.args.scopes.now c.variable-in-Many.new.scopes head.slot rest.slots m.is head.ensures.scopes head.ensures.slot rest.ensures.slots
