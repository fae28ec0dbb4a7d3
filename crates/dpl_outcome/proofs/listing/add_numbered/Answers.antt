-- The line of the variable with the number, or nothing.
use Rattle.std.proofs.Common.{◌∙◌}
use Rattle.dpl_outcome.specs.Leaving.{variable_view}
use Rattle.dpl_outcome.proofs.Dumped.{numbered_some, numbered_none}
use Rattle.dpl_outcome.proofs.listing.add_numbered.Goals as goal

pub returns-in_ok-add-in-Some : goal.returns-in_ok-add-in-Some
returns-in_ok-add-in-Some c =
    c.in_ok-add-in-Some.ensures ∙ numbered_some c.args.text.now.items c.args.left.now c.args.number (variable_view c.in-Some.variable) c.in-Some.ensures

pub returns-in-None : goal.returns-in-None
returns-in-None c = numbered_none c.args.text.now.items c.args.left.now c.args.number c.in-None.ensures
