-- What is evaluated at the index goes into the element, and the change ends the turn.
use Rattle.std.proofs.Common.{FitsSigned, w64, rules, ap}
use Rattle.std.proofs.lemmas.Int.{to_z-of_z}
use Rattle.dpl_language.specs.Tree.{IntKind}
use Rattle.dpl_language.specs.Outcome.{with_value}
use Rattle.dpl_language.specs.Assignments.{change}
use Rattle.dpl_memory.specs.Memory.{in_memory}
use Rattle.dpl_nodes.specs.Steps.{array_leaf}
use Rattle.dpl_elements.specs.Changes.{signed}
use Rattle.dpl_loop.proofs.Ends.{ends-alike}
use Rattle.dpl_elements.proofs.whole.PromoteTurns.make.Goals as goal

pub returns-clause-ends : goal.returns-clause-ends
returns-clause-ends g c done =
    let turns = c.args.self.now in
    let f = c.args.frame.now in
    let fits : FitsSigned w64 c.in_ok-value.value = search rules in
    let changed = simp to_z-of_z at (c.change.ensures.ends done) in
    ends-alike _ c.change.result c.change.new.frame.memory done _ _
    (ap (λ r. with_value r (change f.limits in_memory (array_leaf IntKind turns.name.now) (signed turns.op turns.sign.now) c.args.index) f.memory done) c.in_ok-value.ensures)
    changed
