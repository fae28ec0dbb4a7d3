-- A change ends the run as the memory after it does.
-- These are the answers to the goals of `truth`.
use Rattle.std.proofs.Common.{ap, ◌∙◌}
use Rattle.dpl_language.specs.Tree.{One}
use Rattle.dpl_language.specs.Statements.{exec}
use Rattle.dpl_memory.specs.Memory.{in_memory}
use Rattle.dpl_nodes.specs.Typed.{truth_view}
use Rattle.dpl_nodes.specs.Steps.{truth_stated}
use Rattle.dpl_nodes.proofs.Unread.{cell_read-truth}
use Rattle.dpl_loop.proofs.Ends.{ends-alike}
use Rattle.dpl_elements.proofs.Changing.{gives-ends, exec-truth}
use Rattle.dpl_simple.proofs.simple.truth.Goals as goal

pub returns-in-Slot-clause-ends : goal.returns-in-Slot-clause-ends
returns-in-Slot-clause-ends g c done =
    let limits = c.args.frame.now.limits in
    let s = c.args.frame.now.memory in
    let e = c.args.e.now in
    gives-ends _ c.change_truth.result c.change_truth.new.frame.memory done _ _
    (ap (λ t. exec limits in_memory (truth_stated t (truth_view e)) s done) c.in-Slot.is ∙ exec-truth limits c.in-Slot.deed c.in-Slot.slot (One (truth_view e)) s done (cell_read-truth e))
    c.change_truth.ensures.memory

pub returns-in-Element-clause-ends : goal.returns-in-Element-clause-ends
returns-in-Element-clause-ends g c done =
    ends-alike _ c.set_truth_element.result c.set_truth_element.new.frame.memory done _ _
    (ap (λ t. exec c.args.frame.now.limits in_memory (truth_stated t (truth_view c.args.e.now)) c.args.frame.now.memory done) c.in-Element.is)
    (c.set_truth_element.ensures.ends done)
