-- A change ends the run as the memory after it does.
-- These are the answers to the goals of `int`.
use Rattle.dpl_language.specs.Tree.{One}
use Rattle.dpl_nodes.specs.Typed.{int_view}
use Rattle.dpl_nodes.proofs.Unread.{cell_read-int}
use Rattle.dpl_elements.proofs.Changing.{gives-ends, exec-int}
use Rattle.dpl_simple.proofs.simple.int.Goals as goal

pub returns-clause-ends : goal.returns-clause-ends
returns-clause-ends g c done =
    let e = c.args.e.now in
    gives-ends _ c.change_int.result c.change_int.new.frame.memory done _ _
    (exec-int c.args.frame.now.limits c.args.deed.now c.args.slot (One (int_view e)) c.args.frame.now.memory done (cell_read-int e)) c.change_int.ensures.memory
