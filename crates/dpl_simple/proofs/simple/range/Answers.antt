-- A change ends the run as the memory after it does.
-- These are the answers to the goals of `range`.
use Rattle.std.proofs.Common.{refl}
use Rattle.dpl_elements.proofs.Changing.{gives-ends}
use Rattle.dpl_simple.proofs.simple.range.Goals as goal

pub returns-clause-ends : goal.returns-clause-ends
returns-clause-ends g c done = gives-ends _ c.declare_range.result c.declare_range.new.frame.memory done _ _ refl c.declare_range.ensures.memory
