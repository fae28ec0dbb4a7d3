-- The turns of the whole domain, of which those of others do nothing, are those of the part.
-- These are the answers to the goals of `owned_turns`.
use Rattle.std.proofs.Common.{sym}
use Rattle.dpl_sets.specs.Indices.{indices}
use Rattle.dpl_map.specs.Maps.{owner}
use Rattle.dpl_map.specs.Parts.{part}
use Rattle.dpl_loop.proofs.Ends.{ends-alike}
use Rattle.dpl_workers.proofs.OwnIndices.{owned-order}
use Rattle.dpl_workers.proofs.owned.owned_turns.Goals as goal

pub returns-clause-ends : goal.returns-clause-ends
unfolding part
returns-clause-ends g c done =
    let turn = g.T.Turns.turn c.args.site.now.turns.now c.args.frame.now.limits in
    let ts = indices c.args.site.now.whole.now in
    ends-alike _ c.turns_of.result c.turns_of.new.frame.memory done _ _
    (sym (owned-order (owner c.args.site.now.map.now) c.args.locale turn ts c.args.frame.now.memory done)) (c.turns_of.ensures.ends done)
