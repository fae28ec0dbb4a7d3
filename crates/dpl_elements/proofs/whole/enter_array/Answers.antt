-- The turns do nothing, so that only their entries tell of them.
use Rattle.std.proofs.Common.{sym, subst}
use Rattle.dpl_language.specs.Ranges.{indices_in}
use Rattle.dpl_frame.specs.Frames.{owned_by}
use Rattle.dpl_loop.specs.Entries.{MayRefuse}
use Rattle.dpl_elements.proofs.Dealing.{ends-wider}
use Rattle.dpl_elements.proofs.Made.{in_order-made}
use Rattle.dpl_elements.proofs.whole.enter_array.Goals as goal

pub returns-clause-ends : goal.returns-clause-ends
returns-clause-ends g c done =
    let f = c.args.frame.now in
    let may = g.C.Gate.may_refuse c.args.crew.now in
    let over = c.array_domain-domain in
    let map = c.owner-map in
    ends-wider _ _ c.make_whole.result c.make_whole.new.frame.memory done _ _
    (λ entry. subst (λ rs. MayRefuse may (owned_by f c.args.slot) rs) over.ensures (subst (λ map. MayRefuse may map over.result) map.ensures entry))
    (sym (in_order-made f.limits c.rank.result (indices_in over.result) f.memory done)) (c.make_whole.ensures.ends done)
