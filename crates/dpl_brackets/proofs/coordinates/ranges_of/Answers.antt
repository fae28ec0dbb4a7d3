-- Three ranges.
use Rattle.std.proofs.Common.{ap, subst, ◌∙◌}
use Rattle.dpl_nodes.specs.Typed.{range_item, ranges_items}
use Rattle.dpl_typed.specs.Stands.{AreItems}
use Rattle.dpl_typed.proofs.Standing.{if_ok}
use Rattle.dpl_brackets.proofs.Parts.{list-three, items-of-three}
use Rattle.dpl_brackets.proofs.coordinates.ranges_of.Goals as goal

pub returns-in-len3 : goal.returns-in-len3
returns-in-len3 c =
    let a = c.a-item-then-parts-lt4 in
    let b = c.b-item-then-parts-lt4 in
    let d = c.c-item in
    let x = c.range_of-in-len3 in
    let y = c.range_of-in-len3-2 in
    let z = c.range_of-in-len3-3 in
    let three = list-three c.args.parts.now a.result b.result d.result c.in-len3.len_at_least c.in-len3.len_below a.is b.is d.is in
    if_ok c.node-in-len3.result
    (λ t e. λ is few seen.
    ap ranges_items e
    ∙ items-of-three a.result b.result d.result (range_item x.result.now) (range_item y.result.now) (range_item z.result.now) is x.ensures y.ensures z.ensures (subst (λ ps. AreItems ps is) three seen))
    c.node-in-len3.ensures
