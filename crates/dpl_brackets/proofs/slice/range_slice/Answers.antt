-- A rule that is met leaves one range, which cuts the other.
use Rattle.std.proofs.Common.{◌≡◌, ap, subst, ◌∙◌}
use Rattle.dpl_lowered.specs.Shapes.{stacked_on}
use Rattle.dpl_nodes.specs.declared.tree.RangeExpr.{Slice}
use Rattle.dpl_nodes.specs.Typed.{in_square, items_one, range_item, range_view, range_cuts_of}
use Rattle.dpl_nodes.proofs.Chains.{range_view-slice}
use Rattle.dpl_typed.specs.Stands.{AreItems}
use Rattle.dpl_typed.proofs.Standing.{if_ok, stands-same}
use Rattle.dpl_brackets.proofs.Parts.{list-one, items-of-one}
use Rattle.dpl_brackets.proofs.slice.range_slice.Goals as goal

pub returns-clause-node : goal.returns-clause-node
returns-clause-node c =
    let a = c.cut-item.result in
    let base = c.args.base in
    let cut = c.range_of-cut.result in
    let cuts = c.no_cuts.result in
    let v = range_view base.now in
    let one = list-one c.args.parts.now a c.in-len1.len_at_least c.in-len1.len_below c.cut-item.is in
    let alone = range_view-slice base cut cuts ∙ ap (λ cs. stacked_on (in_square v (items_one (range_item cut.now))) (range_cuts_of cs)) c.no_cuts.ensures in
    if_ok c.range.result
    (λ r h. λ is seen.
    let same : items_one (range_item cut.now) ≡ is = items-of-one a (range_item cut.now) is c.range_of-cut.ensures (subst (λ ps. AreItems ps is) one seen) in
    stands-same r (λ m. range_view (Slice base cut cuts)) (λ m. in_square v is) (λ m. alone ∙ ap (in_square v) same) h)
    c.range.ensures.node
