-- The first cut, and the others.
use Rattle.std.proofs.Common.{arith, ◌-◌, length, length-drop, drop, take, sym, ap, ◌∙◌}
use Rattle.std.proofs.lemmas.List.{take_all}
use Rattle.dpl_lowered.specs.Shapes.{stacked_on}
use Rattle.dpl_nodes.specs.Typed.{bracketed, range_view, range_item, range_cuts_of}
use Rattle.dpl_nodes.proofs.Chains.{range_cuts-row, range_cuts-from}
use Rattle.dpl_typed.proofs.posts.RangeExprSpine.whole.Goals as goal

pub returns-in-len1-up : goal.returns-in-len1-up
returns-in-len1-up c m =
    let cuts = c.args.links.now in
    let cut = c.cut-item.result in
    let base = range_view c.args.first.now in
    let others = drop 1 cuts in
    let all = take_all (length cuts - 1) others (omega (arith, length-drop 1 cuts)) in
    ap (stacked_on (bracketed base (range_item cut.by.now))) (range_cuts-row (take (length cuts - 1) others) ∙ ap range_cuts_of all)
    ∙ sym (ap (stacked_on base) (range_cuts-from cuts 0 cut (omega arith) c.cut-item.is))
