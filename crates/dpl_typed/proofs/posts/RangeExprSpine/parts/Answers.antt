-- Without further cuts there is the first one.
use Rattle.std.proofs.Common.{arith, sym, ap, ◌∙◌}
use Rattle.dpl_syntax.proofs.Walks.{drop-end}
use Rattle.dpl_lowered.specs.Shapes.{stacked_on}
use Rattle.dpl_nodes.specs.Typed.{bracketed, range_view, range_item, range_cuts_of}
use Rattle.dpl_nodes.proofs.Chains.{range_view-slice}
use Rattle.dpl_typed.proofs.posts.RangeExprSpine.parts.Goals as goal

pub returns-in-empty-clause-same : goal.returns-in-empty-clause-same
returns-in-empty-clause-same c m more =
    let i = c.in-Slice in
    let none = drop-end i.cuts.now 0 (omega arith) in
    sym (ap (λ e. stacked_on e (range_cuts_of more))
    (ap range_view i.is ∙ range_view-slice i.left i.by i.cuts
    ∙ ap (λ cs. stacked_on (bracketed (range_view i.left.now) (range_item i.by.now)) (range_cuts_of cs)) none))
