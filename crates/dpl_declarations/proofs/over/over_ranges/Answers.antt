-- What is sliced is no bare name.
use Rattle.std.proofs.Common.{◌≡◌, false, ap, sym, subst, ◌∙◌}
use Rattle.dpl_nodes.specs.Typed.{items_one, range_item, ranges_items}
use Rattle.dpl_nodes.specs.declared.tree.RangeExpr.{RangeExpr}
use Rattle.dpl_declarations.specs.Made.{between}
use Rattle.dpl_declarations.proofs.Overs.{slice-between}
use Rattle.dpl_declarations.proofs.over.over_ranges.Goals as goal

pub returns-in-Slice : goal.returns-in-Slice
returns-in-Slice c =
    let i = c.in-Slice in
    let same = ap ranges_items c.in-Line.is ∙ ap (λ (r : RangeExpr). items_one (range_item r)) i.is in
    rw c.if-bare.false (subst (λ x. x ≡ between false x) (sym same) (slice-between i.field-0 i.field-1 i.field-2))
