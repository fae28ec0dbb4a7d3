-- Each order of the dimension in the middle is tried, where they differ.
use Rattle.std.proofs.Common.{length, refl}
use Rattle.dpl_domain.specs.Ranks.{last_of}
use Rattle.dpl_map.specs.declared.find.Order.{Order}
use Rattle.dpl_map.specs.declared.find.Order.TheVariants.{Blocks}
use Rattle.dpl_map.specs.Axes.{cut_rule}
use Rattle.dpl_map.specs.Orders.{HasNone}
use Rattle.dpl_map.proofs.FindLemmas.{single-key, each-order, none-same}
use Rattle.dpl_map.proofs.map.Map.find_outer.Goals as goal

pub returns-then-is_single-clause-none : goal.returns-then-is_single-clause-none
returns-then-is_single-clause-none c =
    λ _ middle inner.
    none-same c.args.self.now c.axes.result.0 c.axes.result.1 c.axes.result.2 c.args.outer middle inner c.args.outer Blocks inner c.args.domains.now c.args.index
    c.axes.ensures.axes refl (single-key middle (cut_rule c.axes.result.1) (c.is_single.ensures.0 c.if-is_single.true)) refl (c.in_default.ensures.none refl inner)

pub returns-clause-none : goal.returns-clause-none
returns-clause-none c =
    λ none.
    each-order (λ middle. (inner : Order) → HasNone (last_of (length c.args.self.now) c.args.outer middle inner) c.args.self.now c.args.domains.now c.args.index)
    (c.in_default.ensures.none refl) (c.find_middle-2.ensures.none none)
