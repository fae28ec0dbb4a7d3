-- A domain with an index has a box in each dimension.
use Rattle.std.proofs.Common.{◌≡◌, ap, sym, ◌∙◌, length, ℕ, List, [], subst}
use Rattle.dpl_sets.specs.Ranges.{RangeValue}
use Rattle.dpl_sets.specs.Indices.{indices}
use Rattle.dpl_domain.specs.Ranks.{last_of}
use Rattle.dpl_map.specs.Maps.{AxisValue, IsBlockMap}
use Rattle.dpl_map.proofs.ProductLemmas.{outer-some, middle-some, inner-some}
use Rattle.dpl_map.proofs.StartLemmas.{IsBlockMap-last_of}
use Rattle.dpl_map.proofs.map.Map.block.Goals as goal
use Rattle.dpl_map.proofs.map.Map.block.Goals.{After-ranges-first, After-of}

some : (c : After-ranges-first) → indices (last_of (length c.args.domain.now) c.ranges-first.result.0 c.ranges-first.result.1 c.ranges-first.result.2) ≡ [] → ⊥
some c empty =
    let none : indices c.args.domain.now ≡ [] = ap indices c.ranges-first.ensures.ranges ∙ empty in
    c.if-size-eq0.false (c.size.ensures.size ∙ ap length none)

pub boxed-requires-clause-some : goal.boxed-requires-clause-some
boxed-requires-clause-some c =
    let d = (goal.at.boxed-requires-clause-some c).After-ranges-first in
    outer-some (length c.args.domain.now) c.ranges-first.result.0 c.ranges-first.result.1 c.ranges-first.result.2 c.ranges-first.ensures.unused (some d)

pub boxed-requires-2-clause-some : goal.boxed-requires-2-clause-some
boxed-requires-2-clause-some c =
    let d = (goal.at.boxed-requires-2-clause-some c).After-ranges-first in
    middle-some (length c.args.domain.now) c.ranges-first.result.0 c.ranges-first.result.1 c.ranges-first.result.2 c.ranges-first.ensures.unused (some d)

pub boxed-requires-3-clause-some : goal.boxed-requires-3-clause-some
boxed-requires-3-clause-some c =
    let d = (goal.at.boxed-requires-3-clause-some c).After-ranges-first in
    inner-some (length c.args.domain.now) c.ranges-first.result.0 c.ranges-first.result.1 c.ranges-first.result.2 c.ranges-first.ensures.unused (some d)

domain_of : After-of → List RangeValue
domain_of c = last_of (length c.args.domain.now) c.ranges-first.result.0 c.ranges-first.result.1 c.ranges-first.result.2

grid_of : After-of → List ℕ
grid_of c = last_of (length c.args.domain.now) c.extents-outer.result.0 c.extents-outer.result.1 c.extents-outer.result.2

pub returns-clause-held : goal.returns-clause-held
unfolding domain_of grid_of
returns-clause-held c =
    let same : length c.args.grid ≡ length c.args.domain.now = sym c.rank-2.ensures.rank ∙ sym c.if-rank.false ∙ c.rank.ensures.rank in
    let grid = c.extents-outer.ensures.extents ∙ ap (λ (n : ℕ). last_of n c.extents-outer.result.0 c.extents-outer.result.1 c.extents-outer.result.2) same in
    let axes = c.of.ensures ∙ ap (λ (n : ℕ). last_of n c.boxed.result c.boxed-2.result c.boxed-3.result) c.rank-3.ensures.rank in
    let boxes =
    IsBlockMap-last_of (length c.args.domain.now) c.ranges-first.result.0 c.ranges-first.result.1 c.ranges-first.result.2
    c.extents-outer.result.0 c.extents-outer.result.1 c.extents-outer.result.2 c.boxed.result c.boxed-2.result c.boxed-3.result
    c.boxed.ensures.box_is c.boxed-2.ensures.box_is c.boxed-3.ensures.box_is in
    subst (λ (d : List RangeValue). IsBlockMap d c.args.grid c.of.result) (sym c.ranges-first.ensures.ranges)
    (subst (λ (g : List ℕ). IsBlockMap (domain_of c) g c.of.result) (sym grid)
    (subst (λ (a : List AxisValue). IsBlockMap (domain_of c) (grid_of c) a) (sym axes) boxes))
