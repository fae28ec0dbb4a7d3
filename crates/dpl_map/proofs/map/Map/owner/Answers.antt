-- The owner by the index's numbers.
use Rattle.std.proofs.Common.{◌≡◌, ap, sym, ◌∙◌, arith, length, ℕ, pos, FitsSigned, w64, rules, subst}
use Rattle.std.proofs.lemmas.Int.{to_z-of_z}
use Rattle.dpl_domain.specs.Ranks.{last_of, IsPadded}
use Rattle.dpl_map.proofs.OwnerLemmas.{owner-other, owner-padded, locales-padded, locales-positive, row-below}
use Rattle.dpl_map.proofs.map.Map.owner.Goals as goal

pub returns-then-rank-clause-owner : goal.returns-then-rank-clause-owner
returns-then-rank-clause-owner c =
    sym (owner-other c.args.self.now c.args.index (λ same. c.if-rank.true (c.rank.ensures.rank ∙ same ∙ sym c.rank-2.ensures)))

pub returns-then-rank-clause-below : goal.returns-then-rank-clause-below
returns-then-rank-clause-below c =
    rw c.axes-outer.ensures.axes
    (locales-positive (length c.args.self.now) c.axes-outer.result.0 c.axes-outer.result.1 c.axes-outer.result.2 c.axes-outer.ensures.limits)

pub returns-clause-owner : goal.returns-clause-owner
returns-clause-owner c =
    let x_fits : FitsSigned w64 c.numbers-x.result.0 = search rules in
    let y_fits : FitsSigned w64 c.numbers-x.result.1 = search rules in
    let z_fits : FitsSigned w64 c.numbers-x.result.2 = search rules in
    let outer = simp to_z-of_z at c.coordinate.ensures.coordinate in
    let middle = simp to_z-of_z at c.coordinate-2.ensures.coordinate in
    let inner = simp to_z-of_z at c.coordinate-3.ensures.coordinate in
    let same : length c.args.index ≡ length c.args.self.now = sym c.rank.ensures.rank ∙ c.if-rank.false ∙ c.rank-2.ensures in
    let index = c.numbers-x.ensures.coordinates ∙ ap (λ (n : ℕ). last_of n c.numbers-x.result.0 c.numbers-x.result.1 c.numbers-x.result.2) same in
    let padded = subst (λ (n : ℕ). IsPadded (pos 0) n c.numbers-x.result.0 c.numbers-x.result.1) same c.numbers-x.ensures.unused in
    let owner =
    owner-padded (length c.args.self.now) c.axes-outer.result.0 c.axes-outer.result.1 c.axes-outer.result.2 c.numbers-x.result.0 c.numbers-x.result.1 c.numbers-x.result.2 c.axes-outer.ensures.limits padded in
    rw (c.axes-outer.ensures.axes, index, outer, middle, inner, c.extent.ensures.extent, c.extent-2.ensures.extent) (sym owner)

pub returns-clause-below : goal.returns-clause-below
returns-clause-below c =
    let below =
    row-below c.axes-outer.result.0.extent c.axes-outer.result.1.extent c.axes-outer.result.2.extent c.coordinate.result c.coordinate-2.result c.coordinate-3.result
    c.coordinate.ensures.below c.coordinate-2.ensures.below c.coordinate-3.ensures.below in
    rw (c.axes-outer.ensures.axes, locales-padded (length c.args.self.now) c.axes-outer.result.0 c.axes-outer.result.1 c.axes-outer.result.2 c.axes-outer.ensures.limits, c.extent.ensures.extent, c.extent-2.ensures.extent)
    below

-- so it is a small number
pub overflow_add-result : goal.overflow_add-result
overflow_add-result c =
    let below =
    row-below c.axes-outer.result.0.extent c.axes-outer.result.1.extent c.axes-outer.result.2.extent c.coordinate.result c.coordinate-2.result c.coordinate-3.result
    c.coordinate.ensures.below c.coordinate-2.ensures.below c.coordinate-3.ensures.below in
    let size = c.axes-outer.ensures.limits.size in
    rw (c.extent.ensures.extent, c.extent-2.ensures.extent) (record { fits = omega (arith, below, size) })
