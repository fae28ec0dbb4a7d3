-- One coordinate, or one block.
-- These are the answers to the goals of `Axis::is_steady`.
use Rattle.std.proofs.Common.{◌≡◌, arith, sym, ap, ◌∙◌, subst, rules, FitsSigned, w64, to_z, eqb-true}
use Rattle.std.proofs.lemmas.Int.{ints, to_z-of_z}
use Rattle.dpl_map.specs.AxisFields.{axis_of, rule_of, IsRule}
use Rattle.dpl_map.specs.Boxes.{IsSteady}
use Rattle.dpl_map.specs.Maps.{BlockCyclic, axis_coordinate}
use Rattle.dpl_map.proofs.SteadyLemmas.{axis-one, block-axis, rounds-axis}
use Rattle.dpl_map.proofs.axis.Axis.is_steady.Goals as goal

pub returns-then-self-eq1 : goal.returns-then-self-eq1
returns-then-self-eq1 c = λ yes.
    let a = axis_of c.self.inside in
    subst (λ b. IsSteady b c.args.low c.args.high) c.self.view_is
    (λ i from to. axis-one a i c.self.invariant c.if-self-eq1.true ∙ sym (axis-one a c.args.low c.self.invariant c.if-self-eq1.true))

pub returns-then-low-high : goal.returns-then-low-high
returns-then-low-high c = λ yes i from to.
    let low_fits : FitsSigned w64 c.args.low = search rules in
    let high_fits : FitsSigned w64 c.args.high = search rules in
    let alone : c.args.low ≡ c.args.high = sym (to_z-of_z w64 c.args.low low_fits) ∙ ap (to_z w64) c.if-low-high.true ∙ to_z-of_z w64 c.args.high high_fits in
    let same : i ≡ c.args.low = omega (arith, ints, from, to, alone) in
    ap (axis_coordinate c.args.self.now) same

pub returns-in-Block : goal.returns-in-Block
returns-in-Block c = λ yes.
    let low_fits : FitsSigned w64 c.args.low = search rules in
    let high_fits : FitsSigned w64 c.args.high = search rules in
    let here = simp to_z-of_z at c.coordinate.ensures.coordinate in
    let there = simp to_z-of_z at c.coordinate-in-Block.ensures.coordinate in
    let a = axis_of c.self.inside in
    let same : axis_coordinate c.args.self.now c.args.low ≡ axis_coordinate c.args.self.now c.args.high = sym here ∙ eqb-true c.coordinate.result c.coordinate-in-Block.result yes ∙ there in
    subst (λ b. IsSteady b c.args.low c.args.high) c.self.view_is
    (block-axis a c.in-Block.low c.in-Block.high c.args.low c.args.high c.self.invariant (ap rule_of c.in-Block.is) (subst (λ b. axis_coordinate b c.args.low ≡ axis_coordinate b c.args.high) (sym c.self.view_is) same))

pub returns-in-BlockCyclic : goal.returns-in-BlockCyclic
returns-in-BlockCyclic c = λ yes.
    let low_fits : FitsSigned w64 c.args.low = search rules in
    let high_fits : FitsSigned w64 c.args.high = search rules in
    let start_fits : FitsSigned w64 c.in-BlockCyclic.start = search rules in
    let size_fits : FitsSigned w64 c.in-BlockCyclic.size = search rules in
    let here = simp to_z-of_z at c.block_of.ensures in
    let there = simp to_z-of_z at c.block_of-in-BlockCyclic.ensures in
    let same : c.block_of.result ≡ c.block_of-in-BlockCyclic.result = grind (arith, ints, yes) in
    let a = axis_of c.self.inside in
    let limits : IsRule (BlockCyclic c.in-BlockCyclic.start c.in-BlockCyclic.size) = subst IsRule (ap rule_of c.in-BlockCyclic.is) c.self.invariant.rule in
    subst (λ b. IsSteady b c.args.low c.args.high) c.self.view_is
    (rounds-axis a c.in-BlockCyclic.start c.in-BlockCyclic.size c.args.low c.args.high limits.1 (ap rule_of c.in-BlockCyclic.is) (sym here ∙ same ∙ there))
