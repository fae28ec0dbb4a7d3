-- Dimension by dimension, and then what is left.
-- These are the answers to the goals of `read`.
use Rattle.std.proofs.Common.{◌^◌, pos, neg_ℤ, ◌+ℤ◌, ◌-ℤ◌, refl, sym, ap, ◌∙◌, FitsSigned, w64, rules, arith}
use Rattle.std.proofs.lemmas.Int.{ints, to_z-of_z}
use Rattle.dpl_map.specs.Maps.{owner}
use Rattle.dpl_halo.specs.Shifts.{shifted}
use Rattle.dpl_halo.specs.Turns.{IsNarrowed}
use Rattle.dpl_halo.proofs.ReachLemmas.{read-first, read-next, read-owned, read-rest}
use Rattle.dpl_halo.proofs.TurnLemmas.{bound-fits}
use Rattle.dpl_halo.proofs.halo.read.Goals as goal

pub loop-d-init : goal.loop-d-init
loop-d-init g c = read-first c.args.array.now c.args.locale c.args.shift.now c.args.turns.now c.args.gathered.now

pub loop-d-preserved : goal.loop-d-preserved
loop-d-preserved g c =
    let low = c.reach-low.result.0 in
    let high = c.reach-low.result.1 in
    let low_fits : FitsSigned w64 low = search rules in
    let high_fits : FitsSigned w64 high = search rules in
    let points = c.reach-low.ensures in
    let under_fits : FitsSigned w64 (low -ℤ pos 1) = bound-fits (low -ℤ pos 1) (omega (arith, ints, points.from), omega (arith, ints, points.low_to)) in
    let over_fits : FitsSigned w64 (high +ℤ pos 1) = bound-fits (high +ℤ pos 1) (omega (arith, ints, points.high_from), omega (arith, ints, points.to)) in
    let under : IsNarrowed c.loop-d.d (neg_ℤ (pos (2 ^ 60))) (low -ℤ pos 1) c.loop-d.left c.narrowed-below.result = simp to_z-of_z at c.narrowed-below.ensures.narrowed in
    let over : IsNarrowed c.loop-d.d (high +ℤ pos 1) (pos (2 ^ 60)) c.loop-d.left c.narrowed-above.result = simp to_z-of_z at c.narrowed-above.ensures.narrowed in
    let core : IsNarrowed c.loop-d.d low high c.loop-d.left c.narrowed-left.result = simp to_z-of_z at c.narrowed-left.ensures.narrowed in
    read-next c.args.array.now c.args.locale c.args.shift.now c.args.turns.now c.args.gathered.now c.loop-d.d low high c.loop-d.left c.narrowed-below.result c.narrowed-above.result c.narrowed-left.result
    c.loop-d.gathered c.read_each.new.gathered c.read_each-in-loop-d.new.gathered c.loop-d.invariant c.reach-low.ensures under over core c.narrowed-left.ensures.bounded c.narrowed-left.ensures.rank
    c.in_ok-read_each.ensures.domain c.in_ok-read_each-2.ensures.domain c.in_ok-read_each.ensures.gathered c.in_ok-read_each-2.ensures.gathered

pub returns-then-are_owned-clause-gathered : goal.returns-then-are_owned-clause-gathered
returns-then-are_owned-clause-gathered g c =
    read-owned c.args.array.now c.args.locale c.args.shift.now c.args.turns.now c.args.gathered.now c.loop-d.left c.loop-d.gathered c.loop-d.invariant
    (λ t at. ap (λ axes. owner axes (shifted c.args.shift.now t)) (sym c.map.ensures) ∙ c.if-are_owned.ensures refl t at)

pub returns-clause-gathered : goal.returns-clause-gathered
returns-clause-gathered g c =
    read-rest c.args.array.now c.args.locale c.args.shift.now c.args.turns.now c.args.gathered.now c.loop-d.left c.loop-d.gathered c.read_each-2.new.gathered c.loop-d.invariant c.in_ok-read_each-3.ensures.gathered
