-- The least and the greatest members of the ranges.
-- These are the answers to the goals of `corners`.
use Rattle.std.proofs.Common.{◌≡◌, sym, ap, ◌∙◌, subst, length, ℕ, ℤ, List, FitsSigned, w64, rules}
use Rattle.std.proofs.lemmas.Int.{to_z-of_z}
use Rattle.dpl_sets.specs.Ranges.{RangeValue}
use Rattle.dpl_domain.specs.Ranks.{last_of}
use Rattle.dpl_halo.specs.Turns.{AreCorners}
use Rattle.dpl_halo.proofs.TurnLemmas.{corners-are}
use Rattle.dpl_halo.proofs.turns.corners.Goals as goal

pub returns : goal.returns
returns c =
    let x = c.in_ok-low.field-0 in
    let y = c.in_ok-low-2.field-0 in
    let z = c.in_ok-low-3.field-0 in
    let u = c.in_ok-high.field-0 in
    let v = c.in_ok-high-2.field-0 in
    let w = c.in_ok-high-3.field-0 in
    let x_fits : FitsSigned w64 x = search rules in
    let y_fits : FitsSigned w64 y = search rules in
    let z_fits : FitsSigned w64 z = search rules in
    let u_fits : FitsSigned w64 u = search rules in
    let v_fits : FitsSigned w64 v = search rules in
    let w_fits : FitsSigned w64 w = search rules in
    let o = c.ranges-outer.result.0 in
    let m = c.ranges-outer.result.1 in
    let i = c.ranges-outer.result.2 in
    let n = length c.args.turns.now in
    let lows : c.index-low.result ≡ last_of c.rank.result x y z = simp to_z-of_z at c.index-low.ensures in
    let highs : c.index-high.result ≡ last_of c.rank-2.result u v w = simp to_z-of_z at c.index-high.ensures in
    let low : c.index-low.result ≡ last_of n x y z = lows ∙ ap (λ (k : ℕ). last_of k x y z) c.rank.ensures.rank in
    let high : c.index-high.result ≡ last_of n u v w = highs ∙ ap (λ (k : ℕ). last_of k u v w) c.rank-2.ensures.rank in
    subst (λ (ds : List RangeValue). AreCorners ds c.index-low.result c.index-high.result) (sym c.ranges-outer.ensures.ranges)
    (subst (λ (ls : List ℤ). AreCorners (last_of n o m i) ls c.index-high.result) (sym low)
    (subst (λ (hs : List ℤ). AreCorners (last_of n o m i) (last_of n x y z) hs) (sym high)
    (corners-are o m i x y z u v w c.in_ok-low.ensures.least c.in_ok-high.ensures.greatest c.in_ok-low-2.ensures.least c.in_ok-high-2.ensures.greatest c.in_ok-low-3.ensures.least c.in_ok-high-3.ensures.greatest n)))
