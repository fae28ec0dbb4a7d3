-- Each index between the two has the coordinates of the lower one.
-- These are the answers to the goals of `Map::owns_between`.
use Rattle.std.proofs.Common.{◌≡◌, sym, ap, ◌∙◌, subst, length, ℕ, ℤ, List, rules, FitsSigned, w64, refl, eqb-true, pos}
use Rattle.std.proofs.lemmas.Int.{to_z-of_z}
use Rattle.dpl_domain.specs.Ranks.{last_of, IsPadded}
use Rattle.dpl_map.specs.Boxes.{AreBetween, IsSteady}
use Rattle.dpl_map.specs.Maps.{owner}
use Rattle.dpl_map.proofs.OwnerLemmas.{owner-other, owner-padded}
use Rattle.dpl_map.proofs.SteadyLemmas.{between-lengths, owner-between}
use Rattle.dpl_map.proofs.map.Map.owns_between.Goals as goal

pub returns-then-rank : goal.returns-then-rank
returns-then-rank c = λ yes t between.
    let long = between-lengths c.args.low t c.args.high between in
    owner-other c.args.self.now t (λ same. c.if-rank.true (c.rank.ensures.rank ∙ sym long.0 ∙ same ∙ sym c.rank-2.ensures)) ∙ sym (eqb-true c.args.locale 0 yes)

pub returns : goal.returns
returns c = λ yes t between.
    let x_fits : FitsSigned w64 c.numbers-x.result.0 = search rules in
    let y_fits : FitsSigned w64 c.numbers-x.result.1 = search rules in
    let z_fits : FitsSigned w64 c.numbers-x.result.2 = search rules in
    let u_fits : FitsSigned w64 c.numbers-u.result.0 = search rules in
    let v_fits : FitsSigned w64 c.numbers-u.result.1 = search rules in
    let w_fits : FitsSigned w64 c.numbers-u.result.2 = search rules in
    let axes = c.args.self.now in
    let o = c.axes-outer.result.0 in
    let m = c.axes-outer.result.1 in
    let i = c.axes-outer.result.2 in
    let first : IsSteady o c.numbers-x.result.0 c.numbers-u.result.0 = simp to_z-of_z at (c.if-not-is_steady.ensures refl) in
    let second : IsSteady m c.numbers-x.result.1 c.numbers-u.result.1 = simp to_z-of_z at (c.if-not-is_steady-2.ensures refl) in
    let third : IsSteady i c.numbers-x.result.2 c.numbers-u.result.2 = simp to_z-of_z at (c.if-not-is_steady-3.ensures refl) in
    let long = between-lengths c.args.low t c.args.high between in
    let same : length c.args.low ≡ length axes = sym c.rank.ensures.rank ∙ c.if-rank.false ∙ c.rank-2.ensures in
    let low = c.numbers-x.ensures.coordinates ∙ ap (λ (n : ℕ). last_of n c.numbers-x.result.0 c.numbers-x.result.1 c.numbers-x.result.2) same in
    let high = c.numbers-u.ensures.coordinates ∙ ap (λ (n : ℕ). last_of n c.numbers-u.result.0 c.numbers-u.result.1 c.numbers-u.result.2) (long.1 ∙ same) in
    let padded = subst (λ (n : ℕ). IsPadded (pos 0) n c.numbers-x.result.0 c.numbers-x.result.1) same c.numbers-x.ensures.unused in
    let corners : AreBetween (last_of (length axes) c.numbers-x.result.0 c.numbers-x.result.1 c.numbers-x.result.2) t (last_of (length axes) c.numbers-u.result.0 c.numbers-u.result.1 c.numbers-u.result.2) =
    subst (λ (ls : List ℤ). AreBetween ls t (last_of (length axes) c.numbers-u.result.0 c.numbers-u.result.1 c.numbers-u.result.2)) low (subst (λ (hs : List ℤ). AreBetween c.args.low t hs) high between) in
    ap (λ a. owner a t) c.axes-outer.ensures.axes
    ∙ owner-between o m i c.numbers-x.result.0 c.numbers-x.result.1 c.numbers-x.result.2 c.numbers-u.result.0 c.numbers-u.result.1 c.numbers-u.result.2 first second third (length axes) c.axes-outer.ensures.limits padded t corners
    ∙ sym (owner-padded (length axes) o m i c.numbers-x.result.0 c.numbers-x.result.1 c.numbers-x.result.2 c.axes-outer.ensures.limits padded)
    ∙ ap (λ a. owner a (last_of (length axes) c.numbers-x.result.0 c.numbers-x.result.1 c.numbers-x.result.2)) (sym c.axes-outer.ensures.axes)
    ∙ ap (owner axes) (sym low)
    ∙ sym c.owner.ensures.owner ∙ eqb-true c.owner.result c.args.locale yes
