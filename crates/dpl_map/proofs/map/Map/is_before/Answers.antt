-- The keys of the domain's first index and of the other one, dimension by dimension.
use Rattle.std.proofs.Common.{rules, ap, ◌≡◌, ◌∙◌, sym, subst, ℤ, List, Some, length, slice_get, FitsSigned, w64}
use Rattle.std.specs.Int.{w128}
use Rattle.std.proofs.lemmas.Int.{to_z-of_z}
use Rattle.std.proofs.lemmas.Option.{same_Some}
use Rattle.dpl_sets.specs.Indices.{indices}
use Rattle.dpl_domain.specs.Ranks.{last_of}
use Rattle.dpl_map.specs.Orders.{keys, IsBefore}
use Rattle.dpl_map.proofs.FindLemmas.{before-keys}
use Rattle.dpl_map.proofs.map.Map.is_before.Goals as goal

pub returns : goal.returns
returns c =
    λ t at rank.
    let found : Some c.in-Some.first ≡ slice_get (indices c.args.domain.now) 0 = search rules in
    let is : c.in-Some.first ≡ t = same_Some c.in-Some.first t (found ∙ at) in
    let x_fits : FitsSigned w64 c.numbers-x.result.0 = search rules in
    let y_fits : FitsSigned w64 c.numbers-x.result.1 = search rules in
    let z_fits : FitsSigned w64 c.numbers-x.result.2 = search rules in
    let u_fits : FitsSigned w64 c.numbers-u.result.0 = search rules in
    let v_fits : FitsSigned w64 c.numbers-u.result.1 = search rules in
    let w_fits : FitsSigned w64 c.numbers-u.result.2 = search rules in
    let p = simp to_z-of_z at c.key.ensures in
    let q = simp to_z-of_z at c.key-2.ensures in
    let r = simp to_z-of_z at c.key-3.ensures in
    let s = simp to_z-of_z at c.key-4.ensures in
    let k = simp to_z-of_z at c.key-5.ensures in
    let l = simp to_z-of_z at c.key-6.ensures in
    let p_fits : FitsSigned w128 c.key.result = search rules in
    let q_fits : FitsSigned w128 c.key-2.result = search rules in
    let r_fits : FitsSigned w128 c.key-3.result = search rules in
    let s_fits : FitsSigned w128 c.key-4.result = search rules in
    let k_fits : FitsSigned w128 c.key-5.result = search rules in
    let l_fits : FitsSigned w128 c.key-6.result = search rules in
    let test = rw (p, q, r, s, k, l) at (simp to_z-of_z at c.comes_before.ensures) in
    let axes = c.axes-axes.ensures.axes in
    let rows =
    before-keys c.args.self.now c.axes-axes.result.0 c.axes-axes.result.1 c.axes-axes.result.2 c.args.outer c.args.middle c.args.inner c.in-Some.first c.args.index
    c.numbers-x.result.0 c.numbers-x.result.1 c.numbers-x.result.2 c.numbers-u.result.0 c.numbers-u.result.1 c.numbers-u.result.2
    axes c.numbers-x.ensures.coordinates c.numbers-u.ensures.coordinates c.numbers-x.ensures.unused c.numbers-u.ensures.unused (ap length is ∙ rank) c.requires in
    let orders = keys (last_of (length c.args.self.now) c.args.outer c.args.middle c.args.inner) c.args.self.now in (
      (λ yes. subst (λ (r : List ℤ). IsBefore orders r c.args.index) is (rows.0 (test.0 yes))),
      (λ before. test.1 (rows.1 (subst (λ (r : List ℤ). IsBefore orders r c.args.index) (sym is) before))),
    )
