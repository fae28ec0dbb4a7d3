-- Nothing is gone over yet.
-- These are the answers to the goals of `DArray::walk`.
use Rattle.std.proofs.Common.{◌≡◌, ◌≤◌, replicate, sym, ap, ◌∙◌, subst, arith}
use Rattle.dpl_sets.specs.Indices.{indices, IsSmall}
use Rattle.dpl_map.specs.Maps.{locales}
use Rattle.dpl_array.specs.WalkFields.{IsLeft}
use Rattle.dpl_array.proofs.WalkLemmas.{left-first}
use Rattle.dpl_array.proofs.array.DArray.walk.Goals as goal

pub invariant_of-result : goal.invariant_of-result
invariant_of-result g c =
    let a = c.args.self.now in
    let maps : locales c.map-map.result ≡ locales a.map = ap locales c.map-map.ensures in
    let most : locales a.map ≤ 64 = omega (arith, c.locales.ensures.most, c.locales.ensures.locales, maps) in
    let small = subst IsSmall c.domain-domain.ensures.domain c.size.ensures.small in
    let left = sym (c.cursor.ensures ∙ ap indices c.domain-domain.ensures.domain) in
    subst (λ m. IsLeft a m c.cursor.result (replicate 64 0)) (sym c.map-map.ensures)
    (subst (λ ts. IsLeft a a.map ts (replicate 64 0)) left (left-first a c.domain-domain.ensures.keys small most))
