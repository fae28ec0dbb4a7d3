-- All bounds of a domain are within the limits where each range's are.
use Rattle.std.proofs.Common.{◌≡◌, [], ◌∷◌, false, refl, subst, sym, w64, FitsSigned}
use Rattle.std.proofs.lemmas.Int.{to_z-of_z}
use Rattle.dpl_sets.specs.TextDomains.{text_expanded, text_moved}
use Rattle.dpl_language.specs.Ranges.{bounds_past_limit}
use Rattle.dpl_contents.specs.Range.{range_word}
use Rattle.dpl_contents.specs.Parts.{ranges_of}
use Rattle.dpl_contents.proofs.Expansions.{second-within, third-within, three-within}
use Rattle.dpl_contents.proofs.parts.Parts.expanded.Goals as goal

pub returns-in_err-expanded-in-Plane-2-clause-some : goal.returns-in_err-expanded-in-Plane-2-clause-some
returns-in_err-expanded-in-Plane-2-clause-some c =
    let k_fits : FitsSigned w64 c.args.k = c.ranges.k in
    let some = simp to_z-of_z at c.in_err-expanded-in-Plane-2.ensures.some in
    let y = text_moved c.args.k (range_word c.in-Plane.middle) in
    let z = text_moved c.args.k (range_word c.in-Plane.inner) in
    rw c.from_residual-in_err-expanded-in-Plane-2.ensures (
      (λ e. absurd cc),
      (λ e.
          let all = subst (λ p. bounds_past_limit (text_expanded c.args.k (ranges_of p)) ≡ false) c.in-Plane.is e in
          some.1 (second-within y z [] all)),
    )

pub returns-in_err-expanded-in-Space-2-clause-some : goal.returns-in_err-expanded-in-Space-2-clause-some
returns-in_err-expanded-in-Space-2-clause-some c =
    let k_fits : FitsSigned w64 c.args.k = c.ranges.k in
    let some = simp to_z-of_z at c.in_err-expanded-in-Space-2.ensures.some in
    let x = text_moved c.args.k (range_word c.in-Space.outer) in
    let y = text_moved c.args.k (range_word c.in-Space.middle) in
    let z = text_moved c.args.k (range_word c.in-Space.inner) in
    rw c.from_residual-in_err-expanded-in-Space-2.ensures (
      (λ e. absurd cc),
      (λ e.
          let all = subst (λ p. bounds_past_limit (text_expanded c.args.k (ranges_of p)) ≡ false) c.in-Space.is e in
          some.1 (second-within x y (z ∷ []) all)),
    )

pub returns-in_err-expanded-in-Space-3-clause-some : goal.returns-in_err-expanded-in-Space-3-clause-some
returns-in_err-expanded-in-Space-3-clause-some c =
    let k_fits : FitsSigned w64 c.args.k = c.ranges.k in
    let some = simp to_z-of_z at c.in_err-expanded-in-Space-3.ensures.some in
    let x = text_moved c.args.k (range_word c.in-Space.outer) in
    let y = text_moved c.args.k (range_word c.in-Space.middle) in
    let z = text_moved c.args.k (range_word c.in-Space.inner) in
    rw c.from_residual-in_err-expanded-in-Space-3.ensures (
      (λ e. absurd cc),
      (λ e.
          let all = subst (λ p. bounds_past_limit (text_expanded c.args.k (ranges_of p)) ≡ false) c.in-Space.is e in
          some.1 (third-within x y z all)),
    )

pub returns-in_ok-expanded-in-Space-3-clause-some : goal.returns-in_ok-expanded-in-Space-3-clause-some
returns-in_ok-expanded-in-Space-3-clause-some c =
    let k_fits : FitsSigned w64 c.args.k = c.ranges.k in
    let first = simp to_z-of_z at (c.in_ok-expanded-in-Space.ensures.some.0 refl) in
    let second = simp to_z-of_z at (c.in_ok-expanded-in-Space-2.ensures.some.0 refl) in
    let third = simp to_z-of_z at (c.in_ok-expanded-in-Space-3.ensures.some.0 refl) in
    let x = text_moved c.args.k (range_word c.in-Space.outer) in
    let y = text_moved c.args.k (range_word c.in-Space.middle) in
    let z = text_moved c.args.k (range_word c.in-Space.inner) in
    let all = three-within x y z first second third in
    ((λ e. subst (λ p. bounds_past_limit (text_expanded c.args.k (ranges_of p)) ≡ false) (sym c.in-Space.is) all), (λ e. refl))
