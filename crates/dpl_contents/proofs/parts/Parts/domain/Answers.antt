-- Whether a domain was made says whether its indices are few enough.
use Rattle.std.proofs.Common.{◌≡◌, true, false, [], ◌∷◌, ◌↔◌, is_some, sym, subst}
use Rattle.dpl_language.specs.Ranges.{too_many}
use Rattle.dpl_contents.specs.declared.parts.Parts.TheVariants.{Line, Plane, Space}
use Rattle.dpl_contents.specs.Domains.{AreWritten}
use Rattle.dpl_contents.specs.Parts.{ranges_of}
use Rattle.dpl_contents.proofs.Sizes.{domain-decides}
use Rattle.dpl_contents.proofs.parts.Parts.domain.Goals as goal

pub returns-in-Line-clause-some : goal.returns-in-Line-clause-some
returns-in-Line-clause-some c =
    let z = c.in-Line.inner in
    let values : c.value.result ∷ [] ≡ z.range ∷ [] = cc in
    let written : AreWritten (z.range ∷ []) = (c.value.ensures.limits, z.written, tt) in
    subst (λ p. (is_some c.ok.result ≡ true) ↔ (too_many (ranges_of p) ≡ false)) (sym c.in-Line.is)
    (domain-decides (Line z) _ _ _ c.ok.ensures.variant values written c.new.ensures.ok)

pub returns-in-Plane-clause-some : goal.returns-in-Plane-clause-some
returns-in-Plane-clause-some c =
    let y = c.in-Plane.middle in
    let z = c.in-Plane.inner in
    let values : c.value-in-Plane.result ∷ c.value-in-Plane-2.result ∷ [] ≡ y.range ∷ z.range ∷ [] = cc in
    let written : AreWritten (y.range ∷ z.range ∷ []) = (c.value-in-Plane.ensures.limits, y.written, (c.value-in-Plane-2.ensures.limits, z.written, tt)) in
    subst (λ p. (is_some c.ok-in-Plane.result ≡ true) ↔ (too_many (ranges_of p) ≡ false)) (sym c.in-Plane.is)
    (domain-decides (Plane y z) _ _ _ c.ok-in-Plane.ensures.variant values written c.new-in-Plane.ensures.ok)

pub returns-in-Space-clause-some : goal.returns-in-Space-clause-some
returns-in-Space-clause-some c =
    let x = c.in-Space.outer in
    let y = c.in-Space.middle in
    let z = c.in-Space.inner in
    let values : c.value-in-Space.result ∷ c.value-in-Space-2.result ∷ c.value-in-Space-3.result ∷ [] ≡ x.range ∷ y.range ∷ z.range ∷ [] = cc in
    let written : AreWritten (x.range ∷ y.range ∷ z.range ∷ []) = (c.value-in-Space.ensures.limits, x.written, (c.value-in-Space-2.ensures.limits, y.written, (c.value-in-Space-3.ensures.limits, z.written, tt))) in
    subst (λ p. (is_some c.ok-in-Space.result ≡ true) ↔ (too_many (ranges_of p) ≡ false)) (sym c.in-Space.is)
    (domain-decides (Space x y z) _ _ _ c.ok-in-Space.ensures.variant values written c.new-in-Space.ensures.ok)
