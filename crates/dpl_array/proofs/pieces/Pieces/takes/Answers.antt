-- A piece is taken that is of the same domain and map, and whose place is free.
-- These are the answers to the goals of `Pieces::takes`.
use Rattle.std.proofs.Common.{◌≡◌, ◌<◌, ap, sym, ◌∙◌, false, true, slice_get, length, arith, refl, subst}
use Rattle.dpl_sets.specs.TextDomains.{SameDomain}
use Rattle.dpl_array.specs.Same.{texts_of}
use Rattle.dpl_array.proofs.HeldLemmas.{free-slot, taken-slot}
use Rattle.dpl_array.proofs.pieces.Pieces.takes.Goals as goal

pub returns-then-is_some : goal.returns-then-is_some
returns-then-is_some g c =
    let held = c.self.inside.held.items in
    let l = c.locale-locale.result in
    let within : l < length held = omega arith in (
      (λ yes. absurd (let e : false ≡ true = yes in cc)),
      (λ fits.
          let free = ap (λ ps. slice_get ps.slots l) c.self.view_is ∙ ap (slice_get c.args.self.now.slots) c.locale-locale.ensures.locale ∙ fits.2 in
          absurd (taken-slot held l c.index.result.now within c.index.ensures (sym c.if-is_some.ensures) free)),
    )

pub returns : goal.returns
returns g c =
    let p = c.self.inside in
    let same : SameDomain (texts_of c.args.piece.now.domain) (texts_of p.domain) = subst (λ d. SameDomain (texts_of d) (texts_of p.domain)) c.domain.ensures (c.if-not-same_domain.ensures.0 refl) in
    let maps : p.map ≡ c.args.piece.now.map = c.if-not-is.ensures.0 refl ∙ c.map.ensures in
    let within : c.locale-locale.result < length p.held.items = omega arith in
    let free = free-slot p.held.items c.locale-locale.result c.index.result.now within c.index.ensures (sym c.if-is_some.ensures) in (
      (λ yes. (
        subst (λ ps. SameDomain (texts_of c.args.piece.now.domain) (texts_of ps.domain)) c.self.view_is same,
        sym maps ∙ ap (λ ps. ps.map) c.self.view_is,
        ap (slice_get c.args.self.now.slots) (sym c.locale-locale.ensures.locale) ∙ ap (λ ps. slice_get ps.slots c.locale-locale.result) (sym c.self.view_is) ∙ free,
      )),
      (λ fits. refl),
    )
