-- The count takes, for a forall on record, the forall of the text that stands at its place: no other one stands there.
use Rattle.std.proofs.Common.{◌≡◌, inl, inr, true, false, List, [], ◌∷◌, sym, ap, ◌∙◌, subst, arith}
use Rattle.std.specs.List.{AllByRecursion}
use Rattle.std.proofs.lemmas.Bool.Decides.{nat_tests}
use Rattle.dpl_syntax.specs.declared.place.Place.{Place}
use Rattle.dpl_layout.specs.Layouts.{LayoutValue}
use Rattle.dpl_language.specs.Outcome.{LoopRun}
use Rattle.dpl_rules.specs.Breaches.{place_before, same_place}
use Rattle.dpl_rules.specs.Foralls.{ForallIn}
use Rattle.dpl_exchange.specs.Counts.{forall_count, count_among}
use Rattle.dpl_places.specs.Rising.{IsRising}
use Rattle.dpl_places.proofs.Foralls.{forall_places}
use Rattle.dpl_run.specs.Dealing.{IsAmong}

same-itself : (p : Place) → same_place p p ≡ true
same-itself p = grind (arith, nat_tests)

before-apart : (p q : Place) → place_before p q ≡ true → same_place q p ≡ false
before-apart p q h = grind (arith, nat_tests, h)

before-among : (p : Place) (fs : List ForallIn) (f : ForallIn) → AllByRecursion (λ q. place_before p q ≡ true) (forall_places fs) → IsAmong f fs → place_before p f.at ≡ true
before-among p [] f all a = absurd a
before-among p (g ∷ fs) f all (inl e) = subst (λ (h : ForallIn). place_before p h.at ≡ true) (sym e) all.0
before-among p (g ∷ fs) f all (inr a) = before-among p fs f all.1 a

module _ (layout : LayoutValue) (l : LoopRun) where
  pub count-at : (fs : List ForallIn) (f : ForallIn) → IsRising (forall_places fs) → IsAmong f fs → l.at ≡ f.at → count_among layout l fs ≡ forall_count layout l f
  count-at [] f rising a at = absurd a
  count-at (g ∷ fs) f rising (inl e) at =
      let same : same_place l.at g.at ≡ true = subst (λ p. same_place p g.at ≡ true) (sym (at ∙ ap (λ (h : ForallIn). h.at) e)) (same-itself g.at) in
      rw same (ap (forall_count layout l) (sym e))
  count-at (g ∷ fs) f rising (inr a) at =
      let apart : same_place l.at g.at ≡ false = subst (λ p. same_place p g.at ≡ false) (sym at) (before-apart g.at f.at (before-among g.at fs f rising.0 a)) in
      rw apart (count-at fs f rising.1 a at)
