-- Parts of lists, and what they have of the lists that they are parts of.
use Rattle.std.proofs.Common.{◌≡◌, inl, inr, true, List, [], ◌∷◌, ◌++◌, refl, sym, subst}
use Rattle.std.specs.List.{AllByRecursion}
use Rattle.dpl_syntax.specs.declared.place.Place.{Place}
use Rattle.dpl_rules.specs.Breaches.{place_before}
use Rattle.dpl_places.specs.Rising.{IsRising, IsPart}

module _ {A : Type 0} where
  pub part-none : (ys : List A) → IsPart [] ys
  part-none [] = refl
  part-none (y ∷ ys) = tt

  pub part-later : (xs : List A) (y : A) (ys : List A) → IsPart xs ys → IsPart xs (y ∷ ys)
  part-later [] y ys h = tt
  part-later (x ∷ xs) y ys h = inr h

  pub part-both : (xs ys us vs : List A) → IsPart xs us → IsPart ys vs → IsPart (xs ++ ys) (us ++ vs)
  part-both xs ys [] vs h k = subst (λ zs. IsPart (zs ++ ys) vs) (sym h) k
  part-both [] ys (u ∷ us) vs h k = part-later ys u (us ++ vs) (part-both [] ys us vs (part-none us) k)
  part-both (x ∷ xs) ys (u ∷ us) vs (inl h) k = inl (h.0, part-both xs ys us vs h.1 k)
  part-both (x ∷ xs) ys (u ∷ us) vs (inr h) k = inr (part-both (x ∷ xs) ys us vs h k)

  pub all-part : (P : A → Type 0) (xs ys : List A) → AllByRecursion P ys → IsPart xs ys → AllByRecursion P xs
  all-part P xs [] all h = subst (AllByRecursion P) (sym h) tt
  all-part P [] (y ∷ ys) all h = tt
  all-part P (x ∷ xs) (y ∷ ys) all (inl h) = (subst P (sym h.0) all.0, all-part P xs ys all.1 h.1)
  all-part P (x ∷ xs) (y ∷ ys) all (inr h) = all-part P (x ∷ xs) ys all.1 h

pub rising-part : (ps qs : List Place) → IsRising qs → IsPart ps qs → IsRising ps
rising-part ps [] rising h = subst IsRising (sym h) tt
rising-part [] (q ∷ qs) rising h = tt
rising-part (p ∷ ps) (q ∷ qs) rising (inl h) =
    (subst (λ r. AllByRecursion (λ s. place_before r s ≡ true) ps) (sym h.0) (all-part (λ s. place_before q s ≡ true) ps qs rising.0 h.1), rising-part ps qs rising.1 h.1)
rising-part (p ∷ ps) (q ∷ qs) rising (inr h) = rising-part (p ∷ ps) qs rising.1 h
