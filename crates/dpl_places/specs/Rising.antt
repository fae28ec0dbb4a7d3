-- Places that rise, by line and then by column; and what is left of a list where some of it is left out.
use Rattle.std.specs.Prelude.{◌≡◌, ◌⊎◌, true, List, [], ◌∷◌}
use Rattle.std.specs.List.{AllByRecursion}
use Rattle.dpl_syntax.specs.declared.place.Place.{Place}
use Rattle.dpl_rules.specs.Breaches.{place_before}

-- each is before all behind it
abbrev pub IsRising : List Place → Type 0
IsRising [] = Unit {0}
IsRising (p ∷ ps) = AllByRecursion (λ q. place_before p q ≡ true) ps × IsRising ps

-- some of a list's elements, in their order
abbrev pub IsPart : {A : Type 0} → List A → List A → Type 0
IsPart xs [] = xs ≡ []
IsPart [] (y ∷ ys) = Unit {0}
IsPart (x ∷ xs) (y ∷ ys) = ((x ≡ y) × IsPart xs ys) ⊎ IsPart (x ∷ xs) ys
