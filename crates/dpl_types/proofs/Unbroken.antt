-- Where nothing was told, nothing is broken; and a test that is owed, and breaks no rule, holds.
use Rattle.std.proofs.Common.{◌≡◌, Bool, true, false, ◌&&◌, if◌then◌else◌, List, [], ◌∷◌, Option, Some, None, refl}
use Rattle.dpl_syntax.specs.declared.place.Place.{Place}
use Rattle.dpl_syntax.specs.declared.refusal.Breach.{Breach}
use Rattle.dpl_syntax.specs.declared.refusal.Code.{Code}
use Rattle.dpl_rules.specs.Verdicts.{owed}
use Rattle.dpl_rules.specs.Breaches.{before, least_from}

some-least : (b : Breach) (bs : List Breach) → least_from (Some b) bs ≡ None → ⊥
some-least b [] e = let f : Some b ≡ None = e in cc
some-least b (c ∷ cs) e = some-least (if before c b then c else b) cs e

pub unbroken : (o : Option Breach) (bs : List Breach) → least_from o bs ≡ None → (o ≡ None) × (bs ≡ [])
unbroken o [] e = (e, refl)
unbroken None (b ∷ bs) e = absurd (some-least b bs e)
unbroken (Some a) (b ∷ bs) e = absurd (some-least (if before b a then b else a) bs e)

pub owed-holds : (b : Bool) (at : Place) (code : Code) → owed b at code ≡ [] → b ≡ true
owed-holds true at code e = refl
owed-holds false at code e = absurd cc

pub both-hold : (a b : Bool) → (a && b) ≡ true → (a ≡ true) × (b ≡ true)
both-hold true b e = (refl, e)
both-hold false b e = absurd cc
