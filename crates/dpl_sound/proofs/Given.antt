-- What a verdict tells, where it gives a type: the tests that held, and which type it is.
-- One lemma for each way in which the rules put verdicts together.
use Rattle.std.proofs.Common.{◌≡◌, Bool, true, false, List, [], ◌∷◌, Option, Some, None, refl}
use Rattle.std.specs.Prelude.{◌&&◌, not}
use Rattle.dpl_syntax.specs.declared.place.Place.{Place}
use Rattle.dpl_syntax.specs.declared.refusal.Breach.{Breach}
use Rattle.dpl_syntax.specs.declared.refusal.Code.{Code}
use Rattle.dpl_rules.specs.Types.{ValueType}
use Rattle.dpl_rules.specs.Verdicts.{Verdict, type_by, owed, has_if, judged, with_type}

pub some-same : {A : Type 0} (a b : A) → Some a ≡ Some b → a ≡ b
some-same a b h = cc

pub both_so : (a b : Bool) → (a && b) ≡ true → (a ≡ true) × (b ≡ true)
both_so true b h = (refl, h)
both_so false b h = absurd cc

pub owed_not-holds : (b : Bool) (at : Place) (code : Code) → owed (not b) at code ≡ [] → b ≡ false
owed_not-holds true at code h = absurd cc
owed_not-holds false at code h = refl

pub has_if-gives : (b : Bool) (t : ValueType) (at : Place) (u : ValueType) → type_by (has_if b t at) ≡ Some u → (b ≡ true) × (t ≡ u)
has_if-gives true t at u h = (refl, some-same t u h)
has_if-gives false t at u h = absurd cc

pub judged-gives : (known : Bool) (bs : List Breach) (t u : ValueType) → type_by (judged known bs t) ≡ Some u → (known ≡ true) × (bs ≡ []) × (t ≡ u)
judged-gives known (b ∷ bs) t u h = absurd cc
judged-gives true [] t u h = (refl, refl, some-same t u h)
judged-gives false [] t u h = absurd cc

pub with_type-gives : (o : Option ValueType) (go : ValueType → Verdict) (u : ValueType) → type_by (with_type o go) ≡ Some u
    → (t : ValueType) × (o ≡ Some t) × (type_by (go t) ≡ Some u)
with_type-gives None go u h = absurd cc
with_type-gives (Some t) go u h = (t, refl, h)
