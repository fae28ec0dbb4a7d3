-- Breaches that are told apart from the rest and then with it.
-- Nothing was told apart exactly where there is no breach.
use Rattle.std.proofs.Common.{◌≡◌, true, false, if◌then◌else◌, is_some, is_none, List, [], ◌∷◌, Option, Some, None, refl, sym}
use Rattle.dpl_syntax.specs.declared.refusal.Breach.{Breach}
use Rattle.dpl_rules.specs.Types.{ValueType}
use Rattle.dpl_rules.specs.Breaches.{before, or_lesser, least_from}
use Rattle.dpl_rules.specs.Declarations.{unless_refused}
use Rattle.dpl_rules.proofs.First.{least_from_none, least_from_some}

pub told_apart : (o : Option Breach) (bs : List Breach) → or_lesser o (least_from None bs) ≡ least_from o bs
told_apart o bs = sym (least_from_none o bs)

pub refused_apart : (bs : List Breach) (t : Option ValueType) → unless_refused bs t ≡ (if is_none (least_from None bs) then t else None)
refused_apart [] t = refl
refused_apart (b ∷ bs) t = none (least_from (Some b) bs) (least_from_some b bs)
  where
    none : (o : Option Breach) → is_some o ≡ true → None ≡ (if is_none o then t else None)
    none (Some c) h = refl
    none None h = absurd (let e : false ≡ true = h in cc)

-- nothing was told before, and nothing apart
pub untold-apart : (o p : Option Breach) → or_lesser o p ≡ None → (o ≡ None) × (p ≡ None)
untold-apart o None h = (h, refl)
untold-apart None (Some b) h = absurd (let e : Some b ≡ None = h in cc)
untold-apart (Some a) (Some b) h = absurd (let e : Some (if before b a then b else a) ≡ None = h in cc)
