-- What functions that look at rules promise: the first breach so far, and that a rule has none.
-- A rule's breaches are a list; of all that are told the first is kept.
use Rattle.std.specs.Prelude.{◌≡◌, Bool, true, false, List, [], ◌∷◌, Option}
use Rattle.dpl_syntax.specs.declared.refusal.Breach.{Breach}
use Rattle.dpl_rules.specs.Breaches.{least_from}

abbrev pub are_none : List Breach → Bool
are_none [] = true
are_none (b ∷ bs) = false

-- whether a rule has no breaches, and the first of a breach that was told before and the rule's
abbrev pub Owes : List Breach → Bool → Option Breach → Option Breach → Type 0
Owes breaches holds old new = (holds ≡ are_none breaches) × (new ≡ least_from old breaches)
