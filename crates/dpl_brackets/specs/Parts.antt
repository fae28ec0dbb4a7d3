-- What the parts of a form are where its rule is met: all of one type, or an index.
-- A form has a type where its rule is met and its parts have types.
use Rattle.std.specs.Prelude.{◌≡◌, Bool, true, false, ◌&&◌, ◌||◌, List, [], ◌∷◌, Option, is_some}
use Rattle.dpl_syntax.specs.declared.refusal.Breach.{Breach}
use Rattle.dpl_rules.specs.Types.{ValueType, has, is_int, tuple_of}
use Rattle.dpl_rules.specs.Verdicts.{Part}
use Rattle.dpl_rules.specs.Breaches.{least_from}
use Rattle.dpl_types.specs.Owes.{are_none}

-- whether all parts have types and nothing is broken, and the first of a breach that was told before and these
abbrev pub Passes : Bool → List Breach → Bool → Option Breach → Option Breach → Type 0
Passes known breaches result old new = (result ≡ (known && are_none breaches)) × (new ≡ least_from old breaches)

-- each part has a type, of which a test holds
abbrev pub all_are : (ValueType → Bool) → List Part → Bool
all_are test [] = true
all_are test (p ∷ ps) = has test p.type && all_are test ps

abbrev pub is_tuple : ValueType → Bool
is_tuple t = is_some (tuple_of t)

-- ints, or one tuple
abbrev pub are_index : List Part → Bool
are_index [] = false
are_index (p ∷ []) = has is_int p.type || has is_tuple p.type
are_index (p ∷ q ∷ ps) = all_are is_int (p ∷ q ∷ ps)
