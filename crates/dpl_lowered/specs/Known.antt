-- What a lowering may know of a name: whether its values are those of whole arrays.
-- With nothing known, lowered trees mean the same in every environment; with more known, in each that agrees with it.
use Rattle.std.specs.Prelude.{◌≡◌, Bool, true, false, Some, None, List}
use Rattle.dpl_sets.specs.TextRanges.{TextRange}
use Rattle.dpl_language.specs.Values.{Value, array_domain, is_domain}
use Rattle.dpl_language.specs.Environment.{Environment}

-- Of a name nothing may be known; or that it is an array's; or that it is none's; or neither an array's nor a domain's.
pub data Known : Type 0 where
  Unknown : Known
  WholeArray : Known
  NoArray : Known
  PlainValue : Known

abbrev pub nothing_known : {N : Type 0} → N → Known
nothing_known x = Unknown

-- the name may be an array's, and that of an array or a domain
abbrev pub may_be_array : Known → Bool
may_be_array Unknown = true
may_be_array WholeArray = true
may_be_array NoArray = false
may_be_array PlainValue = false

abbrev pub may_be_whole : Known → Bool
may_be_whole Unknown = true
may_be_whole WholeArray = true
may_be_whole NoArray = true
may_be_whole PlainValue = false

-- a value is as is known of its name
abbrev pub IsAsKnown : Known → Value → Type 0
IsAsKnown Unknown v = Unit {0}
IsAsKnown WholeArray v = (rs : List TextRange) × (array_domain v ≡ Some rs)
IsAsKnown NoArray v = array_domain v ≡ None
IsAsKnown PlainValue v = (array_domain v ≡ None) × (is_domain v ≡ false)

-- in each state each name's value is as is known
abbrev pub IsKnown : {N S : Type 0} → (N → Known) → Environment N S → Type 0
IsKnown {N} {S} known env = (x : N) (s : S) → IsAsKnown (known x) (env.get x s)
