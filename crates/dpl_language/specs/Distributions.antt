-- What a text names for a domain or an array: how its indices are dealt out over locales. No meaning asks for it but the count
-- of remote elements, so it changes nothing of what is written.
use Rattle.std.specs.Prelude.{List, []}
use Rattle.dpl_sets.specs.TextRanges.{TextRange}
use Rattle.dpl_language.specs.Values.{Index}

-- `blockDist` over a box, `cyclicDist` from a start, `blockCycDist` from a start in blocks of some sizes; or no map is
-- named, or one of which an argument has no value
pub data Distribution : Type 0 where
  NoMap : Distribution
  BlockOver : List TextRange → Distribution
  CyclicFrom : Index → Distribution
  BlockCyclicFrom : Index → Index → Distribution

-- A root: what is named for a domain or an array that has a map of its own, and the domain that it was declared with.
-- Other domains and arrays have the root of the name from which they are derived.
pub record Root : Type 0 where
  pub named : Distribution
  pub domain : List TextRange

-- that of a name which is neither a domain nor an array
abbrev pub no_root : Root
no_root = record { named = NoMap; domain = [] }
