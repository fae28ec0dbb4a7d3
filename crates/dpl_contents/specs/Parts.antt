-- The ranges of a domain, taken apart by its rank.
use Rattle.std.specs.Prelude.{List, [], ◌∷◌}
use Rattle.dpl_sets.specs.TextRanges.{TextRange}
use Rattle.dpl_contents.specs.declared.parts.Parts.{Parts}
use Rattle.dpl_contents.specs.declared.parts.Parts.TheVariants.{Line, Plane, Space}
use Rattle.dpl_contents.specs.Range.{range_word}

abbrev pub ranges_of : Parts → List TextRange
ranges_of (Line inner) = range_word inner ∷ []
ranges_of (Plane middle inner) = range_word middle ∷ range_word inner ∷ []
ranges_of (Space outer middle inner) = range_word outer ∷ range_word middle ∷ range_word inner ∷ []
