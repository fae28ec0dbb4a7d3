-- The words of an array that is kept as a finite map from indices.
use Rattle.std.specs.Prelude.{◌≡◌, List, ℤ, map}
use Rattle.dpl_sets.specs.TextRanges.{TextRange}
use Rattle.dpl_sets.specs.TextDomains.{values_of}
use Rattle.dpl_array.specs.Elements.{Elements}
use Rattle.dpl_array.specs.Arrays.{ArrayValue, IsArray}
use Rattle.dpl_contents.specs.Domains.{AreWritten}

-- the words of elements, in their order
abbrev pub words_of : Elements ℤ → List ℤ
words_of es = map (λ e. e.1) es

-- the map is over the domain with these ranges
pub record IsArrayOver (ranges : List TextRange) (a : ArrayValue ℤ) : Type 0 where
  pub domain : a.domain ≡ values_of ranges
  pub keys : IsArray a
  pub written : AreWritten (values_of ranges)
