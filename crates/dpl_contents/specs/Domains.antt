-- The domain that the ranges of a `Domain` are, with three flags that say which of them the text strides.
use Rattle.std.specs.Prelude.{Bool, false, List, [], ◌∷◌, length}
use Rattle.dpl_sets.specs.Ranges.{RangeValue, IsStride}
use Rattle.dpl_range.specs.Invariant.{IsRange}
use Rattle.dpl_sets.specs.TextRanges.{TextRange}
use Rattle.dpl_domain.specs.Ranks.{IsPadded}
use Rattle.dpl_contents.specs.Flags.{flagged}

-- the last range has the last flag
abbrev pub text_ranges : List RangeValue → Bool → Bool → Bool → List TextRange
text_ranges [] outer middle inner = []
text_ranges (z ∷ []) outer middle inner = flagged z inner ∷ []
text_ranges (y ∷ z ∷ []) outer middle inner = flagged y middle ∷ flagged z inner ∷ []
text_ranges (x ∷ y ∷ z ∷ more) outer middle inner = flagged x outer ∷ flagged y middle ∷ flagged z inner ∷ []

-- each range is within the limits, and its stride is one that a text can have
abbrev pub AreWritten : List RangeValue → Type 0
AreWritten [] = Unit {0}
AreWritten (r ∷ rs) = IsRange r × IsStride r.stride × AreWritten rs

-- there are one to three ranges, and no flag is set that none of them has
pub record IsFlagged (ranges : List RangeValue) (outer middle : Bool) : Type 0 where
  pub padded : IsPadded false (length ranges) outer middle
  pub written : AreWritten ranges
