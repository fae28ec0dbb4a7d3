-- A range as a value of the language.
use Rattle.dpl_sets.specs.TextRanges.{TextRange}
use Rattle.dpl_contents.specs.declared.range.RangeWord.{RangeWord}

-- its members in order, and whether the text strides it
abbrev pub range_word : RangeWord → TextRange
range_word r = record { value = r.range; strided = r.strided }
