-- What is printed of the first parts of an array, part by part.
use Rattle.std.specs.Prelude.{ℕ, zero, suc, List, [], ◌∷◌, ◌++◌, ℤ, map}
use Rattle.dpl_sets.specs.TextRanges.{TextRange}
use Rattle.dpl_language.specs.Tree.{Kind}
use Rattle.dpl_language.specs.Ranges.{size_in}
use Rattle.dpl_language.specs.Printing.{printed, joined, pieces, between, laid_out}
use Rattle.dpl_memory.specs.Memory.{element_as}

-- the texts of the elements that words stand for
abbrev pub texts_of : Kind → List ℤ → List (List ℕ)
texts_of kind words = map printed (map (element_as kind) words)

-- the first k parts, each of which is laid out by its own ranges
abbrev pub first_laid_out : ℕ → List TextRange → List (List ℕ) → List ℕ
first_laid_out k rs ts = joined (between rs) (map (laid_out rs) (pieces k (size_in rs) ts))

-- each text behind a space
abbrev pub spaced : List (List ℕ) → List ℕ
spaced [] = []
spaced (t ∷ ts) = 32 ∷ t ++ spaced ts

-- what stands before the part with the number k
abbrev pub gap_before : ℕ → List ℕ → List ℕ
gap_before zero gap = []
gap_before (suc k) gap = gap
