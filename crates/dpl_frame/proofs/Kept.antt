-- Ranges that a frame keeps, as the language's values: so many alike, and one put into a slot.
-- Each lemma has the values of the kept ranges on its left side.
use Rattle.std.proofs.Common.{◌≡◌, ℕ, zero, suc, List, ◌∷◌, map, replicate, set, refl, ap, ◌∙◌}
use Rattle.std.proofs.lemmas.List.{map-set}
use Rattle.dpl_sets.specs.TextRanges.{TextRange}
use Rattle.dpl_contents.specs.declared.range.RangeWord.{RangeWord}
use Rattle.dpl_contents.specs.Range.{range_word}

words_alike : (n : ℕ) (r : RangeWord) → map range_word (replicate n r) ≡ replicate n (range_word r)
words_alike zero r = refl
words_alike (suc n) r = ap (λ rs. range_word r ∷ rs) (words_alike n r)

pub map_replicate : (n : ℕ) (r : RangeWord) (t : TextRange) → range_word r ≡ t → map range_word (replicate n r) ≡ replicate n t
map_replicate n r t e = words_alike n r ∙ ap (replicate n) e

pub map_set : (rs : List RangeWord) (k : ℕ) (r : RangeWord) → map range_word (set rs k r) ≡ set (map range_word rs) k (range_word r)
map_set rs k r = map-set range_word rs k r
