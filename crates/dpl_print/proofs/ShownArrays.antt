-- What is printed of an array in a slot, by its words.
-- No index is listed twice, so that the elements in the domain's order are the words in theirs.
use Rattle.std.proofs.Common.{◌≡◌, ℕ, List, length, map, sym, ap, ◌∙◌}
use Rattle.std.specs.Prelude.{option_map, unwrap_or, pos}
use Rattle.dpl_sets.specs.TextDomains.{values_of}
use Rattle.dpl_language.specs.Values.{Int}
use Rattle.dpl_language.specs.Tree.{Kind}
use Rattle.dpl_language.specs.Ranges.{indices_in, size_in}
use Rattle.dpl_language.specs.Printing.{printed_array}
use Rattle.dpl_memory.specs.Memory.{Held, Memory, array_at, word_at, held_at, element_as}
use Rattle.dpl_contents.specs.Domains.{AreWritten}
use Rattle.dpl_contents.proofs.Sizes.{size_in-is}
use Rattle.dpl_print.specs.Texts.{array_text}
use Rattle.dpl_values.proofs.Listed.{indices_in-distinct, map-word_at}

abbrev text_of : Kind → Held → List ℕ
text_of k a = printed_array a.ranges (map (λ t. unwrap_or (option_map (element_as k) (held_at t a)) (Int (pos 0))) (indices_in a.ranges))

pub array_text-words : (kind : Kind) (slot : ℕ) (s : Memory) (k : Kind) (a : Held) → k ≡ kind → a ≡ array_at slot s → AreWritten (values_of a.ranges) → a.keys ≡ indices_in a.ranges → length a.words ≡ size_in a.ranges
    → array_text kind slot s ≡ printed_array a.ranges (map (element_as k) a.words)
array_text-words kind slot s k a same is written whole long =
    sym (ap (text_of kind) is)
    ∙ sym (ap (λ k. text_of k a) same)
    ∙ ap (λ ts. printed_array a.ranges (map (λ t. unwrap_or (option_map (element_as k) (word_at t ts a.words)) (Int (pos 0))) (indices_in a.ranges))) whole
    ∙ ap (printed_array a.ranges) (map-word_at (λ o. unwrap_or (option_map (element_as k) o) (Int (pos 0))) (indices_in a.ranges) a.words (long ∙ size_in-is a.ranges written) (indices_in-distinct a.ranges written))
