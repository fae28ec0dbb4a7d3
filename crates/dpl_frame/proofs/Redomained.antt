-- The arrays of a frame that get another domain, one slot after another.
-- Each lemma has the slots that were done and those that are left on its left side.
use Rattle.std.proofs.Common.{◌≡◌, ℕ, ◌+◌, ◌<◌, arith, List, [], ◌∷◌, ◌++◌, length, take, drop, set, get_or, sym, ap, ◌∙◌}
use Rattle.std.proofs.lemmas.List.{append_assoc, append-nil, take_more_set, drop-set-lt, drop_more}
use Rattle.std.proofs.Math.Seq.{take-length, drop-length}
use Rattle.dpl_sets.specs.TextRanges.{TextRange}
use Rattle.dpl_memory.specs.Memory.{Held, no_array, held_over_if, is_among, redomained_from}

module _ (slots : List ℕ) (rs : List TextRange) where
  abbrev moved_at : ℕ → List Held → Held
  moved_at k xs = held_over_if (is_among k slots) rs (get_or xs k no_array)

  -- the slots below k are done
  abbrev pub so_far : ℕ → List Held → List Held
  so_far k xs = take k xs ++ redomained_from k slots rs (drop k xs)

  pub so_far-next : (k : ℕ) (xs : List Held) → k < length xs → so_far (k + 1) (set xs k (moved_at k xs)) ≡ so_far k xs
  so_far-next k xs within =
      ap (λ done. done ++ redomained_from (k + 1) slots rs (drop (k + 1) (set xs k (moved_at k xs)))) (take_more_set xs k (moved_at k xs) within)
      ∙ ap (λ left. (take k xs ++ moved_at k xs ∷ []) ++ redomained_from (k + 1) slots rs left) (drop-set-lt (k + 1) xs k (moved_at k xs) (omega arith))
      ∙ append_assoc (take k xs) (moved_at k xs ∷ []) (redomained_from (k + 1) slots rs (drop (k + 1) xs))
      ∙ ap (λ left. take k xs ++ redomained_from k slots rs left) (sym (drop_more xs k no_array within))

  pub so_far-all : (xs : List Held) → so_far (length xs) xs ≡ xs
  so_far-all xs = ap (λ left. take (length xs) xs ++ redomained_from (length xs) slots rs left) (drop-length xs) ∙ append-nil (take (length xs) xs) ∙ take-length xs
