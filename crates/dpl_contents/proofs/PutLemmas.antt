-- Words put side by side into the finite map that they are kept as.
-- Each lemma is by the count of the words that are put.
use Rattle.std.proofs.Common.{◌≡◌, ℕ, zero, suc, List, ℤ, slice_get, Option, Some, None, refl, ap, ◌∙◌}
use Rattle.dpl_sets.specs.TextRanges.{TextRange}
use Rattle.dpl_memory.specs.Memory.{held_with}
use Rattle.dpl_array.specs.Elements.{Row, behind, put_in_row, put_some}
use Rattle.dpl_array.specs.Arrays.{ArrayValue, array_with}
use Rattle.dpl_contents.specs.Arrays.{IsArrayOver}
use Rattle.dpl_contents.proofs.Words.{held_with-is, over-with, seen}

module _ (ranges : List TextRange) (t : Row) (words : List ℤ) where
  over-one : (k : ℕ) (o : Option ℤ) (a : ArrayValue ℤ) → IsArrayOver ranges a → IsArrayOver ranges (put_some array_with (behind k t) o a)
  over-one k None a over = over
  over-one k (Some w) a over = over-with ranges a over (behind k t) w (array_with (behind k t) w a) refl

  -- the map stays over the domain
  pub put-over : (n : ℕ) (a : ArrayValue ℤ) → IsArrayOver ranges a → IsArrayOver ranges (put_in_row array_with t words n a)
  put-over zero a over = over
  put-over (suc k) a over = over-one k (slice_get words k) (put_in_row array_with t words k a) (put-over k a over)

  seen-one : (k : ℕ) (o : Option ℤ) (a : ArrayValue ℤ) → IsArrayOver ranges a → seen ranges (put_some array_with (behind k t) o a) ≡ put_some held_with (behind k t) o (seen ranges a)
  seen-one k None a over = refl
  seen-one k (Some w) a over = held_with-is ranges a over (behind k t) w (array_with (behind k t) w a) (seen ranges a) refl refl

  -- and is seen as the words that are put
  pub put-seen : (n : ℕ) (a : ArrayValue ℤ) → IsArrayOver ranges a → seen ranges (put_in_row array_with t words n a) ≡ put_in_row held_with t words n (seen ranges a)
  put-seen zero a over = refl
  put-seen (suc k) a over =
      seen-one k (slice_get words k) (put_in_row array_with t words k a) (put-over k a over)
      ∙ ap (put_some held_with (behind k t) (slice_get words k)) (put-seen k a over)
