use Rattle.std.proofs.Common.{◌≡◌, ◌<◌, ◌≤◌, ℕ, pos, if◌then◌else◌, get_or, length}
use Rattle.std.specs.Ordering.{int_eq}
use Rattle.dpl_batches.proofs.keep.blend.Given as goal

-- the words in front are blended, and the others are as they were
abbrev pub invariant-loop-k : goal.invariant-loop-k
invariant-loop-k l = record {
  row : l.strip.row ≡ l.initial.strip.row;
  size : l.strip.size ≡ l.initial.strip.size;
  long : length l.strip.words ≡ 64;
  made : (j : ℕ) → j < l.k
      → get_or l.strip.words j (pos 0) ≡ (if int_eq (get_or l.mask j (pos 0)) (pos 0) then get_or l.own j (pos 0) else get_or l.initial.strip.words j (pos 0));
  left : (j : ℕ) → l.k ≤ j → get_or l.strip.words j (pos 0) ≡ get_or l.initial.strip.words j (pos 0);
}
