use Rattle.std.proofs.Common.{◌≡◌, ◌<◌, ◌≤◌, ℕ, pos, if◌then◌else◌, get_or, length}
use Rattle.std.specs.Ordering.{int_eq}
use Rattle.dpl_batches.proofs.keep.narrow.Given as goal

-- the words in front are 0 where the mask's are, and the others are as they were
abbrev pub invariant-loop-k : goal.invariant-loop-k
invariant-loop-k l = record {
  long : length l.holds.words ≡ 64;
  made : (j : ℕ) → j < l.k → get_or l.holds.words j (pos 0) ≡ (if int_eq (get_or l.mask j (pos 0)) (pos 0) then pos 0 else get_or l.initial.holds.words j (pos 0));
  left : (j : ℕ) → l.k ≤ j → get_or l.holds.words j (pos 0) ≡ get_or l.initial.holds.words j (pos 0);
}
