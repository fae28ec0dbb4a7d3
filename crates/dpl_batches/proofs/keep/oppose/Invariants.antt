use Rattle.std.proofs.Common.{◌≡◌, ◌<◌, ◌≤◌, ℕ, pos, if◌then◌else◌, get_or, length}
use Rattle.std.specs.Ordering.{int_eq}
use Rattle.dpl_batches.proofs.keep.oppose.Given as goal

-- the words in front are the other ones, and the others are as they were
abbrev pub invariant-loop-k : goal.invariant-loop-k
invariant-loop-k l = record {
  long : length l.met.words ≡ 64;
  made : (j : ℕ) → j < l.k → get_or l.met.words j (pos 0) ≡ (if int_eq (get_or l.initial.met.words j (pos 0)) (pos 0) then pos 1 else pos 0);
  left : (j : ℕ) → l.k ≤ j → get_or l.met.words j (pos 0) ≡ get_or l.initial.met.words j (pos 0);
}
