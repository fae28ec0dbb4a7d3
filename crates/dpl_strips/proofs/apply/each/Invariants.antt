use Rattle.std.proofs.Common.{◌≡◌, ◌<◌, ◌≤◌, ℕ, pos, length, get_or}
use Rattle.dpl_strips.proofs.apply.each.Given as goal

-- the words in front are what the function makes of the strip's, and the others are as they were
abbrev pub invariant-loop-k : goal.invariant-loop-k
invariant-loop-k g l = record {
  row : l.strip.row ≡ l.initial.strip.row;
  size : l.strip.size ≡ l.initial.strip.size;
  long : length l.strip.words ≡ 64;
  made : (j : ℕ) → j < l.k → g.F.Fn.post l.apply (get_or l.initial.strip.words j (pos 0), tt) (get_or l.strip.words j (pos 0));
  left : (j : ℕ) → l.k ≤ j → get_or l.strip.words j (pos 0) ≡ get_or l.initial.strip.words j (pos 0);
}
