use Rattle.std.proofs.Common.{◌≡◌, ◌<◌, ◌≤◌, ℕ, pos, None, get_or, length}
use Rattle.dpl_language.specs.Values.{Int}
use Rattle.dpl_language.specs.Arithmetic.{assigned}
use Rattle.dpl_elements.proofs.row.combine.Given as goal

-- the words in front are what the operator makes of the elements, and the others are as they were
abbrev pub invariant-loop-k : goal.invariant-loop-k
invariant-loop-k l = record {
  size : l.strip.size ≡ l.initial.strip.size;
  long : length l.strip.words ≡ 64;
  row : l.strip.row ≡ l.initial.strip.row;
  made : (j : ℕ) → j < l.k → assigned l.fn.op None (Int (get_or l.old j (pos 0))) (Int (get_or l.initial.strip.words j (pos 0))) ≡ Int (get_or l.strip.words j (pos 0));
  left : (j : ℕ) → l.k ≤ j → get_or l.strip.words j (pos 0) ≡ get_or l.initial.strip.words j (pos 0);
}
