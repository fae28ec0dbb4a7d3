use Rattle.std.proofs.Common.{◌≡◌, ◌<◌, ℕ, pos, ◌+ℤ◌, ◌*ℤ◌, length, get_or}
use Rattle.dpl_language.specs.Arithmetic.{wrap}
use Rattle.dpl_strips.proofs.turn_strips.count.Given as goal

-- the words in front follow one another, and the next one follows them
abbrev pub invariant-loop-k : goal.invariant-loop-k
invariant-loop-k l = record {
  row : l.strip.row ≡ l.initial.strip.row;
  long : length l.strip.words ≡ 64;
  counted : (j : ℕ) → j < l.k → get_or l.strip.words j (pos 0) ≡ wrap (l.from +ℤ l.step *ℤ pos j);
  next : l.next ≡ wrap (l.from +ℤ l.step *ℤ pos l.k);
}
