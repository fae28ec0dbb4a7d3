-- The locales so far have their parts.
use Rattle.std.proofs.Common.{◌≡◌, ◌<◌, ℕ, None, get_or, length}
use Rattle.dpl_workers.specs.Parts.{IsPart}
use Rattle.dpl_workers.proofs.parts.parts.Given as goal

abbrev pub invariant-loop-locale : goal.invariant-loop-locale
invariant-loop-locale l = record {
  long : length l.parts.items ≡ l.locale;
  each : (k : ℕ) → k < length l.parts.items → IsPart l.whole l.map k (get_or l.parts.items k None);
}
