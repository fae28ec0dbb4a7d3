use Rattle.std.proofs.Common.{◌≡◌, ℕ, ◌≤◌, length, take, drop, false}
use Rattle.std.specs.Io.KnownBytes.{Appends}
use Rattle.dpl_outcome.proofs.writer.write_all.Given as goal

-- the writer has taken all but the rest
abbrev pub invariant-all : goal.invariant-all
invariant-all g l = record {
  taken : (n : ℕ) × (n ≤ length l.bytes) × (l.rest ≡ drop n l.bytes) × Appends (g.W.Out.contents l.initial.out) (g.W.Out.contents l.out) (take n l.bytes);
  unfailed : g.W.Out.has_failed l.out ≡ false;
}

abbrev pub decreases-all : goal.decreases-all
decreases-all g l = length l.rest
