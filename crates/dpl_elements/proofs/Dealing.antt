-- A loop or a reduction that a gate refuses refuses the run around it.
use Rattle.std.proofs.Common.{◌≡◌, ◌⊎◌, ⊎_elim, ℕ, List, Result}
use Rattle.dpl_sets.specs.TextRanges.{TextRange}
use Rattle.dpl_map.specs.Maps.{AxisValue, owner}
use Rattle.dpl_language.specs.Outcome.{Deeds, Outcome}
use Rattle.dpl_memory.specs.Memory.{Memory}
use Rattle.dpl_frame.specs.Frames.{Framed}
use Rattle.dpl_loop.specs.declared.stop.RunStop.{RunStop}
use Rattle.dpl_loop.specs.Runs.{RunsTo}
use Rattle.dpl_loop.specs.Entries.{MayRefuse, MayRefuseSome}
use Rattle.dpl_loop.proofs.Ends.{ends-alike, ends-where}
use Rattle.dpl_values.specs.Reductions.{MayRefuseReduction}

-- the same outcome, where more may be refused
pub ends-wider : (may more : Type 0) (r : Result (Unit {0}) RunStop) (s : Memory) (done : Deeds) (o p : Outcome Memory) → (may → more) → p ≡ o → RunsTo may r s done o → RunsTo more r s done p
ends-wider may more r s done o p wider e ends = ends-alike more r s done o p e (ends-where may more r s done o wider ends)

-- an entry of a loop is some entry
pub some-of-loop : (may : ℕ → ℕ → Type 0) (map : List AxisValue) (rs : List TextRange) → MayRefuse may map rs → MayRefuseSome may
some-of-loop may map rs (place, t, at, refuses) = (owner map t, place, refuses)

module _ (may : ℕ → ℕ → Type 0) (f : Framed) (each : (ℕ → Type 0) → Type 0) where
  pub some-of-whole : (map : List AxisValue) (rs : List TextRange) → MayRefuse may map rs ⊎ MayRefuseReduction may f each → MayRefuseSome may
  some-of-whole map rs = ⊎_elim (some-of-loop may map rs) (λ reduction. reduction.0)
