-- Which entries a gate may refuse of an assignment to a whole array: those of its own loop, or of a reduction in its right side.
use Rattle.std.specs.Prelude.{◌⊎◌, ℕ}
use Rattle.dpl_memory.specs.Memory.{array_at}
use Rattle.dpl_frame.specs.Frames.{Framed, owned_by}
use Rattle.dpl_loop.specs.Entries.{MayRefuse}
use Rattle.dpl_values.specs.Reductions.{MayRefuseReduction}

-- of an assignment to the whole array in a slot, by the reductions in its right side
abbrev pub MayRefuseWhole : (ℕ → ℕ → Type 0) → Framed → ℕ → ((ℕ → Type 0) → Type 0) → Type 0
MayRefuseWhole may f slot each = MayRefuse may (owned_by f slot) (array_at slot f.memory).ranges ⊎ MayRefuseReduction may f each
