-- The turns of a locale's own indices, and the values at them, as such of whatever indices.
use Rattle.std.specs.Prelude.{ℕ, ◌==◌, if◌then◌else◌, Result, Ok}
use Rattle.dpl_language.specs.Tree.{Op}
use Rattle.dpl_language.specs.Values.{Value, Index, Fault}
use Rattle.dpl_language.specs.Arithmetic.{unit_of}
use Rattle.dpl_language.specs.Outcome.{Run, Done}
use Rattle.dpl_memory.specs.Memory.{Memory}

-- a turn that is made by the owner of its index alone, and else does nothing
abbrev pub owned_turn : (Index → ℕ) → ℕ → (Index → Run Memory) → Index → Run Memory
owned_turn owns l turn t s done = if owns t == l then turn t s done else Done s done

-- a value that the owner of its index puts to the others, and else nothing is
abbrev pub owned_value : (Index → ℕ) → ℕ → Op → (Index → Result Value Fault) → Index → Result Value Fault
owned_value owns l op value t = if owns t == l then value t else Ok (unit_of op)
