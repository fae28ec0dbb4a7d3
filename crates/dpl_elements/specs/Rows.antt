-- Ints that go into the elements of a row, and what that leaves of all arrays.
-- It is what putting them one by one does: the next int finds what those before it have left.
use Rattle.std.specs.Prelude.{◌≡◌, ◌≢◌, ◌+◌, ◌<◌, ℕ, pos, List, get_or}
use Rattle.dpl_array.specs.Elements.{Row, behind}
use Rattle.dpl_language.specs.Tree.{AssignTree, IntKind}
use Rattle.dpl_language.specs.Values.{Int}
use Rattle.dpl_language.specs.Outcome.{Deeds, Done}
use Rattle.dpl_language.specs.Environment.{Limits}
use Rattle.dpl_language.specs.Assignments.{change}
use Rattle.dpl_memory.specs.Memory.{Held, Memory, no_array, held_at, in_memory}
use Rattle.dpl_nodes.specs.declared.step.ArrayName.{ArrayName}
use Rattle.dpl_nodes.specs.Steps.{array_leaf}
use Rattle.dpl_loop.specs.declared.strip.Strip.{Strip}

pub record ArePut (limits : Limits) (x : ArrayName) (sign : AssignTree) (at : Row) (strip : Strip) (size : ℕ) (before after : List Held) : Type 0 where
  -- the arrays after so many
  pub between : ℕ → List Held
  pub begins : between 0 ≡ before
  pub ends : between size ≡ after
  -- the change of one element, in whichever memory has these arrays
  pub each : (k : ℕ) → k < size → (u : Memory) → u.arrays ≡ between k → (done : Deeds)
      → change limits in_memory (array_leaf IntKind x) sign (behind k at) (Int (get_or strip.words k (pos 0))) u done ≡ Done (record u { arrays = between (k + 1) }) done
  -- what is found meanwhile: in other slots, and at the next index
  pub others : (k slot : ℕ) → slot ≢ x.slot → get_or (between k) slot no_array ≡ get_or before slot no_array
  pub next : (k slot : ℕ) → k < size → held_at (behind k at) (get_or (between k) slot no_array) ≡ held_at (behind k at) (get_or before slot no_array)
