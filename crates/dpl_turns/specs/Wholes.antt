-- Assignments to whole arrays: what their turns change, and which right sides they may have, so that they may be made apart.
use Rattle.std.specs.Prelude.{◌≡◌, ℕ, Result, Some, [], ◌∷◌}
use Rattle.dpl_language.specs.Tree.{ExprTree}
use Rattle.dpl_language.specs.Values.{Value, Index, Fault}
use Rattle.dpl_memory.specs.Memory.{Variable, Memory}
use Rattle.dpl_agreement.specs.Scopes.{fits_expr}
use Rattle.dpl_apart.specs.Memories.{Changes, IsLike}
use Rattle.dpl_turns.specs.Bodies.{NoNames, turn_scoping}

-- over a domain of this rank the elements of the array in a slot change, and nothing else
abbrev pub whole_changes : ℕ → ℕ → Changes
whole_changes rank slot = record { rank = rank; written = slot ∷ []; reduced = []; numbers = []; ranges = []; tuples = [] }

-- a value that is the same in memories which are like for an index
abbrev pub IsSeenAt : Changes → Index → (Memory → Result Value Fault) → Type 0
IsSeenAt h t value = (s b : Memory) → IsLike h t s b → value s ≡ value b

-- A promoted expression that at each index reads the array in a slot at that index alone: neither as a whole in a reduction, nor by
-- indices of its own. Other arrays it may read as it likes.
abbrev pub ReadsOwn : ℕ → ℕ → ExprTree Variable → Type 0
ReadsOwn rank slot e = (t : Index) → fits_expr (turn_scoping (whole_changes rank slot) NoNames t) (Some t) e tt
