-- The pieces of arrays that locales own, and arrays put together again from the memories that are left, each by its locale.
-- Which index is whose is told by a function from indices to locales.
use Rattle.std.specs.Prelude.{ℕ, ◌+◌, ◌==◌, pos, Bool, true, false, if◌then◌else◌, List, [], ◌∷◌, map, filter, unwrap_or}
use Rattle.dpl_language.specs.Values.{Index}
use Rattle.dpl_memory.specs.Memory.{Held, Memory, held_at, array_at, is_among}

-- the piece of an array that a locale owns: the array with the elements at that locale's indices alone
abbrev pub owned_piece : (Index → ℕ) → ℕ → Held → Held
owned_piece owns l a = record {
  ranges = a.ranges;
  keys = filter (λ t. owns t == l) a.keys;
  words = map (λ t. unwrap_or (held_at t a) (pos 0)) (filter (λ t. owns t == l) a.keys);
}

abbrev pub owned_if : Bool → (Index → ℕ) → ℕ → Held → Held
owned_if true owns l a = owned_piece owns l a
owned_if false owns l a = a

-- of the arrays from a slot on the pieces of those that are written, and the others as they are
abbrev pub shares_from : ℕ → List ℕ → (Index → ℕ) → ℕ → List Held → List Held
shares_from first written owns l [] = []
shares_from first written owns l (a ∷ more) = owned_if (is_among first written) owns l a ∷ shares_from (first + 1) written owns l more

-- the memory that is left by a locale; where it left none, a memory as it was
abbrev pub left_by : ℕ → List (ℕ × Memory) → Memory → Memory
left_by l [] m = m
left_by l (w ∷ ws) m = if w.0 == l then w.1 else left_by l ws m

-- an array with the elements that their owners have left
abbrev pub rejoined : (Index → ℕ) → List (ℕ × Memory) → Memory → ℕ → Held → Held
rejoined owns ws m slot a = record a { words = map (λ t. unwrap_or (held_at t (array_at slot (left_by (owns t) ws m))) (pos 0)) a.keys }
