-- Whole arrays stay whole: an array of a memory has all of its domain's indices, whatever a program does.
-- Only where a memory is cut into pieces has one fewer.
use Rattle.std.proofs.Common.{◌≡◌, ℕ, zero, suc, ◌+◌, Bool, true, false, List, [], ◌∷◌, refl}
use Rattle.std.specs.Prelude.{get_or, set, replicate}
use Rattle.dpl_sets.specs.TextRanges.{TextRange}
use Rattle.dpl_sets.specs.Indices.{indices}
use Rattle.dpl_sets.specs.Members.{members}
use Rattle.dpl_language.specs.Values.{Value, Index}
use Rattle.dpl_language.specs.Ranges.{indices_in}
use Rattle.dpl_memory.specs.Memory.{VariableKind, PlainKind, ArrayKind, Variable, Held, Memory, no_array, array_at, is_among, held_over_if, redomained_from, redomained_in, with_value_in, with_element_in, with_array, declared_array}

abbrev pub IsWholeArray : Held → Type 0
IsWholeArray a = a.keys ≡ indices_in a.ranges

abbrev pub AreWhole : Memory → Type 0
AreWhole s = (slot : ℕ) → IsWholeArray (array_at slot s)

-- what holds of each array of a list, and of the one that stands past its end, holds of each where another is put
each-set : (hs : List Held) (slot : ℕ) (a d : Held) → IsWholeArray a → ((j : ℕ) → IsWholeArray (get_or hs j d)) → (j : ℕ) → IsWholeArray (get_or (set hs slot a) j d)
each-set [] slot a d here h j = h j
each-set (b ∷ hs) zero a d here h zero = here
each-set (b ∷ hs) zero a d here h (suc j) = h (suc j)
each-set (b ∷ hs) (suc slot) a d here h zero = h zero
each-set (b ∷ hs) (suc slot) a d here h (suc j) = each-set hs slot a d here (λ i. h (suc i)) j

pub whole-array : (slot : ℕ) (a : Held) (s : Memory) → IsWholeArray a → AreWhole s → AreWhole (with_array slot a s)
whole-array slot a s here h = each-set s.arrays slot a no_array here h

pub whole-set : (k : VariableKind) (slot : ℕ) (v : Value) (s : Memory) → AreWhole s → AreWhole (with_value_in k slot v s)
whole-set (PlainKind k) slot v s h = h
whole-set _ slot v s h = h

pub whole-element : (k : VariableKind) (slot : ℕ) (t : Index) (v : Value) (s : Memory) → AreWhole s → AreWhole (with_element_in k slot t v s)
whole-element (ArrayKind k) slot t v s h = whole-array slot _ s (h slot) h
whole-element _ slot t v s h = h

pub whole-declared : (k : VariableKind) (slot : ℕ) (a : Held) (s : Memory) → IsWholeArray a → AreWhole s → AreWhole (declared_array k slot a s)
whole-declared (ArrayKind k) slot a s here h = whole-array slot a s here h
whole-declared _ slot a s here h = h

-- another domain, for those in some slots
over-whole : (c : Bool) (rs : List TextRange) (a : Held) → IsWholeArray a → IsWholeArray (held_over_if c rs a)
over-whole true rs a h = refl
over-whole false rs a h = h

each-redomained : (first : ℕ) (slots : List ℕ) (rs : List TextRange) (hs : List Held) (d : Held) → ((j : ℕ) → IsWholeArray (get_or hs j d)) → (j : ℕ) → IsWholeArray (get_or (redomained_from first slots rs hs) j d)
each-redomained first slots rs [] d h j = h j
each-redomained first slots rs (a ∷ hs) d h zero = over-whole (is_among first slots) rs a (h zero)
each-redomained first slots rs (a ∷ hs) d h (suc j) = each-redomained (first + 1) slots rs hs d (λ i. h (suc i)) j

pub whole-redomained : (x : Variable) (rs : List TextRange) (s : Memory) → AreWhole s → AreWhole (redomained_in x rs s)
whole-redomained x rs s h = each-redomained 0 x.along rs s.arrays no_array h

-- a memory at the start has an array without indices in each slot
pub whole-first : (slots : ℕ) (j : ℕ) → IsWholeArray (get_or (replicate slots no_array) j no_array)
unfolding indices members
whole-first zero j = refl
whole-first (suc slots) zero = refl
whole-first (suc slots) (suc j) = whole-first slots j
