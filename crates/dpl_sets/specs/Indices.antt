-- The indices of a domain: the tuples of a product of ranges, row by row.
-- A tuple is the list of its coordinates, and a domain value the list of its ranges.
use Rattle.std.specs.Prelude.{◌^◌, ◌≤◌, List, [], ◌∷◌, ℤ, map, flat_map, length}
use Rattle.dpl_sets.specs.Ranges.{RangeValue, members_of}

-- The tuples that take one element from each list: all those with the first list's first element, then all
-- those with its second, and so on; so the last list's elements change fastest.
abbrev pub tuples : List (List ℤ) → List (List ℤ)
tuples [] = [] ∷ []
tuples (is ∷ rest) = flat_map (λ i. map (λ t. i ∷ t) (tuples rest)) is

-- the list that a domain is
unfoldable pub indices : List RangeValue → List (List ℤ)
indices ranges = tuples (map members_of ranges)

-- a domain and an index have 1 to 3 dimensions
abbrev pub IsRank : {A : Type 0} → List A → Type 0
IsRank xs = (1 ≤ length xs) × (length xs ≤ 3)

-- a domain has at most 2^40 indices
abbrev pub IsSmall : List RangeValue → Type 0
IsSmall ranges = length (indices ranges) ≤ 2 ^ 40
