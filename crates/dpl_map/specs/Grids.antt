-- The locales of a grid: a grid is the list of its extents.
use Rattle.std.specs.Prelude.{ℕ, ◌+◌, ◌*◌, ◌≤◌, List, [], ◌∷◌}

-- how many locales a grid has: the product of its extents
abbrev pub grid_size : List ℕ → ℕ
grid_size [] = 1
grid_size (n ∷ ns) = n * grid_size ns

-- The number of the locale with given coordinates: locales are numbered row by row, so the rows before its own
-- come first, and then its place in the row.
abbrev pub grid_locale : List ℕ → List ℕ → ℕ
grid_locale (n ∷ ns) (c ∷ cs) = c * grid_size ns + grid_locale ns cs
grid_locale _ _ = 0

-- a grid has 1 to 64 locales
abbrev pub IsGridSize : ℕ → Type 0
IsGridSize n = (1 ≤ n) × (n ≤ 64)
