-- A part's indices in one row: those of its first domain, then those of its second, and so on.
-- Contracts of private functions and the invariant of a piece speak of this row.
use Rattle.std.specs.Prelude.{◌≡◌, ◌≢◌, ◌<◌, ◌+◌, ◌*◌, ℕ, zero, suc, ℤ, List, [], All, length, slice_get, slice_set, slice_index_or, Option, Some, None, take}
use Rattle.std.specs.List.{flat_map, sum_by}
use Rattle.dpl_sets.specs.Ranges.{RangeValue}
use Rattle.dpl_sets.specs.Indices.{indices}

-- the row of some domains
abbrev pub row_of : List (List RangeValue) → List (List ℤ)
row_of domains = flat_map indices domains

-- each domain has an index
abbrev pub AreSome : List (List RangeValue) → Type 0
AreSome domains = All (λ domain. indices domain ≢ []) domains

-- where the indices of a domain begin in the row: behind those of the domains before it
abbrev pub start_of : List (List RangeValue) → ℕ → ℕ
start_of domains k = sum_by (λ d. length (indices d)) (take k domains)

-- the starts of all the domains
pub record AreStarts (domains : List (List RangeValue)) (starts : List ℕ) : Type 0 where
  pub long : length starts ≡ length domains
  pub each : (k : ℕ) → k < length domains → slice_index_or starts k 0 ≡ start_of domains k

-- a list with another element at a place, where there is one for it
abbrev pub set_some : {X : Type 0} → ℕ → Option X → List X → List X
set_some place None xs = xs
set_some place (Some x) xs = slice_set xs place x

-- a list with the first elements of another one, so many of them, each at its place
abbrev pub set_each : {X : Type 0} → (ℕ → ℕ) → List X → ℕ → List X → List X
set_each place ys zero xs = xs
set_each place ys (suc k) xs = set_some (place k) (slice_get ys k) (set_each place ys k xs)

-- places side by side from one on; and as far apart as this
abbrev pub side_by_side : ℕ → ℕ → ℕ
side_by_side place k = place + k

abbrev pub apart_by : ℕ → ℕ → ℕ → ℕ
apart_by pace place k = place + k * pace

-- no element stands at two places
abbrev pub IsDistinct : {X : Type 0} → List X → Type 0
IsDistinct {X = X} xs = (j k : ℕ) (x : X) → slice_get xs j ≡ Some x → slice_get xs k ≡ Some x → j ≡ k

-- something stands in a list
abbrev pub StandsIn : {X : Type 0} → List X → X → Type 0
StandsIn xs x = (k : ℕ) × (slice_get xs k ≡ Some x)
