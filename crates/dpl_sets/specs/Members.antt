-- The members of a range: the list of integers that its bounds and its stride stand for.
-- Written from the language's rule; the code has a closed form instead, which is proved equal.
use Rattle.std.specs.Prelude.{ℕ, zero, suc, ◌-◌, List, [], ◌∷◌, reverse, ℤ, pos, negsuc, ◌+ℤ◌, ◌-ℤ◌}

-- an integer as a number of things: itself, or none where it is negative
abbrev pub count_of : ℤ → ℕ
count_of (pos n) = n
count_of (negsuc n) = 0

-- n integers in rising order, the first of them given
abbrev pub rising : ℤ → ℕ → List ℤ
rising first zero = []
rising first (suc n) = first ∷ rising (first +ℤ pos 1) n

-- the integers from low to high in rising order, none where high is below low
abbrev pub between : ℤ → ℤ → List ℤ
between low high = rising low (count_of (high +ℤ pos 1 -ℤ low))

-- of a list: pass over `wait` elements, keep one, and from then on pass over `gap` before each that is kept
abbrev pub spaced : ℕ → ℕ → List ℤ → List ℤ
spaced gap wait [] = []
spaced gap zero (i ∷ is) = i ∷ spaced gap gap is
spaced gap (suc wait) (i ∷ is) = spaced gap wait is

-- the first element of a list and each n-th after it, for an n from 1
abbrev pub every : ℕ → List ℤ → List ℤ
every n is = spaced (n - 1) 0 is

-- A stride above 0 keeps every stride-th of the integers from low to high, beginning with the lowest;
-- a stride below 0 begins with the highest and goes down.
unfoldable pub members : ℤ → ℤ → ℤ → List ℤ
members low high (pos stride) = every stride (between low high)
members low high (negsuc n) = every (suc n) (reverse (between low high))
