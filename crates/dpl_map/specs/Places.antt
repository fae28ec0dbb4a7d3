-- Who owns an index along one dimension: the formulas of the language over whole numbers without a limit.
-- Division is rounded down, and a remainder by n is from 0 to n - 1.
use Rattle.std.specs.Prelude.{ℕ, ◌-◌, ℤ, pos, ◌+ℤ◌, ◌-ℤ◌, ◌*ℤ◌, int_lt, if◌then◌else◌}
use Rattle.std.specs.Int.{int_div_euclid, int_rem_euclid}
use Rattle.dpl_sets.specs.Members.{count_of}

-- Block, with a box low..high over n coordinates: an index i in the box goes to
-- floor((i - low) * n / (high - low + 1)), one below the box to 0, and one above it to n - 1.
unfoldable pub block_place : ℤ → ℤ → ℕ → ℤ → ℕ
block_place low high n i =
    if int_lt i low then 0 else if int_lt high i then n - 1 else count_of (int_div_euclid ((i -ℤ low) *ℤ pos n) (high -ℤ low +ℤ pos 1))

-- Cyclic, from a start over n coordinates: i goes to (i - start) mod n.
unfoldable pub cyclic_place : ℤ → ℕ → ℤ → ℕ
cyclic_place start n i = count_of (int_rem_euclid (i -ℤ start) (pos n))

-- Block-cyclic, from a start in blocks of a size over n coordinates: i goes to floor((i - start) / blocksize) mod n,
-- below the start too.
unfoldable pub block_cyclic_place : ℤ → ℤ → ℕ → ℤ → ℕ
block_cyclic_place start blocksize n i = count_of (int_rem_euclid (int_div_euclid (i -ℤ start) blocksize) (pos n))
