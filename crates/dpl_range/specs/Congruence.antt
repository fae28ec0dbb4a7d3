-- Congruence of integers.
use Rattle.std.specs.Prelude.{ℕ, ◌%◌, ◌==◌, Bool, ℤ, ◌-ℤ◌, unsigned_abs}

-- two integers are congruent modulo n where n divides their difference
abbrev pub is_congruent : ℕ → ℤ → ℤ → Bool
is_congruent n i j = unsigned_abs (j -ℤ i) % n == 0
