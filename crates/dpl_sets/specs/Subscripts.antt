-- Subscripts of shifted reads.
-- `Subscript` is declared in Rust.
use Rattle.std.specs.Prelude.{ℕ, ℤ}
use Rattle.dpl_sets.specs.declared.subscript.Subscript.{Subscript}

-- a coordinate of the turn's index, counted from 0, and what is added to it
abbrev pub subscript : ℕ → ℤ → Subscript
subscript n z = record { coordinate = n; offset = z }
