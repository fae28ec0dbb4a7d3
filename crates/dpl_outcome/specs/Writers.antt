-- When a writer has failed, and what is left of a write that ends early.
use Rattle.std.specs.Prelude.{ℕ, ◌≤◌, Bool, true, ◌||◌, ◌&&◌, not, ◌==◌, List, length, take, Result, Ok, Err, Option}
use Rattle.std.specs.Io.KnownBytes.{Appends}

-- it fails at an error, or where it takes none of some bytes; once it has failed it stays so
abbrev pub fails : {E : Type 0} → Bool → Result ℕ E → List ℕ → Bool
fails failed (Ok n) bytes = failed || ((n == 0) && not (length bytes == 0))
fails failed (Err e) bytes = true

-- a writer took the first bytes of some, perhaps none and perhaps all
abbrev pub Partly : Option (List ℕ) → Option (List ℕ) → List ℕ → Type 0
Partly old new bytes = (n : ℕ) × (n ≤ length bytes) × Appends old new (take n bytes)
