-- The slot of each declaration in sight: as many scopes and declarations as were in sight before it.
-- So no two declarations in sight have one slot, and what is declared later has a later one.
use Rattle.std.specs.Prelude.{ℕ, suc, ◌+◌, max, bytes_eq, if◌then◌else◌, [], ◌∷◌, length, Option, Some, None}
use Rattle.dpl_language.specs.Names.{Text}
use Rattle.dpl_rules.specs.Sights.{Scope, Scopes}

-- how many scopes and declarations are in sight
abbrev pub count_in : Scopes → ℕ
count_in [] = 0
count_in (s ∷ ss) = length s + suc (count_in ss)

-- the slot of the next declaration; where no scope is open, it opens one before it
abbrev pub next_slot_in : Scopes → ℕ
next_slot_in ss = max (count_in ss) 1

-- of the declarations of one scope, the latest first, that of a name: behind those before it, which begin at a slot
abbrev pub place_in : Scope → Text → ℕ → Option ℕ
place_in [] x begin = None
place_in (d ∷ ds) x begin = if bytes_eq x d.origin.name then Some (length ds + begin) else place_in ds x begin

abbrev pub slot_or : Option ℕ → Option ℕ → Option ℕ
slot_or None other = other
slot_or (Some slot) other = Some slot

-- of the innermost declaration of a name: its scope stands behind those outside
abbrev pub slot_in : Scopes → Text → Option ℕ
slot_in [] x = None
slot_in (s ∷ ss) x = slot_or (place_in s x (suc (count_in ss))) (slot_in ss x)
