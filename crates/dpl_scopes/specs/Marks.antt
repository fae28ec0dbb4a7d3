-- What a list of marks says, the latest first: the scopes that they leave open, and where a name was declared last.
-- The place of a mark is how many there were before it.
use Rattle.std.specs.Prelude.{◌≡◌, ℕ, List, [], ◌∷◌, length, Option, Some, None, bytes_eq, if◌then◌else◌}
use Rattle.dpl_language.specs.Names.{Text}
use Rattle.dpl_rules.specs.Sights.{Scopes, enter, add}
use Rattle.dpl_scopes.specs.declared.scopes.Mark.{Mark}
use Rattle.dpl_scopes.specs.declared.scopes.Mark.TheVariants.{Opens, Declares}
use Rattle.dpl_scopes.specs.View.{declared_view}
use Rattle.dpl_scopes.specs.Slots.{next_slot_in}

abbrev pub scopes_by : List Mark → Scopes
scopes_by [] = []
scopes_by (Opens ∷ ms) = enter (scopes_by ms)
scopes_by (Declares e ∷ ms) = add (declared_view e.declared) (scopes_by ms)

-- where a name in sight was declared last
abbrev pub place : List Mark → Text → Option ℕ
place [] x = None
place (Opens ∷ ms) x = place ms x
place (Declares e ∷ ms) x = if bytes_eq x e.declared.origin.name.now then Some (length ms) else place ms x

-- How many scopes are open that no mark opened: the first declaration opens one, where none is open.
abbrev pub unmarked : List Mark → ℕ
unmarked [] = 0
unmarked (Opens ∷ ms) = unmarked ms
unmarked (Declares e ∷ []) = 1
unmarked (Declares e ∷ m ∷ ms) = unmarked (m ∷ ms)

-- the same, by the mark that was made first
abbrev pub unmarked_by : Option Mark → ℕ
unmarked_by None = 0
unmarked_by (Some Opens) = 0
unmarked_by (Some (Declares e)) = 1

-- each declaration has the depth at which it stands, its slot, and the place of the one that it hides
abbrev pub AreKept : List Mark → Type 0
AreKept [] = Unit {0}
AreKept (Opens ∷ ms) = AreKept ms
AreKept (Declares e ∷ ms) =
    (e.declared.origin.depth ≡ length (scopes_by ms)) × (e.declared.slot ≡ next_slot_in (scopes_by ms)) × (e.hidden ≡ place ms e.declared.origin.name.now) × AreKept ms
