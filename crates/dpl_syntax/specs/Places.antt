-- Places that lie within a bound: their lines and columns are at most that.
-- The tokens of a text stand within its length and one more.
use Rattle.std.specs.Prelude.{ℕ, ◌≤◌, List, [], ◌∷◌}
use Rattle.dpl_syntax.specs.declared.place.Place.{Place}
use Rattle.dpl_syntax.specs.declared.token.Token.{Token}

abbrev pub IsWithin : ℕ → Place → Type 0
IsWithin most p = (p.line ≤ most) × (p.column ≤ most)

abbrev pub AllWithin : ℕ → List Token → Type 0
AllWithin most [] = Unit {0}
AllWithin most (k ∷ ks) = IsWithin most k.at × AllWithin most ks
