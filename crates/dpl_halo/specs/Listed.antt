-- Which indices a list has.
-- An index is in the list however often it stands there.
use Rattle.std.specs.Prelude.{List, [], ◌∷◌, ℤ, Bool, false, ◌||◌}
use Rattle.dpl_array.specs.Elements.{same_index}

abbrev pub is_listed : List (List ℤ) → List ℤ → Bool
is_listed [] t = false
is_listed (s ∷ ss) t = same_index t s || is_listed ss t
