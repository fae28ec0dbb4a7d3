-- What a walk over the elements of an array has still to give.
-- The model of a walk is that list, and its invariant says that nothing is left out of it.
use Rattle.std.specs.Prelude.{◌≡◌, ◌≤◌, ◌<◌, ◌==◌, ◌++◌, ℕ, List, ℤ, filter, length, slice_index_or}
use Rattle.dpl_sets.specs.Indices.{indices, IsSmall}
use Rattle.dpl_map.specs.Maps.{AxisValue, owner, locales}
use Rattle.dpl_array.specs.Elements.{Elements, value_at, tabulated}
use Rattle.dpl_array.specs.Arrays.{ArrayValue, IsArray}

-- the elements at the indices that are left
abbrev pub left_of : {T : Type 0} → ArrayValue T → List (List ℤ) → Elements T
left_of a left = tabulated left (λ t. value_at t a.elements)

-- of so many of these indices a locale is the owner
abbrev pub count_of : List AxisValue → ℕ → List (List ℤ) → ℕ
count_of axes l ts = length (filter (λ t. owner axes t == l) ts)

-- Some indices of the domain are gone over, and those that are left come after them. Each locale has given as many elements as it
-- owns of those.
pub record IsLeft {T : Type 0} (a : ArrayValue T) (map : List AxisValue) (left : List (List ℤ)) (given : List ℕ) : Type 0 where
  pub array : IsArray a
  pub small : IsSmall a.domain
  pub map_is : map ≡ a.map
  pub long : length given ≡ 64
  pub most : locales a.map ≤ 64
  pub gone : List (List ℤ)
  pub whole : indices a.domain ≡ gone ++ left
  pub counts : (l : ℕ) → l < locales a.map → slice_index_or given l 0 ≡ count_of a.map l gone
