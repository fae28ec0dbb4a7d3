-- What is taken over of an array while it is dealt anew.
use Rattle.std.specs.Prelude.{◌≡◌, ◌<◌, ℕ, ℤ, List, Some, slice_get}
use Rattle.dpl_sets.specs.Indices.{indices}
use Rattle.dpl_map.specs.Maps.{AxisValue}
use Rattle.dpl_array.specs.Elements.{value_at}
use Rattle.dpl_array.specs.Arrays.{ArrayValue, IsArray}

-- another array over the same domain, cut by a map, has the first so many of its elements
pub record HasTaken (a : ArrayValue ℤ) (axes : List AxisValue) (place : ℕ) (b : ArrayValue ℤ) : Type 0 where
  pub domain : b.domain ≡ a.domain
  pub map : b.map ≡ axes
  pub keys : IsArray b
  pub same : (k : ℕ) (t : List ℤ) → k < place → slice_get (indices a.domain) k ≡ Some t → value_at t b.elements ≡ value_at t a.elements
