-- The map of a root as a value: `IsRootMap` leaves no choice, so that a map that a root gets is this one.
use Rattle.std.specs.Prelude.{ℕ, ℤ, pos, Bool, true, ◌&&◌, if◌then◌else◌, nat_eq, int_le, List, [], ◌∷◌, length, fold}
use Rattle.std.specs.Int.{int_min, int_max}
use Rattle.dpl_sets.specs.Ranges.{RangeValue, members_of, is_bound}
use Rattle.dpl_sets.specs.Indices.{indices}
use Rattle.dpl_map.specs.Maps.{AxisValue, Block as BlockRule, whole_map, cyclic_map, block_cyclic_map}
use Rattle.dpl_layout.specs.Layouts.{LayoutValue, grid_of}
use Rattle.dpl_layout.specs.declared.maps.Maps.{Maps}
use Rattle.dpl_layout.specs.declared.maps.Maps.TheVariants as roots
use Rattle.dpl_layout.specs.declared.named.Named.{Named}
use Rattle.dpl_layout.specs.declared.named.Named.TheVariants.{Whole, Block, Cyclic, BlockCyclic}

-- the least and the greatest of some numbers; of none of them 0
abbrev pub least_of : List ℤ → ℤ
least_of [] = pos 0
least_of (i ∷ is) = fold int_min i is

abbrev pub greatest_of : List ℤ → ℤ
greatest_of [] = pos 0
greatest_of (i ∷ is) = fold int_max i is

-- a range's box, dealt out over an extent
abbrev pub box_axis : List ℤ → ℕ → AxisValue
box_axis is n = record { rule = BlockRule (least_of is) (greatest_of is); extent = n }

abbrev pub box_map : List RangeValue → List ℕ → List AxisValue
box_map (r ∷ rs) (n ∷ ns) = box_axis (members_of r) n ∷ box_map rs ns
box_map _ _ = []

-- the least member of each dimension
abbrev pub corner_of : List RangeValue → List ℤ
corner_of [] = []
corner_of (r ∷ rs) = least_of (members_of r) ∷ corner_of rs

-- the whole map where there is no index
abbrev pub unless_empty : List (List ℤ) → List AxisValue → List AxisValue
unless_empty [] m = whole_map
unless_empty (t ∷ ts) m = m

-- within the limits of starts; blocks with an index each
abbrev pub are_bounds : List ℤ → Bool
are_bounds [] = true
are_bounds (i ∷ is) = is_bound i && are_bounds is

abbrev pub are_blocksizes : List ℤ → Bool
are_blocksizes [] = true
are_blocksizes (size ∷ sizes) = int_le (pos 1) size && are_blocksizes sizes

module _ (l : LayoutValue) where
  abbrev pub block_over : List RangeValue → List AxisValue
  block_over box = unless_empty (indices box) (box_map box (grid_of l (length box)))

  abbrev pub cyclic_at : List ℤ → List AxisValue
  cyclic_at start = if are_bounds start then cyclic_map start (grid_of l (length start)) else whole_map

  abbrev pub block_cyclic_at : List ℤ → List ℤ → List AxisValue
  block_cyclic_at start sizes =
      if are_bounds start && (nat_eq (length sizes) (length start) && are_blocksizes sizes)
      then block_cyclic_map start sizes (grid_of l (length start))
      else whole_map

  -- the one that is named, and the one that a root gets
  abbrev pub named_map : Named → List AxisValue
  named_map Whole = whole_map
  named_map (Block box) = block_over box
  named_map (Cyclic start) = cyclic_at start
  named_map (BlockCyclic start sizes) = block_cyclic_at start sizes

  abbrev pub chosen_map : Maps → Named → List RangeValue → List AxisValue
  chosen_map roots.AsIs named d = named_map named
  chosen_map roots.Block named d = block_over d
  chosen_map roots.Cyclic named d = unless_empty (indices d) (cyclic_at (corner_of d))

  abbrev pub root_map : Named → List RangeValue → List AxisValue
  root_map named d = chosen_map l.maps named d
