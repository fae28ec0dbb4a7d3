-- The map that a root gets. A map is never the cause of a fault: where indices can't be dealt out as the text says, the
-- root gets the whole map, and so each of its indices is on locale 0.
use Rattle.std.specs.Prelude.{◌≡◌, ◌≢◌, ◌≤ℤ◌, ℤ, List, [], ◌∷◌, length, All, Contains}
use Rattle.dpl_sets.specs.Ranges.{RangeValue, members_of, IsBound}
use Rattle.dpl_sets.specs.Indices.{indices}
use Rattle.dpl_map.specs.Maps.{AxisValue, whole_map, cyclic_map, block_cyclic_map, IsBlockMap, IsBlocksize}
use Rattle.dpl_layout.specs.Layouts.{LayoutValue, grid_of}
use Rattle.dpl_layout.specs.declared.maps.Maps.{Maps}
use Rattle.dpl_layout.specs.declared.maps.Maps.TheVariants as roots
use Rattle.dpl_layout.specs.declared.named.Named.{Named}
use Rattle.dpl_layout.specs.declared.named.Named.TheVariants.{Whole, Block, Cyclic, BlockCyclic}

-- Block over a box: each dimension of the box over its extent of the grid. An empty box gives the whole map.
pub record IsBlockOf (l : LayoutValue) (box : List RangeValue) (m : List AxisValue) : Type 0 where
  pub empty : indices box ≡ [] → m ≡ whole_map
  pub some : indices box ≢ [] → IsBlockMap box (grid_of l (length box)) m

-- Cyclic from a start within -2^60..2^60; any other start gives the whole map.
pub record IsCyclicFrom (l : LayoutValue) (start : List ℤ) (m : List AxisValue) : Type 0 where
  pub within : All IsBound start → m ≡ cyclic_map start (grid_of l (length start))
  pub past : (¬ All IsBound start) → m ≡ whole_map

-- blocks can be dealt out from a start within the limits, with a size from 1 for each of its coordinates
abbrev pub AreBlocks : List ℤ → List ℤ → Type 0
AreBlocks start sizes = All IsBound start × (length sizes ≡ length start) × All IsBlocksize sizes

-- Block-cyclic from such a start in blocks of such sizes; any others give the whole map.
pub record IsBlockCyclicFrom (l : LayoutValue) (start sizes : List ℤ) (m : List AxisValue) : Type 0 where
  pub blocks : AreBlocks start sizes → m ≡ block_cyclic_map start sizes (grid_of l (length start))
  pub none : (¬ AreBlocks start sizes) → m ≡ whole_map

-- a member of a range that is no greater than any other
pub record IsLeast (r : RangeValue) (i : ℤ) : Type 0 where
  pub is_member : Contains (members_of r) i
  pub is_least : All (λ j. i ≤ℤ j) (members_of r)

-- the least member of each dimension of a domain: there are none of a domain without an index
abbrev pub IsLeastOf : List RangeValue → List ℤ → Type 0
IsLeastOf [] [] = Unit {0}
IsLeastOf (r ∷ rs) (i ∷ is) = IsLeast r i × IsLeastOf rs is
IsLeastOf _ _ = ⊥

-- Cyclic from the least members of a domain. A domain without an index gives the whole map.
pub record IsCyclicOf (l : LayoutValue) (d : List RangeValue) (m : List AxisValue) : Type 0 where
  pub empty : indices d ≡ [] → m ≡ whole_map
  pub some : indices d ≢ [] → (least : List ℤ) × IsLeastOf d least × IsCyclicFrom l least m

-- The map that the text names: the whole map where it names none, or where an argument has no value since to evaluate it
-- would be a fault.
abbrev pub IsNamed : LayoutValue → Named → List AxisValue → Type 0
IsNamed l Whole m = m ≡ whole_map
IsNamed l (Block box) m = IsBlockOf l box m
IsNamed l (Cyclic start) m = IsCyclicFrom l start m
IsNamed l (BlockCyclic start sizes) m = IsBlockCyclicFrom l start sizes m

-- Which map a root gets whose declared value is a domain: the one that the text names, or whatever it names Block with this
-- domain as the box, or Cyclic from its least members.
abbrev pub IsChosen : Maps → LayoutValue → Named → List RangeValue → List AxisValue → Type 0
IsChosen roots.AsIs l named d m = IsNamed l named m
IsChosen roots.Block l named d m = IsBlockOf l d m
IsChosen roots.Cyclic l named d m = IsCyclicOf l d m

-- the same by the layout
abbrev pub IsRootMap : LayoutValue → Named → List RangeValue → List AxisValue → Type 0
IsRootMap l named d m = IsChosen l.maps l named d m

-- Cyclic from the least members of a domain, as a text names it. Where the domain has no index, there is no such start.
abbrev pub IsFromLeast : List RangeValue → Named → Type 0
IsFromLeast d Whole = indices d ≡ []
IsFromLeast d (Block box) = ⊥
IsFromLeast d (Cyclic start) = IsLeastOf d start
IsFromLeast d (BlockCyclic start sizes) = ⊥
