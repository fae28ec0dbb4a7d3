-- Maps: a map deals out each dimension by a rule over an extent of a grid. The whole map deals out none.
use Rattle.std.specs.Prelude.{◌≡◌, ℕ, List, [], ◌∷◌, ℤ, pos, map, length, nat_eq, if◌then◌else◌, Contains, All, ◌≤ℤ◌}
use Rattle.dpl_sets.specs.Ranges.{RangeValue, members_of}
use Rattle.dpl_map.specs.Grids.{grid_size, grid_locale}
use Rattle.dpl_map.specs.Places.{block_place, cyclic_place, block_cyclic_place}

-- how the indices of a dimension are dealt out over its coordinates
pub data RuleValue : Type 0 where
  -- Block, with the box low..high
  Block : ℤ → ℤ → RuleValue
  -- Cyclic, from a start
  Cyclic : ℤ → RuleValue
  -- block-cyclic, from a start in blocks of a size
  BlockCyclic : ℤ → ℤ → RuleValue

-- a dimension of a map: its rule, and over how many coordinates of the grid it is dealt out
pub record AxisValue : Type 0 where
  pub rule : RuleValue
  pub extent : ℕ

-- the coordinate, of n, that a rule gives an index
abbrev pub rule_coordinate : RuleValue → ℕ → ℤ → ℕ
rule_coordinate (Block low high) n i = block_place low high n i
rule_coordinate (Cyclic start) n i = cyclic_place start n i
rule_coordinate (BlockCyclic start blocksize) n i = block_cyclic_place start blocksize n i

abbrev pub axis_coordinate : AxisValue → ℤ → ℕ
axis_coordinate axis i = rule_coordinate axis.rule axis.extent i

-- the grid of a map
abbrev pub extents : List AxisValue → List ℕ
extents axes = map (λ axis. axis.extent) axes

-- how many locales a map has: those of its grid, and the whole map has one
abbrev pub locales : List AxisValue → ℕ
locales axes = grid_size (extents axes)

-- what the axes give the coordinates of a tuple
abbrev pub answers : List AxisValue → List ℤ → List ℕ
answers (axis ∷ axes) (i ∷ is) = axis_coordinate axis i ∷ answers axes is
answers _ _ = []

-- The owner of a tuple is the number in the grid of its coordinates' answers. A tuple of another rank than the map's
-- goes to 0, and so does every tuple by the whole map.
unfoldable pub owner : List AxisValue → List ℤ → ℕ
owner axes t = if nat_eq (length t) (length axes) then grid_locale (extents axes) (answers axes t) else 0

-- the whole map
abbrev pub whole_map : List AxisValue
whole_map = []

-- Block: the box of a dimension reaches from its least member to its greatest
pub record IsBox (r : RangeValue) (low high : ℤ) : Type 0 where
  pub low_is_member : Contains (members_of r) low
  pub low_is_least : All (λ i. low ≤ℤ i) (members_of r)
  pub high_is_member : Contains (members_of r) high
  pub high_is_greatest : All (λ i. i ≤ℤ high) (members_of r)

-- a range's box is dealt out over an extent
abbrev pub IsBoxed : RangeValue → ℕ → AxisValue → Type 0
IsBoxed r n axis = (low : ℤ) × (high : ℤ) × IsBox r low high × (axis ≡ record { rule = Block low high; extent = n })

-- each dimension of a domain is the box of an axis over an extent of the grid
abbrev pub IsBlockMap : List RangeValue → List ℕ → List AxisValue → Type 0
IsBlockMap [] [] [] = Unit {0}
IsBlockMap (r ∷ rs) (n ∷ ns) (axis ∷ axes) = IsBoxed r n axis × IsBlockMap rs ns axes
IsBlockMap _ _ _ = ⊥

-- Cyclic: each coordinate of the start begins an axis over an extent of the grid
abbrev pub cyclic_map : List ℤ → List ℕ → List AxisValue
cyclic_map (start ∷ starts) (n ∷ ns) = record { rule = Cyclic start; extent = n } ∷ cyclic_map starts ns
cyclic_map _ _ = []

-- a block has at least one index
abbrev pub IsBlocksize : ℤ → Type 0
IsBlocksize size = pos 1 ≤ℤ size

-- block-cyclic: the same, each with its own size of a block
abbrev pub block_cyclic_map : List ℤ → List ℤ → List ℕ → List AxisValue
block_cyclic_map (start ∷ starts) (size ∷ sizes) (n ∷ ns) = record { rule = BlockCyclic start size; extent = n } ∷ block_cyclic_map starts sizes ns
block_cyclic_map _ _ _ = []
