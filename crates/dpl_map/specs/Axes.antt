-- One dimension of a map by itself.
use Rattle.std.specs.Prelude.{◌==◌, ℕ, List, [], ◌∷◌, ℤ, pos, filter, nat_eq, if◌then◌else◌}
use Rattle.dpl_sets.specs.Ranges.{RangeValue, members_of}
use Rattle.dpl_map.specs.Maps.{RuleValue, Block, Cyclic, BlockCyclic, AxisValue, axis_coordinate}

-- what a coordinate of one dimension owns of a range: the members that the dimension's rule gives it
abbrev pub owned_of : AxisValue → ℕ → RangeValue → List ℤ
owned_of axis coordinate range = filter (λ i. axis_coordinate axis i == coordinate) (members_of range)

-- a dimension that is dealt out in blocks of a size, from a start
abbrev pub block_cyclic_axis : ℤ → ℤ → ℕ → AxisValue
block_cyclic_axis start blocksize extent = record { rule = BlockCyclic start blocksize; extent = extent }

-- a rule by which each coordinate has its indices of a range in one range
abbrev pub IsSingle : RuleValue → Type 0
IsSingle (Block low high) = Unit {0}
IsSingle (Cyclic start) = Unit {0}
IsSingle (BlockCyclic start blocksize) = ⊥

-- By which rule a dimension is cut into ranges. Where it has one coordinate, that one has all: a range stays whole, as by the cyclic
-- rule over one.
abbrev pub cut_rule : AxisValue → RuleValue
cut_rule axis = if nat_eq axis.extent 1 then Cyclic (pos 0) else axis.rule

-- a map all of whose dimensions are cut by such rules
abbrev pub AreSingle : List AxisValue → Type 0
AreSingle [] = Unit {0}
AreSingle (axis ∷ axes) = IsSingle (cut_rule axis) × AreSingle axes
