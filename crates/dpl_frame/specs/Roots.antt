-- Roots as a frame keeps them, as the language's; and the map that a root gets by a layout.
use Rattle.std.specs.Prelude.{List, map}
use Rattle.dpl_sets.specs.TextDomains.{values_of}
use Rattle.dpl_map.specs.Maps.{AxisValue}
use Rattle.dpl_layout.specs.declared.named.Named.{Named}
use Rattle.dpl_layout.specs.declared.named.Named.TheVariants.{Whole, Block, Cyclic, BlockCyclic}
use Rattle.dpl_layout.specs.Layouts.{LayoutValue}
use Rattle.dpl_layout.specs.RootMaps.{root_map}
use Rattle.dpl_language.specs.Distributions.{Distribution, NoMap, BlockOver, CyclicFrom, BlockCyclicFrom, Root, no_root}
use Rattle.dpl_frame.specs.declared.root.Distribution.{Distribution as DistributionNode}
use Rattle.dpl_frame.specs.declared.root.Distribution.TheVariants as node
use Rattle.dpl_frame.specs.declared.root.Root.{Root as RootNode}
use Rattle.dpl_frame.specs.declared.root.Root.TheVariants as root

abbrev pub distribution_view : DistributionNode → Distribution
distribution_view node.NoMap = NoMap
distribution_view (node.BlockOver rs) = BlockOver rs
distribution_view (node.CyclicFrom start) = CyclicFrom start
distribution_view (node.BlockCyclicFrom start sizes) = BlockCyclicFrom start sizes

abbrev pub root_view : RootNode → Root
root_view root.Absent = no_root
root_view (root.NoMap rs) = record { named = NoMap; domain = rs }
root_view (root.BlockOver box rs) = record { named = BlockOver box; domain = rs }
root_view (root.CyclicFrom start rs) = record { named = CyclicFrom start; domain = rs }
root_view (root.BlockCyclicFrom start sizes rs) = record { named = BlockCyclicFrom start sizes; domain = rs }

-- what a layout is asked for
abbrev pub named_of : Distribution → Named
named_of NoMap = Whole
named_of (BlockOver rs) = Block (values_of rs)
named_of (CyclicFrom start) = Cyclic start
named_of (BlockCyclicFrom start sizes) = BlockCyclic start sizes

abbrev pub map_of_root : LayoutValue → Root → List AxisValue
map_of_root l r = root_map l (named_of r.named) (values_of r.domain)

-- the map of each of some roots
abbrev pub map_of : LayoutValue → RootNode → List AxisValue
map_of l r = map_of_root l (root_view r)

abbrev pub maps_of : LayoutValue → List RootNode → List (List AxisValue)
maps_of l rs = map (map_of l) rs
