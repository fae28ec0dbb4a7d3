-- The map that a text names behind `dmapped`: what it is as it is run, and of which one it is promised.
-- Of one that is left out nothing is asked.
use Rattle.std.specs.Prelude.{◌≡◌, ℕ, true, Option, Some, None}
use Rattle.std.specs.Borrow.{Bor}
use Rattle.dpl_language.specs.Names.{Text}
use Rattle.dpl_language.specs.Tree.{MapTree, BlockMap, CyclicMap, BlockCyclicMap, MappedTree}
use Rattle.dpl_agreement.specs.Renamed.{renamed_map}
use Rattle.dpl_rules.specs.Sights.{Scopes}
use Rattle.dpl_lowered.specs.LoweredStatements.{lowered_map}
use Rattle.dpl_memory.specs.Memory.{Variable, known_variable}
use Rattle.dpl_nodes.specs.declared.placing.MapExpr.{MapExpr}
use Rattle.dpl_nodes.specs.Spots.{IsNear}
use Rattle.dpl_nodes.specs.Steps.{map_view}
use Rattle.dpl_spelling.specs.Spelt.{MapSpelt}
use Rattle.dpl_typed.specs.Leaves.{leaf_in, IsFound}
use Rattle.dpl_typed.specs.Simple.{IsSimpleItem}
use Rattle.dpl_typed.specs.Typed.{is_rank}
use Rattle.dpl_mapped.specs.Starts.{IsSimpleStart}

-- the arguments of a map are simple, over names of which something holds
abbrev pub IsSimpleMap : (Text → Type 0) → MapTree Text → Type 0
IsSimpleMap Holds (BlockMap m) = IsSimpleItem Holds m.box
IsSimpleMap Holds (CyclicMap m) = IsSimpleStart Holds m.start
IsSimpleMap Holds (BlockCyclicMap m) = IsSimpleStart Holds m.start × IsSimpleStart Holds m.size

-- over leaves, and lowered
abbrev pub map_leaves : Scopes → MapTree Text → MapTree Variable
map_leaves scopes m = lowered_map known_variable (renamed_map (leaf_in scopes) m)

-- the rank of what is mapped is known, and a domain may have it
abbrev pub IsKnownRank : Option ℕ → Type 0
IsKnownRank rank = (k : ℕ) × (rank ≡ Some k) × (is_rank k ≡ true)

-- a map that runs, as far as no rule says so: it is simple by its form, its names are found and its places are near
abbrev pub IsPlainMap : Scopes → Option ℕ → MapTree Text → Type 0
IsPlainMap scopes rank m = IsKnownRank rank × IsSimpleMap (IsFound scopes) m × MapSpelt IsNear ⊥ m

abbrev pub IsPlainMapped : Scopes → Option ℕ → Option (MappedTree Text) → Type 0
IsPlainMapped scopes rank None = Unit {0}
IsPlainMapped scopes rank (Some m) = IsPlainMap scopes rank m.map

-- the typed map stands for the one that is named
abbrev pub IsMappedAs : Scopes → Option (MappedTree Text) → Option (Bor MapExpr) → Type 0
IsMappedAs scopes None r = r ≡ None
IsMappedAs scopes (Some m) None = ⊥
IsMappedAs scopes (Some m) (Some e) = map_view e.now ≡ map_leaves scopes m.map
