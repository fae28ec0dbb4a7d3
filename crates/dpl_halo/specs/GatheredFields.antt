-- How gathered elements are kept: by their places in the domain.
-- The model lists them in the order of the domain.
use Rattle.std.specs.Prelude.{◌≡◌, ◌<◌, ℕ, Some, length}
use Rattle.std.specs.Ordering.{nat_cmp}
use Rattle.std.specs.BTreeMap.{get}
use Rattle.dpl_sets.specs.Indices.{indices, IsSmall}
use Rattle.dpl_array.specs.Rows.{IsDistinct}
use Rattle.dpl_halo.specs.declared.gathered.Gathered.TheInside.{Inside}
use Rattle.dpl_halo.specs.Gathering.{GatheredValue, chosen}

abbrev pub gathered_of : {T : Type 0} → Inside T → GatheredValue T
gathered_of g = record { domain = g.domain; elements = chosen (indices g.domain) (get nat_cmp g.held) }

-- no index stands at two places, each key is a place of the domain, and the elements are counted
pub record AreKept {T : Type 0} (g : Inside T) : Type 0 where
  pub distinct : IsDistinct (indices g.domain)
  pub small : IsSmall g.domain
  pub within : (k : ℕ) (v : T) → get nat_cmp g.held k ≡ Some v → k < length (indices g.domain)
  pub count : g.count ≡ length (chosen (indices g.domain) (get nat_cmp g.held))
