-- The entries of a loop's turns: the owner of an index enters for its turn, with the place of the index.
use Rattle.std.specs.Prelude.{◌≡◌, ℕ, List, Some, slice_get}
use Rattle.dpl_sets.specs.Ranges.{RangeValue}
use Rattle.dpl_sets.specs.Indices.{indices}
use Rattle.dpl_sets.specs.TextRanges.{TextRange}
use Rattle.dpl_map.specs.Maps.{AxisValue, owner}
use Rattle.dpl_language.specs.Values.{Index}
use Rattle.dpl_language.specs.Ranges.{indices_in}

-- a gate may refuse an entry of a loop over a domain
abbrev pub MayRefuse : (ℕ → ℕ → Type 0) → List AxisValue → List TextRange → Type 0
MayRefuse may map rs = (place : ℕ) × (t : Index) × (slice_get (indices_in rs) place ≡ Some t) × may (owner map t) place

-- it may refuse some entry
abbrev pub MayRefuseSome : (ℕ → ℕ → Type 0) → Type 0
MayRefuseSome may = (worker : ℕ) × (place : ℕ) × may worker place

-- a gate may refuse an entry of a part of a domain, where it may refuse the entry of the same index in the whole domain
abbrev pub MayRefuseIn : (ℕ → ℕ → Type 0) → List RangeValue → List RangeValue → ℕ → ℕ → Type 0
MayRefuseIn may part whole worker place =
    (t : Index) × (k : ℕ) × (slice_get (indices part) place ≡ Some t) × (slice_get (indices whole) k ≡ Some t) × may worker k
