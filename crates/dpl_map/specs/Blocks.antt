-- Where an integer lies in blocks that are dealt out in rounds. Private functions of the crate speak of it.
use Rattle.std.specs.Prelude.{◌≡◌, ◌⊎◌, ◌<◌, ◌≤◌, ◌*◌, ◌/◌, ◌%◌, ◌^◌, ℕ, ℤ, pos, ◌+ℤ◌, ◌-ℤ◌, ◌≤ℤ◌}
use Rattle.dpl_sets.specs.Members.{count_of}
use Rattle.dpl_sets.specs.Ranges.{RangeValue}
use Rattle.dpl_range.specs.Invariant.{IsRange}

-- how far an integer lies past an origin
abbrev pub past : ℤ → ℤ → ℕ
past origin i = count_of (i -ℤ origin)

-- the number of the block that has it, where blocks are counted from the origin
abbrev pub block_number : ℤ → ℕ → ℤ → ℕ
block_number origin size i = past origin i / size

-- where it lies in its block
abbrev pub block_offset : ℤ → ℕ → ℤ → ℕ
block_offset origin size i = past origin i % size

-- an origin lies a number of whole rounds past a start, or before it
abbrev pub BeginsRound : ℤ → ℕ → ℤ → Type 0
BeginsRound start round origin = (k : ℕ) × ((origin ≡ start +ℤ pos (k * round)) ⊎ (start ≡ origin +ℤ pos (k * round)))

-- a coordinate of some has every block of a size of its own, from the beginning of the round that has a range's low bound
pub record IsDeal (range : RangeValue) (origin : ℤ) (size extent coordinate : ℕ) : Type 0 where
  pub limits : IsRange range
  pub some : 0 < size
  pub machine : size < 2 ^ 63
  pub few : extent ≤ 64
  pub among : coordinate < extent
  pub begins : origin ≤ℤ range.low
  pub soon : range.low ≤ℤ (origin +ℤ pos (extent * size))
