-- What a coordinate gets of a range, by its blocks. Private functions of the crate speak of it.
use Rattle.std.specs.Prelude.{◌==◌, ◌/◌, ◌%◌, ◌<◌, ◌+◌, ◌*◌, ℕ, List, ℤ, filter}
use Rattle.dpl_sets.specs.Ranges.{RangeValue, members_of}
use Rattle.dpl_map.specs.Blocks.{block_number, block_offset}
use Rattle.dpl_map.specs.Cuts.{AreSorted}
use Rattle.dpl_map.specs.declared.blocks.Deal.{Deal}

-- the number of the block that has an integer
abbrev pub number_in : Deal → ℤ → ℕ
number_in deal i = block_number deal.origin deal.size i

-- the number of the block that has the range's high bound
abbrev pub last_in : Deal → ℕ
last_in deal = number_in deal deal.range.high

-- where an integer lies in its block
abbrev pub offset_in : Deal → ℤ → ℕ
offset_in deal i = block_offset deal.origin deal.size i

-- the round in which its block is dealt out
abbrev pub round_in : Deal → ℤ → ℕ
round_in deal i = number_in deal i / deal.extent

-- the number of the coordinate's block in a round
abbrev pub turn_in : Deal → ℕ → ℕ
turn_in deal round = round * deal.extent + deal.coordinate

-- the members of the range that the coordinate gets
abbrev pub dealt_of : Deal → List ℤ
dealt_of deal = filter (λ i. number_in deal i % deal.extent == deal.coordinate) (members_of deal.range)

-- ranges are cut out of these members by rising numbers that each member has
abbrev pub AreCutBy : Deal → (ℤ → ℕ) → List RangeValue → Type 0
AreCutBy deal number ranges = AreSorted members_of (λ i j. number i < number j) (dealt_of deal) ranges
