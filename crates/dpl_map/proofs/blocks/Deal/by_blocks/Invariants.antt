-- What is cut out so far.
use Rattle.std.proofs.Common.{◌≢◌, ◌<◌, ◌≤◌, ◌+◌, ◌-◌, ◌*◌, ◌/◌, ◌%◌, ◌==◌, [], nat_lt, filter, length, All}
use Rattle.dpl_sets.specs.Ranges.{members_of}
use Rattle.dpl_map.specs.Cuts.{AreSorted}
use Rattle.dpl_map.specs.Blocks.{block_number}
use Rattle.dpl_map.proofs.ValueLemmas.{IsWithinBelow}
use Rattle.dpl_map.proofs.blocks.Deal.by_blocks.Given as goal

abbrev pub invariant-rounds : goal.invariant-rounds
invariant-rounds l =
    AreSorted members_of (λ i j. block_number l.self.origin l.self.size i / l.self.extent < block_number l.self.origin l.self.size j / l.self.extent) (filter (λ i. nat_lt (block_number l.self.origin l.self.size i / l.self.extent) l.round) (filter (λ i. block_number l.self.origin l.self.size i % l.self.extent == l.self.coordinate) (members_of l.self.range))) l.pieces.items
    × (length l.pieces.items ≤ l.round)
    × (length l.pieces.items ≤ l.self.size)
    × IsWithinBelow (λ i. block_number l.self.origin l.self.size i / l.self.extent) (filter (λ i. block_number l.self.origin l.self.size i % l.self.extent == l.self.coordinate) (members_of l.self.range)) l.round (length l.pieces.items)
    × (l.round * l.self.extent + l.self.coordinate ≤ block_number l.self.origin l.self.size l.self.range.high + l.self.extent)
    × All (λ r. members_of r ≢ []) l.pieces.items

abbrev pub decreases-rounds : goal.decreases-rounds
decreases-rounds l = l.rounds - l.round
