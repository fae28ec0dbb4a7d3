-- What is cut out so far.
use Rattle.std.proofs.Common.{◌≢◌, ◌<◌, ◌≤◌, ◌%◌, ◌==◌, [], nat_lt, filter, length, All}
use Rattle.dpl_sets.specs.Ranges.{members_of}
use Rattle.dpl_map.specs.Cuts.{AreSorted}
use Rattle.dpl_map.specs.Blocks.{block_number, block_offset}
use Rattle.dpl_map.proofs.ValueLemmas.{IsWithinBelow}
use Rattle.dpl_map.proofs.blocks.Deal.by_offsets.Given as goal

abbrev pub invariant-loop-offset : goal.invariant-loop-offset
invariant-loop-offset l =
    AreSorted members_of (λ i j. block_offset l.self.origin l.self.size i < block_offset l.self.origin l.self.size j) (filter (λ i. nat_lt (block_offset l.self.origin l.self.size i) l.offset) (filter (λ i. block_number l.self.origin l.self.size i % l.self.extent == l.self.coordinate) (members_of l.self.range))) l.pieces.items
    × (length l.pieces.items ≤ l.offset)
    × IsWithinBelow (block_offset l.self.origin l.self.size) (filter (λ i. block_number l.self.origin l.self.size i % l.self.extent == l.self.coordinate) (members_of l.self.range)) l.offset (length l.pieces.items)
    × All (λ r. members_of r ≢ []) l.pieces.items
