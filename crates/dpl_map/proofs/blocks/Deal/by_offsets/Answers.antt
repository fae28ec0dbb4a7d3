-- Offset by offset, the members that lie there are cut out.
use Rattle.std.proofs.Common.{◌≢◌, ◌<◌, ◌+◌, ◌%◌, ◌==◌, ap, sym, subst, List, [], filter, length, All, nat_lt, arith}
use Rattle.std.proofs.lemmas.List.Elements.{All-nil, All-weaker}
use Rattle.dpl_sets.specs.Ranges.{RangeValue, members_of}
use Rattle.dpl_map.specs.Cuts.{AreSorted}
use Rattle.dpl_map.specs.Blocks.{block_number, block_offset}
use Rattle.dpl_map.proofs.CutLemmas.{AreSorted-begin, AreSorted-behind, AreSorted-end, All-behind}
use Rattle.dpl_map.proofs.DealLemmas.{length-behind, offsets-end}
use Rattle.dpl_map.proofs.ValueLemmas.{IsWithinBelow, IsWithinBelow-begin, IsWithinBelow-behind, IsWithinBelow-end}
use Rattle.dpl_map.proofs.blocks.Deal.by_offsets.Goals as goal

pub loop-offset-init : goal.loop-offset-init
loop-offset-init c =
    let deal = c.args.self.now in
    rw c.new-pieces.ensures.items (
      AreSorted-begin members_of (block_offset deal.origin deal.size) (filter (λ i. block_number deal.origin deal.size i % deal.extent == deal.coordinate) (members_of deal.range)),
      omega arith,
      IsWithinBelow-begin (block_offset deal.origin deal.size) (filter (λ i. block_number deal.origin deal.size i % deal.extent == deal.coordinate) (members_of deal.range)),
      All-nil (λ r. members_of r ≢ []),
    )

pub loop-offset-preserved : goal.loop-offset-preserved
loop-offset-preserved c =
    let deal = c.args.self.now in
    let dealt = filter (λ i. block_number deal.origin deal.size i % deal.extent == deal.coordinate) (members_of deal.range) in
    let lists = c.offset.ensures in
    let cut = AreSorted-behind members_of (block_offset deal.origin deal.size) dealt c.loop-offset.pieces.items c.loop-offset.offset c.offset.result c.loop-offset.invariant.0 lists in (
      subst (λ pieces. AreSorted members_of (λ i j. block_offset deal.origin deal.size i < block_offset deal.origin deal.size j) (filter (λ i. nat_lt (block_offset deal.origin deal.size i) (c.loop-offset.offset + 1)) dealt) pieces) (sym c.in_ok-keep.ensures) cut,
      omega (arith, ap length c.in_ok-keep.ensures, length-behind (members_of c.offset.result) c.offset.result c.loop-offset.pieces.items, c.loop-offset.invariant.1),
      subst (λ (pieces : List RangeValue). IsWithinBelow (block_offset deal.origin deal.size) dealt (c.loop-offset.offset + 1) (length pieces)) (sym c.in_ok-keep.ensures)
          (IsWithinBelow-behind (block_offset deal.origin deal.size) dealt c.loop-offset.pieces.items c.loop-offset.offset c.offset.result (members_of c.offset.result) c.loop-offset.invariant.2 lists),
      subst (All (λ r. members_of r ≢ [])) (sym c.in_ok-keep.ensures) (All-behind members_of c.offset.result c.loop-offset.pieces.items c.loop-offset.invariant.3),
    )

pub returns-clause-cut : goal.returns-clause-cut
returns-clause-cut c =
    let deal = c.args.self.now in
    let dealt = filter (λ i. block_number deal.origin deal.size i % deal.extent == deal.coordinate) (members_of deal.range) in
    AreSorted-end members_of (block_offset deal.origin deal.size) dealt c.loop-offset.offset c.loop-offset.pieces.items
    (All-weaker (λ i. block_offset deal.origin deal.size i < deal.size) (λ i. block_offset deal.origin deal.size i < c.loop-offset.offset) (λ i below. omega (arith, below, c.loop-offset-test.false)) dealt
    (offsets-end deal.range deal.origin deal.size deal.extent deal.coordinate c.args.self.now.deal))
    c.loop-offset.invariant.0

pub returns-clause-offsets : goal.returns-clause-offsets
returns-clause-offsets c =
    let deal = c.args.self.now in
    let dealt = filter (λ i. block_number deal.origin deal.size i % deal.extent == deal.coordinate) (members_of deal.range) in
    IsWithinBelow-end (block_offset deal.origin deal.size) dealt c.loop-offset.offset (length c.loop-offset.pieces.items) c.loop-offset.invariant.2
