-- From one round with members to the next, the coordinate's block of the round is cut out.
use Rattle.std.proofs.Common.{◌≡◌, ◌≢◌, ◌<◌, ◌+◌, ◌/◌, ◌%◌, ◌==◌, ◌∙◌, ap, refl, sym, subst, List, [], filter, length, All, nat_lt, arith}
use Rattle.std.proofs.Math.Nat.{add-mul}
use Rattle.std.proofs.lemmas.List.Elements.{All-nil}
use Rattle.dpl_sets.specs.Ranges.{RangeValue, members_of}
use Rattle.dpl_map.specs.Cuts.{AreSorted}
use Rattle.dpl_map.specs.Blocks.{block_number}
use Rattle.dpl_map.proofs.CutLemmas.{filter-between_none, AreSorted-begin, AreSorted-behind, AreSorted-end, All-behind}
use Rattle.dpl_map.proofs.DealLemmas.{length-behind, block-members}
use Rattle.dpl_map.proofs.ValueLemmas.{IsWithinBelow, IsWithinBelow-begin, IsWithinBelow-behind, IsWithinBelow-end, IsWithinBelow-later, IsWithinValues-less}
use Rattle.dpl_map.proofs.blocks.Deal.by_blocks.Goals as goal
use Rattle.dpl_map.proofs.blocks.Deal.by_blocks.Goals.{After-len}

pub rounds-init : goal.rounds-init
rounds-init c =
    let deal = c.args.self.now in
    let dealt = filter (λ i. block_number deal.origin deal.size i % deal.extent == deal.coordinate) (members_of deal.range) in
    rw c.new-pieces.ensures.items (
      AreSorted-begin members_of (λ i. block_number deal.origin deal.size i / deal.extent) dealt,
      omega arith,
      omega arith,
      IsWithinBelow-begin (λ i. block_number deal.origin deal.size i / deal.extent) dealt,
      omega (arith, c.args.self.now.deal.among),
      All-nil (λ r. members_of r ≢ []),
    )

-- the members of the round's block
lists-are : (c : After-len) → members_of c.block.result ≡ filter (λ i. block_number c.args.self.now.origin c.args.self.now.size i / c.args.self.now.extent == c.in-Some.found) (filter (λ i. block_number c.args.self.now.origin c.args.self.now.size i % c.args.self.now.extent == c.args.self.now.coordinate) (members_of c.args.self.now.range))
lists-are c =
    let deal = c.args.self.now in
    c.block.ensures ∙ block-members deal.range deal.origin deal.size deal.extent deal.coordinate c.args.self.now.deal c.in-Some.found

-- one block more that may have members
within-more : (c : After-len) → IsWithinBelow (λ i. block_number c.args.self.now.origin c.args.self.now.size i / c.args.self.now.extent) (filter (λ i. block_number c.args.self.now.origin c.args.self.now.size i % c.args.self.now.extent == c.args.self.now.coordinate) (members_of c.args.self.now.range)) (c.in-Some.found + 1) (length c.keep.new.pieces.items)
within-more c =
    let deal = c.args.self.now in
    let dealt = filter (λ i. block_number deal.origin deal.size i % deal.extent == deal.coordinate) (members_of deal.range) in
    let before =
    IsWithinBelow-later (λ i. block_number deal.origin deal.size i / deal.extent) dealt c.rounds.round c.in-Some.found (length c.rounds.pieces.items)
    c.in-Some.ensures.later c.in-Some.ensures.passed c.rounds.invariant.3 in
    subst (λ (pieces : List RangeValue). IsWithinBelow (λ i. block_number deal.origin deal.size i / deal.extent) dealt (c.in-Some.found + 1) (length pieces)) (sym c.in_ok-keep.ensures)
    (IsWithinBelow-behind (λ i. block_number deal.origin deal.size i / deal.extent) dealt c.rounds.pieces.items c.in-Some.found c.block.result (members_of c.block.result) before (lists-are c))

-- which is cut out
cut-more : (c : After-len) → AreSorted members_of (λ i j. block_number c.args.self.now.origin c.args.self.now.size i / c.args.self.now.extent < block_number c.args.self.now.origin c.args.self.now.size j / c.args.self.now.extent) (filter (λ i. nat_lt (block_number c.args.self.now.origin c.args.self.now.size i / c.args.self.now.extent) (c.in-Some.found + 1)) (filter (λ i. block_number c.args.self.now.origin c.args.self.now.size i % c.args.self.now.extent == c.args.self.now.coordinate) (members_of c.args.self.now.range))) c.keep.new.pieces.items
cut-more c =
    let deal = c.args.self.now in
    let dealt = filter (λ i. block_number deal.origin deal.size i % deal.extent == deal.coordinate) (members_of deal.range) in
    let before =
    subst (λ is. AreSorted members_of (λ i j. block_number deal.origin deal.size i / deal.extent < block_number deal.origin deal.size j / deal.extent) is c.rounds.pieces.items)
    (filter-between_none (λ i. block_number deal.origin deal.size i / deal.extent) dealt c.rounds.round c.in-Some.found c.in-Some.ensures.later c.in-Some.ensures.passed) c.rounds.invariant.0 in
    subst (λ pieces. AreSorted members_of (λ i j. block_number deal.origin deal.size i / deal.extent < block_number deal.origin deal.size j / deal.extent) (filter (λ i. nat_lt (block_number deal.origin deal.size i / deal.extent) (c.in-Some.found + 1)) dealt) pieces) (sym c.in_ok-keep.ensures)
    (AreSorted-behind members_of (λ i. block_number deal.origin deal.size i / deal.extent) dealt c.rounds.pieces.items c.in-Some.found c.block.result before (lists-are c))

pub rounds-preserved : goal.rounds-preserved
rounds-preserved c =
    let d = (goal.at.rounds-preserved c).After-len in (
      cut-more d,
      omega (arith, ap length c.in_ok-keep.ensures, length-behind (members_of c.block.result) c.block.result c.rounds.pieces.items, c.rounds.invariant.1, c.in-Some.ensures.later),
      omega (arith, c.len.ensures, c.if-self-len.false),
      within-more d,
      omega (arith, c.in-Some.ensures.within, add-mul c.in-Some.found 1 c.args.self.now.extent),
      subst (All (λ r. members_of r ≢ [])) (sym c.in_ok-keep.ensures) (All-behind members_of c.block.result c.rounds.pieces.items c.rounds.invariant.5),
    )

pub returns-then-self-len-clause-many : goal.returns-then-self-len-clause-many
returns-then-self-len-clause-many c =
    let deal = c.args.self.now in
    let dealt = filter (λ i. block_number deal.origin deal.size i % deal.extent == deal.coordinate) (members_of deal.range) in
    λ _.
    IsWithinValues-less (λ i. block_number deal.origin deal.size i / deal.extent) dealt (deal.size + 1) (length c.keep.new.pieces.items) (omega (arith, c.len.ensures, c.if-self-len.true))
    (IsWithinBelow-end (λ i. block_number deal.origin deal.size i / deal.extent) dealt (c.in-Some.found + 1) (length c.keep.new.pieces.items) (within-more (goal.at.returns-then-self-len-clause-many c).After-len))

pub returns-clause-cut : goal.returns-clause-cut
returns-clause-cut c =
    let deal = c.args.self.now in
    let dealt = filter (λ i. block_number deal.origin deal.size i % deal.extent == deal.coordinate) (members_of deal.range) in
    AreSorted-end members_of (λ i. block_number deal.origin deal.size i / deal.extent) dealt c.rounds.round c.rounds.pieces.items (c.in_default.ensures.none refl) c.rounds.invariant.0

pub returns-clause-blocks : goal.returns-clause-blocks
returns-clause-blocks c =
    let deal = c.args.self.now in
    let dealt = filter (λ i. block_number deal.origin deal.size i % deal.extent == deal.coordinate) (members_of deal.range) in
    IsWithinBelow-end (λ i. block_number deal.origin deal.size i / deal.extent) dealt c.rounds.round (length c.rounds.pieces.items) c.rounds.invariant.3
