-- The members that the rule deals to the coordinate are those of its blocks, however they are cut out.
use Rattle.std.proofs.Common.{◌≡◌, ◌≢◌, ◌<◌, ◌≤◌, ◌≤ℤ◌, ◌<ℤ◌, ◌-ℤ◌, ◌==◌, ◌+◌, ◌*◌, ◌%◌, ℕ, ℤ, pos, true, unsigned_abs, int_le, List, [], ◌∷◌, filter, FitsSigned, w64, length, refl, ap, sym, subst, ◌∙◌, arith, ⊎_elim}
use Rattle.std.specs.Int.{int_div_euclid, int_rem_euclid}
use Rattle.std.proofs.lemmas.Int.{ints, to_z-of_z}
use Rattle.std.proofs.lemmas.List.Elements.{All-nil}
use Rattle.std.proofs.lemmas.Result.{IfOk-weaker}
use Rattle.dpl_sets.specs.Ranges.{RangeValue, members_of}
use Rattle.dpl_range.proofs.MemberLemmas.{members-empty}
use Rattle.dpl_map.specs.Places.{block_cyclic_place}
use Rattle.dpl_map.specs.Maps.{BlockCyclic}
use Rattle.dpl_map.specs.declared.find.Order.TheVariants.{Blocks, Offsets}
use Rattle.dpl_map.specs.Orders.{AreSortedBy, AreListed}
use Rattle.dpl_map.specs.Deals.{round_in, offset_in, dealt_of, AreCutBy}
use Rattle.dpl_map.specs.Counts.{IsWithinValues, rule_block}
use Rattle.dpl_map.specs.Blocks.{block_number, block_offset, BeginsRound}
use Rattle.dpl_map.proofs.CutLemmas.{AreSorted-none}
use Rattle.dpl_map.proofs.DealLemmas.{coordinate-members, rounds-blocks, offsets-blocks, rounds-sorted, offsets-sorted}
use Rattle.dpl_map.proofs.ValueLemmas.{IsWithinValues-less}
use Rattle.dpl_map.proofs.blocks.dealt.Goals as goal
use Rattle.dpl_map.proofs.blocks.dealt.Goals.{After-new-deal}
use Rattle.dpl_map.proofs.ListLemmas.{tells}

pub returns-then-size-eq0-clause-cut : goal.returns-then-size-eq0-clause-cut
returns-then-size-eq0-clause-cut c = go (members_of c.args.range.now) (omega (arith, c.size.ensures.length, c.if-size-eq0.true))
  where
    go : (is : List ℤ) → length is ≡ 0 → AreListed (BlockCyclic c.args.start c.args.size) (filter (λ i. block_cyclic_place c.args.start c.args.size c.args.extent i == c.args.coordinate) is) c.new.result.items
    go [] none = rw c.new.ensures.items (Blocks, AreSorted-none members_of (λ i j. rule_block (BlockCyclic c.args.start c.args.size) i <ℤ rule_block (BlockCyclic c.args.start c.args.size) j))
    go (i ∷ is) none = absurd (omega (arith, none))

pub returns-then-size-eq0-clause-some : goal.returns-then-size-eq0-clause-some
returns-then-size-eq0-clause-some c = rw c.new.ensures.items (All-nil (λ r. members_of r ≢ []))

-- a range with a member has its bounds in order
ordered : (c : After-new-deal) → c.new-deal.result.range.low ≤ℤ c.new-deal.result.range.high
ordered c =
    let r = c.new-deal.result.range in
    ⊎_elim
    (λ (least : int_le r.low r.high ≡ true). grind (arith, ints, least))
    (λ apart.
    let none : members_of r ≡ [] = members-empty r.low r.high r.stride (grind (arith, ints, apart)) in
    absurd (omega (arith, ap length none, c.size.ensures.length, ap (λ (q : RangeValue). length (members_of q)) c.new-deal.ensures.range, c.if-size-eq0.false)))
    (tells (int_le r.low r.high))

pub rounds-rounds-requires : goal.rounds-rounds-requires
rounds-rounds-requires c = record { ordered = ordered (goal.at.rounds-rounds-requires c).After-new-deal }

pub by_blocks-requires-clause-ordered : goal.by_blocks-requires-clause-ordered
by_blocks-requires-clause-ordered c = ordered (goal.at.by_blocks-requires-clause-ordered c).After-new-deal

-- what the rule deals to the coordinate, by the blocks of the deal
dealt-is : (c : After-new-deal) → filter (λ i. block_number c.new-deal.result.origin c.new-deal.result.size i % c.new-deal.result.extent == c.new-deal.result.coordinate) (members_of c.new-deal.result.range) ≡ filter (λ i. block_cyclic_place c.args.start c.args.size c.args.extent i == c.args.coordinate) (members_of c.args.range.now)
dealt-is c =
    let d = c.new-deal.result in
    let start_fits : FitsSigned w64 c.args.start = c.ranges.start in
    let begins = simp to_z-of_z at c.new-deal.ensures.begins in
    let size : pos d.size ≡ c.args.size = omega (arith, ints, c.new-deal.ensures.size, c.requires.some) in
    sym (coordinate-members d.range d.origin d.size d.extent d.coordinate c.new-deal.result.deal c.args.start begins)
    ∙ ap (λ s. filter (λ i. block_cyclic_place c.args.start s d.extent i == d.coordinate) (members_of d.range)) size
    ∙ ap (λ x. filter (λ i. block_cyclic_place c.args.start c.args.size x i == d.coordinate) (members_of d.range)) c.new-deal.ensures.extent
    ∙ ap (λ p. filter (λ i. block_cyclic_place c.args.start c.args.size c.args.extent i == p) (members_of d.range)) c.new-deal.ensures.coordinate
    ∙ ap (λ (r : RangeValue). filter (λ i. block_cyclic_place c.args.start c.args.size c.args.extent i == c.args.coordinate) (members_of r)) c.new-deal.ensures.range

-- and the blocks that have some of it, by those of the deal
blocks-are : (c : After-new-deal) (n : ℕ) → IsWithinValues (λ i. int_div_euclid (i -ℤ c.args.start) (pos c.new-deal.result.size)) (filter (λ i. block_number c.new-deal.result.origin c.new-deal.result.size i % c.new-deal.result.extent == c.new-deal.result.coordinate) (members_of c.new-deal.result.range)) n → IsWithinValues (λ i. int_div_euclid (i -ℤ c.args.start) c.args.size) (filter (λ i. block_cyclic_place c.args.start c.args.size c.args.extent i == c.args.coordinate) (members_of c.args.range.now)) n
blocks-are c n within =
    let d = c.new-deal.result in
    let dealt = filter (λ i. block_number d.origin d.size i % d.extent == d.coordinate) (members_of d.range) in
    let size : pos d.size ≡ c.args.size = omega (arith, ints, c.new-deal.ensures.size, c.requires.some) in
    let sized : IsWithinValues (λ i. int_div_euclid (i -ℤ c.args.start) c.args.size) dealt n = subst (λ (s : ℤ). IsWithinValues (λ i. int_div_euclid (i -ℤ c.args.start) s) dealt n) size within in
    subst (λ (is : List ℤ). IsWithinValues (λ i. int_div_euclid (i -ℤ c.args.start) c.args.size) is n) (dealt-is c) sized

-- where the rounds of the deal begin
begins-at : (c : After-new-deal) → BeginsRound c.args.start (c.new-deal.result.extent * c.new-deal.result.size) c.new-deal.result.origin
begins-at c =
    let start_fits : FitsSigned w64 c.args.start = c.ranges.start in
    simp to_z-of_z at c.new-deal.ensures.begins

-- what is cut by rising blocks or offsets of the deal is cut by those of the rule
by-rounds : (c : After-new-deal) (ranges : List RangeValue) → AreCutBy c.new-deal.result (round_in c.new-deal.result) ranges → AreListed (BlockCyclic c.args.start c.args.size) (filter (λ i. block_cyclic_place c.args.start c.args.size c.args.extent i == c.args.coordinate) (members_of c.args.range.now)) ranges
by-rounds c ranges are =
    let d = c.new-deal.result in
    let size : pos d.size ≡ c.args.size = omega (arith, ints, c.new-deal.ensures.size, c.requires.some) in
    let sorted = rounds-sorted d.range d.origin d.size d.extent d.coordinate d.deal c.args.start ranges (begins-at c) are in
    let sized : AreSortedBy (λ i. int_div_euclid (i -ℤ c.args.start) c.args.size) (dealt_of d) ranges = subst (λ (s : ℤ). AreSortedBy (λ i. int_div_euclid (i -ℤ c.args.start) s) (dealt_of d) ranges) size sorted in
    (Blocks, subst (λ (is : List ℤ). AreSortedBy (λ i. int_div_euclid (i -ℤ c.args.start) c.args.size) is ranges) (dealt-is c) sized)

by-offsets : (c : After-new-deal) (ranges : List RangeValue) → AreCutBy c.new-deal.result (offset_in c.new-deal.result) ranges → AreListed (BlockCyclic c.args.start c.args.size) (filter (λ i. block_cyclic_place c.args.start c.args.size c.args.extent i == c.args.coordinate) (members_of c.args.range.now)) ranges
by-offsets c ranges are =
    let d = c.new-deal.result in
    let size : pos d.size ≡ c.args.size = omega (arith, ints, c.new-deal.ensures.size, c.requires.some) in
    let sorted = offsets-sorted d.range d.origin d.size d.extent d.coordinate d.deal c.args.start ranges (begins-at c) are in
    let sized : AreSortedBy (λ i. int_rem_euclid (i -ℤ c.args.start) c.args.size) (dealt_of d) ranges = subst (λ (s : ℤ). AreSortedBy (λ i. int_rem_euclid (i -ℤ c.args.start) s) (dealt_of d) ranges) size sorted in
    (Offsets, subst (λ (is : List ℤ). AreSortedBy (λ i. int_rem_euclid (i -ℤ c.args.start) c.args.size) is ranges) (dealt-is c) sized)

pub returns-then-deal-unsigned_abs-clause-cut : goal.returns-then-deal-unsigned_abs-clause-cut
returns-then-deal-unsigned_abs-clause-cut c =
    let before = (goal.at.returns-then-deal-unsigned_abs-clause-cut c).After-new-deal in
    IfOk-weaker c.by_offsets.result (λ v. AreCutBy before.new-deal.result (offset_in before.new-deal.result) v.items)
    (λ v. AreListed (BlockCyclic c.args.start c.args.size) (filter (λ i. block_cyclic_place c.args.start c.args.size c.args.extent i == c.args.coordinate) (members_of c.args.range.now)) v.items)
    (λ v are. by-offsets before v.items are) c.by_offsets.ensures.cut

pub returns-then-deal-unsigned_abs-clause-few : goal.returns-then-deal-unsigned_abs-clause-few
returns-then-deal-unsigned_abs-clause-few c =
    IfOk-weaker c.by_offsets.result (λ v. length v.items ≤ c.new-deal.result.size) (λ v. pos (length v.items) ≤ℤ c.args.size)
    (λ v few. omega (arith, ints, few, c.new-deal.ensures.size, c.requires.some)) c.by_offsets.ensures.few

pub returns-then-deal-unsigned_abs-clause-blocks : goal.returns-then-deal-unsigned_abs-clause-blocks
returns-then-deal-unsigned_abs-clause-blocks c =
    let d = c.new-deal.result in
    let before = (goal.at.returns-then-deal-unsigned_abs-clause-blocks c).After-new-deal in
    let sparse : d.size < unsigned_abs d.range.stride =
    omega (arith, ints, c.if-deal-unsigned_abs.true, c.unsigned_abs.ensures.value, c.stride.ensures.stride, ap (λ (r : RangeValue). r.stride) c.new-deal.ensures.range) in
    IfOk-weaker c.by_offsets.result
    (λ v. IsWithinValues (block_offset d.origin d.size) (filter (λ i. block_number d.origin d.size i % d.extent == d.coordinate) (members_of d.range)) (length v.items))
    (λ v. IsWithinValues (λ i. int_div_euclid (i -ℤ c.args.start) c.args.size) (filter (λ i. block_cyclic_place c.args.start c.args.size c.args.extent i == c.args.coordinate) (members_of c.args.range.now)) (length v.items))
    (λ v within. blocks-are before (length v.items) (offsets-blocks d.range d.origin d.size d.extent d.coordinate c.new-deal.result.deal c.args.start (length v.items) sparse (begins-at before) within))
    c.by_offsets.ensures.offsets

pub returns-in-Some-clause-cut : goal.returns-in-Some-clause-cut
returns-in-Some-clause-cut c =
    let cut = rw c.in-Some.is at c.in_ok-pieces.ensures.cut in
    by-rounds (goal.at.returns-in-Some-clause-cut c).After-new-deal c.in-Some.pieces.items cut

pub returns-in-Some-clause-few : goal.returns-in-Some-clause-few
returns-in-Some-clause-few c =
    let few = rw c.in-Some.is at c.in_ok-pieces.ensures.few in
    omega (arith, ints, few, c.new-deal.ensures.size, c.requires.some)

pub returns-in-Some-clause-some : goal.returns-in-Some-clause-some
returns-in-Some-clause-some c = rw c.in-Some.is at c.in_ok-pieces.ensures.some

pub returns-in-Some-clause-blocks : goal.returns-in-Some-clause-blocks
returns-in-Some-clause-blocks c =
    let d = c.new-deal.result in
    let before = (goal.at.returns-in-Some-clause-blocks c).After-new-deal in
    let within = rw c.in-Some.is at c.in_ok-pieces.ensures.blocks in
    blocks-are before (length c.in-Some.pieces.items)
    (rounds-blocks d.range d.origin d.size d.extent d.coordinate c.new-deal.result.deal c.args.start (length c.in-Some.pieces.items) (begins-at before) within)

pub returns-in-None-clause-cut : goal.returns-in-None-clause-cut
returns-in-None-clause-cut c =
    let before = (goal.at.returns-in-None-clause-cut c).After-new-deal in
    IfOk-weaker c.by_offsets-in-None.result (λ v. AreCutBy before.new-deal.result (offset_in before.new-deal.result) v.items)
    (λ v. AreListed (BlockCyclic c.args.start c.args.size) (filter (λ i. block_cyclic_place c.args.start c.args.size c.args.extent i == c.args.coordinate) (members_of c.args.range.now)) v.items)
    (λ v are. by-offsets before v.items are) c.by_offsets-in-None.ensures.cut

pub returns-in-None-clause-few : goal.returns-in-None-clause-few
returns-in-None-clause-few c =
    IfOk-weaker c.by_offsets-in-None.result (λ v. length v.items ≤ c.new-deal.result.size) (λ v. pos (length v.items) ≤ℤ c.args.size)
    (λ v few. omega (arith, ints, few, c.new-deal.ensures.size, c.requires.some)) c.by_offsets-in-None.ensures.few

pub returns-in-None-clause-blocks : goal.returns-in-None-clause-blocks
returns-in-None-clause-blocks c =
    let d = c.new-deal.result in
    let before = (goal.at.returns-in-None-clause-blocks c).After-new-deal in
    let dealt = filter (λ i. block_number d.origin d.size i % d.extent == d.coordinate) (members_of d.range) in
    let many = (rw c.in-None.is at c.in_ok-pieces.ensures.many) refl in
    let blocks = rounds-blocks d.range d.origin d.size d.extent d.coordinate c.new-deal.result.deal c.args.start (d.size + 1) (begins-at before) many in
    IfOk-weaker c.by_offsets-in-None.result (λ v. length v.items ≤ d.size)
    (λ v. IsWithinValues (λ i. int_div_euclid (i -ℤ c.args.start) c.args.size) (filter (λ i. block_cyclic_place c.args.start c.args.size c.args.extent i == c.args.coordinate) (members_of c.args.range.now)) (length v.items))
    (λ v few. blocks-are before (length v.items) (IsWithinValues-less (λ i. int_div_euclid (i -ℤ c.args.start) (pos d.size)) dealt (length v.items) (d.size + 1) (omega (arith, few)) blocks))
    c.by_offsets-in-None.ensures.few
