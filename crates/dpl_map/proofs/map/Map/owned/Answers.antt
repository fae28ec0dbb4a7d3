-- The place's coordinates, and what is owned by it.
use Rattle.std.proofs.Common.{◌≡◌, ◌≢◌, ◌≤◌, ◌<◌, ◌*◌, ◌/◌, ◌%◌, ap, sym, subst, ◌∙◌, arith, length, ℕ, ℤ, List, [], All, IfOk, inr}
use Rattle.dpl_sets.specs.Ranges.{RangeValue, members_of}
use Rattle.dpl_sets.specs.Indices.{tuples, indices}
use Rattle.dpl_domain.specs.Ranks.{last_of}
use Rattle.dpl_map.specs.Counts.{AreFewRanges, AreFew}
use Rattle.dpl_map.specs.Cuts.{AreCut, AreSorted}
use Rattle.dpl_map.specs.declared.find.Order.{Order}
use Rattle.dpl_map.specs.Orders.{rule_key, keys, IsBefore, AreListed, AreProducts, ArePart}
use Rattle.dpl_map.proofs.OrderLemmas.{keys-last_of, same-length, rows}
use Rattle.dpl_map.specs.MapFields.{IsMap}
use Rattle.dpl_map.specs.Maps.{AxisValue, locales}
use Rattle.dpl_map.specs.Axes.{AreSingle, cut_rule, owned_of}
use Rattle.dpl_map.specs.Parts.{part}
use Rattle.dpl_map.proofs.OwnerLemmas.{locales-padded}
use Rattle.dpl_map.proofs.PartLemmas.{IsSeat, seat, tuples-part, part-small}
use Rattle.dpl_map.proofs.ProductCuts.{length-product}
use Rattle.dpl_map.proofs.MapLemmas.{AreSingle-last_of, one-unused, one-single, one-product}
use Rattle.dpl_map.proofs.FewLemmas.{IfOk-both, FewEach, FewEach-last_of, AreFew-tuples, All-axes}
use Rattle.std.proofs.lemmas.Result.{IfOk-weaker}
use Rattle.dpl_map.proofs.map.Map.owned.Goals as goal
use Rattle.dpl_map.proofs.map.Map.owned.Goals.{After-deref-3, After-products}

seated : (axes : List AxisValue) (locale rank : ℕ) (o m i : AxisValue) → axes ≡ last_of rank o m i → IsMap rank o m i → locale < locales axes → IsSeat locale o.extent m.extent i.extent (locale / i.extent / m.extent) (locale / i.extent % m.extent) (locale % i.extent)
seated axes locale rank o m i is limits below =
    seat locale o.extent m.extent i.extent limits.middle_limits.extent.0 limits.inner_limits.extent.0
    (omega (arith, ap locales is ∙ locales-padded rank o m i limits, below))

pub parts-requires : goal.parts-requires
parts-requires c =
    let s =
    seated c.args.self.now c.args.locale (length c.args.self.now) c.axes-outer.result.0 c.axes-outer.result.1 c.axes-outer.result.2
    c.axes-outer.ensures.axes c.axes-outer.ensures.limits c.requires.locale in
    rw (c.extent.ensures.extent, c.extent-2.ensures.extent) s.outer

-- the coordinates of the locale
abbrev plane : After-deref-3 → ℕ
plane c = c.args.locale / c.axes-outer.result.2.extent / c.axes-outer.result.1.extent

abbrev row : After-deref-3 → ℕ
row c = c.args.locale / c.axes-outer.result.2.extent % c.axes-outer.result.1.extent

abbrev column : After-deref-3 → ℕ
column c = c.args.locale % c.axes-outer.result.2.extent

-- the three dimensions are cut out of what the locale owns of them
outer-listed : (c : After-deref-3) → AreListed (cut_rule c.axes-outer.result.0) (owned_of c.axes-outer.result.0 (plane c) c.ranges-first.result.0) c.deref.result.now
outer-listed c =
    let cut = rw (c.extent.ensures.extent, c.extent-2.ensures.extent) at c.in_ok-outers.ensures.cut in
    subst (λ (ranges : List RangeValue). AreListed (cut_rule c.axes-outer.result.0) (owned_of c.axes-outer.result.0 (plane c) c.ranges-first.result.0) ranges) (sym c.deref.ensures.value) cut

outer-cut : (c : After-deref-3) → AreCut members_of (owned_of c.axes-outer.result.0 (plane c) c.ranges-first.result.0) c.deref.result.now
outer-cut c = (outer-listed c).1.cut

middle-listed : (c : After-deref-3) → AreListed (cut_rule c.axes-outer.result.1) (owned_of c.axes-outer.result.1 (row c) c.ranges-first.result.1) c.deref-2.result.now
middle-listed c =
    let cut = rw (c.extent.ensures.extent, c.extent-3.ensures.extent) at c.in_ok-middles.ensures.cut in
    subst (λ (ranges : List RangeValue). AreListed (cut_rule c.axes-outer.result.1) (owned_of c.axes-outer.result.1 (row c) c.ranges-first.result.1) ranges) (sym c.deref-2.ensures.value) cut

middle-cut : (c : After-deref-3) → AreCut members_of (owned_of c.axes-outer.result.1 (row c) c.ranges-first.result.1) c.deref-2.result.now
middle-cut c = (middle-listed c).1.cut

inner-listed : (c : After-deref-3) → AreListed (cut_rule c.axes-outer.result.2) (owned_of c.axes-outer.result.2 (column c) c.ranges-first.result.2) c.deref-3.result.now
inner-listed c =
    let cut = rw c.extent-4.ensures.extent at c.in_ok-inners.ensures.cut in
    subst (λ (ranges : List RangeValue). AreListed (cut_rule c.axes-outer.result.2) (owned_of c.axes-outer.result.2 (column c) c.ranges-first.result.2) ranges) (sym c.deref-3.ensures.value) cut

inner-cut : (c : After-deref-3) → AreCut members_of (owned_of c.axes-outer.result.2 (column c) c.ranges-first.result.2) c.deref-3.result.now
inner-cut c = (inner-listed c).1.cut

-- together their tuples are the part
tuples-owned : (c : After-deref-3) → tuples (last_of c.rank.result (owned_of c.axes-outer.result.0 (plane c) c.ranges-first.result.0) (owned_of c.axes-outer.result.1 (row c) c.ranges-first.result.1) (owned_of c.axes-outer.result.2 (column c) c.ranges-first.result.2)) ≡ part c.args.domain.now c.args.self.now c.args.locale
tuples-owned c =
    let limits = c.axes-outer.ensures.limits in
    let s =
    seated c.args.self.now c.args.locale (length c.args.self.now) c.axes-outer.result.0 c.axes-outer.result.1 c.axes-outer.result.2
    c.axes-outer.ensures.axes limits c.requires.locale in
    let domain = c.ranges-first.ensures.ranges ∙ ap (λ (n : ℕ). last_of n c.ranges-first.result.0 c.ranges-first.result.1 c.ranges-first.result.2) c.requires.rank in
    let rank = c.rank.ensures.rank ∙ c.requires.rank in
    let some : 1 ≤ length c.args.self.now = omega (arith, c.rank.ensures.limits.0, c.requires.rank) in
    ap (λ (n : ℕ). tuples (last_of n (owned_of c.axes-outer.result.0 (plane c) c.ranges-first.result.0) (owned_of c.axes-outer.result.1 (row c) c.ranges-first.result.1) (owned_of c.axes-outer.result.2 (column c) c.ranges-first.result.2))) rank
    ∙ tuples-part c.axes-outer.result.0 c.axes-outer.result.1 c.axes-outer.result.2 limits.outer_limits limits.middle_limits limits.inner_limits
    (plane c) (row c) (column c) c.args.locale s.outer s.middle s.inner s.number
    c.ranges-first.result.0 c.ranges-first.result.1 c.ranges-first.result.2 (length c.args.self.now) limits some
    ∙ sym (ap (λ (d : List RangeValue). part d (last_of (length c.args.self.now) c.axes-outer.result.0 c.axes-outer.result.1 c.axes-outer.result.2) c.args.locale) domain)
    ∙ sym (ap (λ (axes : List AxisValue). part c.args.domain.now axes c.args.locale) c.axes-outer.ensures.axes)

-- and each is in few ranges
outer-few : (c : After-deref-3) → AreFewRanges (cut_rule c.axes-outer.result.0) (owned_of c.axes-outer.result.0 (plane c) c.ranges-first.result.0) (length c.deref.result.now)
outer-few c =
    let few = rw (c.extent.ensures.extent, c.extent-2.ensures.extent) at c.in_ok-outers.ensures.few in
    subst (λ (ranges : List RangeValue). AreFewRanges (cut_rule c.axes-outer.result.0) (owned_of c.axes-outer.result.0 (plane c) c.ranges-first.result.0) (length ranges)) (sym c.deref.ensures.value) few

middle-few : (c : After-deref-3) → AreFewRanges (cut_rule c.axes-outer.result.1) (owned_of c.axes-outer.result.1 (row c) c.ranges-first.result.1) (length c.deref-2.result.now)
middle-few c =
    let few = rw (c.extent.ensures.extent, c.extent-3.ensures.extent) at c.in_ok-middles.ensures.few in
    subst (λ (ranges : List RangeValue). AreFewRanges (cut_rule c.axes-outer.result.1) (owned_of c.axes-outer.result.1 (row c) c.ranges-first.result.1) (length ranges)) (sym c.deref-2.ensures.value) few

inner-few : (c : After-deref-3) → AreFewRanges (cut_rule c.axes-outer.result.2) (owned_of c.axes-outer.result.2 (column c) c.ranges-first.result.2) (length c.deref-3.result.now)
inner-few c =
    let few = rw c.extent-4.ensures.extent at c.in_ok-inners.ensures.few in
    subst (λ (ranges : List RangeValue). AreFewRanges (cut_rule c.axes-outer.result.2) (owned_of c.axes-outer.result.2 (column c) c.ranges-first.result.2) (length ranges)) (sym c.deref-3.ensures.value) few

seat-of : (c : After-deref-3) → IsSeat c.args.locale c.axes-outer.result.0.extent c.axes-outer.result.1.extent c.axes-outer.result.2.extent (plane c) (row c) (column c)
seat-of c =
    seated c.args.self.now c.args.locale (length c.args.self.now) c.axes-outer.result.0 c.axes-outer.result.1 c.axes-outer.result.2
    c.axes-outer.ensures.axes c.axes-outer.ensures.limits c.requires.locale

-- below rank 3 the dimensions in front have one range
one-outer : (c : After-deref-3) → c.rank.result < 3 → length c.deref.result.now ≡ 1
one-outer c below =
    let limits = c.axes-outer.ensures.limits in
    one-unused c.axes-outer.result.0 (plane c) c.ranges-first.result.0 c.deref.result.now limits.outer_limits
    (limits.first (omega (arith, below, c.rank.ensures.rank, c.requires.rank))) (c.ranges-first.ensures.unused.first (omega (arith, below, c.rank.ensures.rank)))
    (seat-of c).outer (outer-cut c) (outer-few c)

one-middle : (c : After-deref-3) → c.rank.result < 2 → length c.deref-2.result.now ≡ 1
one-middle c below =
    let limits = c.axes-outer.ensures.limits in
    one-unused c.axes-outer.result.1 (row c) c.ranges-first.result.1 c.deref-2.result.now limits.middle_limits
    (limits.second (omega (arith, below, c.rank.ensures.rank, c.requires.rank))) (c.ranges-first.ensures.unused.second (omega (arith, below, c.rank.ensures.rank)))
    (seat-of c).middle (middle-cut c) (middle-few c)

pub products-requires-clause-one_outer : goal.products-requires-clause-one_outer
products-requires-clause-one_outer c = λ below. one-outer (goal.at.products-requires-clause-one_outer c).After-deref-3 below

pub products-requires-clause-one_middle : goal.products-requires-clause-one_middle
products-requires-clause-one_middle c = λ below. one-middle (goal.at.products-requires-clause-one_middle c).After-deref-3 below

pub products-requires-clause-small : goal.products-requires-clause-small
products-requires-clause-small c =
    let d = (goal.at.products-requires-clause-small c).After-deref-3 in
    λ a b k o m i o-at m-at i-at.
    let few =
    length-product (owned_of c.axes-outer.result.0 (plane d) c.ranges-first.result.0) (owned_of c.axes-outer.result.1 (row d) c.ranges-first.result.1) (owned_of c.axes-outer.result.2 (column d) c.ranges-first.result.2)
    c.deref.result.now c.deref-2.result.now c.deref-3.result.now (outer-cut d) (middle-cut d) (inner-cut d) c.rank.result (one-outer d) (one-middle d)
    (omega (arith, c.rank.ensures.limits.0, c.rank.ensures.rank)) (omega (arith, c.rank.ensures.limits.1, c.rank.ensures.rank)) a b k o m i o-at m-at i-at in
    omega (arith, few, ap length (tuples-owned d), part-small c.args.domain.now c.args.self.now c.args.locale, c.requires.small)

-- each range of a dimension has members, and so each product has an index
products-some : (c : After-products) → IfOk c.products.result (λ v. All (λ domain. indices domain ≢ []) v.items)
products-some c =
    c.products.ensures.some
    (subst (All (λ r. members_of r ≢ [])) (sym c.deref.ensures.value) c.in_ok-outers.ensures.some)
    (subst (All (λ r. members_of r ≢ [])) (sym c.deref-2.ensures.value) c.in_ok-middles.ensures.some)
    (subst (All (λ r. members_of r ≢ [])) (sym c.deref-3.ensures.value) c.in_ok-inners.ensures.some)

pub returns-clause-some : goal.returns-clause-some
returns-clause-some c = products-some (goal.at.returns-clause-some c).After-products

-- and what is made of them is cut row by row out of it
cut-rows : (c : After-products) → IfOk c.products.result (λ v. (orders : List Order) × (length orders ≡ length c.args.self.now) × AreSorted indices (IsBefore (keys orders c.args.self.now)) (part c.args.domain.now c.args.self.now c.args.locale) v.items)
cut-rows c =
    let d = (goal.at.After-products c).After-deref-3 in
    let n = length c.args.self.now in
    let o = c.axes-outer.result.0 in
    let m = c.axes-outer.result.1 in
    let i = c.axes-outer.result.2 in
    let first = outer-listed d in
    let second = middle-listed d in
    let third = inner-listed d in
    let orders = last_of n first.0 second.0 third.0 in
    let rank : c.rank.result ≡ n = c.rank.ensures.rank ∙ c.requires.rank in
    let by : last_of c.rank.result (rule_key first.0 (cut_rule o)) (rule_key second.0 (cut_rule m)) (rule_key third.0 (cut_rule i)) ≡ keys orders c.args.self.now =
    ap (λ (r : ℕ). last_of r (rule_key first.0 (cut_rule o)) (rule_key second.0 (cut_rule m)) (rule_key third.0 (cut_rule i))) rank
    ∙ keys-last_of n first.0 second.0 third.0 o m i
    ∙ ap (λ (axes : List AxisValue). keys orders axes) (sym c.axes-outer.ensures.axes) in
    let long : length orders ≡ length c.args.self.now = same-length n first.0 second.0 third.0 o m i ∙ ap length (sym c.axes-outer.ensures.axes) in
    IfOk-weaker c.products.result (λ v. AreProducts c.rank.result c.deref.result.now c.deref-2.result.now c.deref-3.result.now v.items)
    (λ v. (orders : List Order) × (length orders ≡ length c.args.self.now) × AreSorted indices (IsBefore (keys orders c.args.self.now)) (part c.args.domain.now c.args.self.now c.args.locale) v.items)
    (λ v are.
    let made =
    are (rule_key first.0 (cut_rule o)) (rule_key second.0 (cut_rule m)) (rule_key third.0 (cut_rule i))
    (owned_of o (plane d) c.ranges-first.result.0) (owned_of m (row d) c.ranges-first.result.1) (owned_of i (column d) c.ranges-first.result.2) first.1 second.1 third.1 in
    let of_part = subst (λ (ts : List (List ℤ)). AreSorted indices (IsBefore (last_of c.rank.result (rule_key first.0 (cut_rule o)) (rule_key second.0 (cut_rule m)) (rule_key third.0 (cut_rule i)))) ts v.items) (tuples-owned d) made in
    (orders, long, subst (λ (ks : List (ℤ → ℤ)). AreSorted indices (IsBefore ks) (part c.args.domain.now c.args.self.now c.args.locale) v.items) by of_part))
    c.products.ensures.cut

pub returns-clause-cut : goal.returns-clause-cut
returns-clause-cut c =
    IfOk-weaker c.products.result
    (λ v. (orders : List Order) × (length orders ≡ length c.args.self.now) × AreSorted indices (IsBefore (keys orders c.args.self.now)) (part c.args.domain.now c.args.self.now c.args.locale) v.items)
    (λ v. AreCut indices (part c.args.domain.now c.args.self.now c.args.locale) v.items)
    (λ v are. are.2.cut) (cut-rows (goal.at.returns-clause-cut c).After-products)

pub returns-clause-rows : goal.returns-clause-rows
returns-clause-rows c =
    IfOk-weaker c.products.result
    (λ v. ((orders : List Order) × (length orders ≡ length c.args.self.now) × AreSorted indices (IsBefore (keys orders c.args.self.now)) (part c.args.domain.now c.args.self.now c.args.locale) v.items) × All (λ domain. indices domain ≢ []) v.items)
    (λ v. ArePart c.args.self.now v.items)
    (λ v are. inr (are.0.0, are.0.1, rows are.0.0 c.args.self.now c.args.domain.now c.args.locale v.items c.requires.rank are.1 are.0.2))
    (IfOk-both c.products.result _ _ (cut-rows (goal.at.returns-clause-rows c).After-products) (products-some (goal.at.returns-clause-rows c).After-products))

pub returns-clause-one : goal.returns-clause-one
returns-clause-one c =
    λ single.
    let d = (goal.at.returns-clause-one c).After-deref-3 in
    let some : 1 ≤ length c.args.self.now = omega (arith, c.rank.ensures.limits.0, c.requires.rank) in
    let rules =
    AreSingle-last_of (length c.args.self.now) c.axes-outer.result.0 c.axes-outer.result.1 c.axes-outer.result.2 c.axes-outer.ensures.limits some
    (subst AreSingle c.axes-outer.ensures.axes single) in
    let first = one-single (cut_rule c.axes-outer.result.0) (owned_of c.axes-outer.result.0 (plane d) c.ranges-first.result.0) (length c.deref.result.now) rules.0 (outer-few d) in
    let second = one-single (cut_rule c.axes-outer.result.1) (owned_of c.axes-outer.result.1 (row d) c.ranges-first.result.1) (length c.deref-2.result.now) rules.1 (middle-few d) in
    let third = one-single (cut_rule c.axes-outer.result.2) (owned_of c.axes-outer.result.2 (column d) c.ranges-first.result.2) (length c.deref-3.result.now) rules.2 (inner-few d) in
    let one = one-product (length c.deref.result.now) (length c.deref-2.result.now) (length c.deref-3.result.now) first second third in
    IfOk-weaker c.products.result (λ v. length v.items ≡ length c.deref.result.now * length c.deref-2.result.now * length c.deref-3.result.now) (λ v. length v.items ≤ 1)
    (λ v count. omega (arith, count, one)) c.products.ensures.count

-- so the part is in few domains
pub returns-clause-few : goal.returns-clause-few
returns-clause-few c =
    let d = (goal.at.returns-clause-few c).After-deref-3 in
    let axes = last_of (length c.args.self.now) c.axes-outer.result.0 c.axes-outer.result.1 c.axes-outer.result.2 in
    let owned = last_of c.rank.result (owned_of c.axes-outer.result.0 (plane d) c.ranges-first.result.0) (owned_of c.axes-outer.result.1 (row d) c.ranges-first.result.1) (owned_of c.axes-outer.result.2 (column d) c.ranges-first.result.2) in
    let count = length c.deref.result.now * length c.deref-2.result.now * length c.deref-3.result.now in
    let rank : c.rank.result ≡ length c.args.self.now = c.rank.ensures.rank ∙ c.requires.rank in
    let each =
    FewEach-last_of c.rank.result c.axes-outer.result.0 c.axes-outer.result.1 c.axes-outer.result.2
    (owned_of c.axes-outer.result.0 (plane d) c.ranges-first.result.0) (owned_of c.axes-outer.result.1 (row d) c.ranges-first.result.1) (owned_of c.axes-outer.result.2 (column d) c.ranges-first.result.2)
    (length c.deref.result.now) (length c.deref-2.result.now) (length c.deref-3.result.now)
    (omega (arith, c.rank.ensures.limits.0, c.rank.ensures.rank)) (omega (arith, c.rank.ensures.limits.1, c.rank.ensures.rank)) (one-outer d) (one-middle d) (outer-few d) (middle-few d) (inner-few d) in
    let ranked = subst (λ (n : ℕ). FewEach (last_of n c.axes-outer.result.0 c.axes-outer.result.1 c.axes-outer.result.2) owned count) rank each in
    let few = AreFew-tuples axes owned count (All-axes (length c.args.self.now) c.axes-outer.result.0 c.axes-outer.result.1 c.axes-outer.result.2 c.axes-outer.ensures.limits) ranked in
    let of_part = subst (λ (ts : List (List ℤ)). AreFew axes ts count) (tuples-owned d) few in
    let of_map = subst (λ (dealt : List AxisValue). AreFew dealt (part c.args.domain.now c.args.self.now c.args.locale) count) (sym c.axes-outer.ensures.axes) of_part in
    IfOk-weaker c.products.result (λ v. length v.items ≡ count) (λ v. AreFew c.args.self.now (part c.args.domain.now c.args.self.now c.args.locale) (length v.items))
    (λ v is. subst (AreFew c.args.self.now (part c.args.domain.now c.args.self.now c.args.locale)) (sym is) of_map) c.products.ensures.count
