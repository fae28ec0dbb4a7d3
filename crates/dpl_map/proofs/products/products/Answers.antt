-- Each number of a product is that of its three ranges, row by row.
use Rattle.std.proofs.Common.{◌≡◌, ◌≢◌, ◌<◌, ◌<ℤ◌, ◌*◌, ◌/◌, ◌%◌, ◌==◌, [], length, slice_get, Some, filter, ap, sym, ◌∙◌, arith, ⊎_elim}
use Rattle.std.proofs.lemmas.Bool.{cases_lt}
use Rattle.std.proofs.lemmas.List.{nil_from_length}
use Rattle.std.proofs.lemmas.List.Elements.{All-nil, All-push}
use Rattle.std.proofs.lemmas.Option.{slice_get-get_or}
use Rattle.dpl_sets.specs.Ranges.{members_of}
use Rattle.dpl_sets.specs.Indices.{tuples, indices}
use Rattle.dpl_domain.specs.Ranks.{last_of}
use Rattle.dpl_map.specs.Orders.{IsBefore}
use Rattle.dpl_map.proofs.CutLemmas.{AreSorted-none, AreSorted-same, AreSorted-begin, AreSorted-more, AreSorted-end}
use Rattle.dpl_map.proofs.PartLemmas.{IsSeat, seat}
use Rattle.dpl_map.proofs.ProductCuts.{AreCut-whole, whole-sorted, number-at, number-below, number-sorted, product-listed, some-each, tuples-nothing}
use Rattle.dpl_map.proofs.ListLemmas.{All-each, All-slice_get, length-push}
use Rattle.dpl_map.proofs.SomeLemmas.{indices-some}
use Rattle.dpl_map.proofs.products.products.Goals as goal
use Rattle.dpl_map.proofs.products.products.Goals.{In-loop-k, After-index-inners-k}

-- the coordinates of a number
seated : (c : In-loop-k) → IsSeat c.loop-k.k (length c.args.outers.now) (length c.args.middles.now) (length c.args.inners.now) (c.loop-k.k / length c.args.inners.now / length c.args.middles.now) (c.loop-k.k / length c.args.inners.now % length c.args.middles.now) (c.loop-k.k % length c.args.inners.now)
seated c =
    let within : c.loop-k.k < length c.args.outers.now * length c.args.middles.now * length c.args.inners.now = omega (arith, c.loop-k-test.true, c.in_ok-count.ensures) in
    let some = some-each (length c.args.outers.now) (length c.args.middles.now) (length c.args.inners.now) c.loop-k.k within in
    seat c.loop-k.k (length c.args.outers.now) (length c.args.middles.now) (length c.args.inners.now) some.1 some.2 within

pub bounds-outers-k : goal.bounds-outers-k
bounds-outers-k c = (seated c).outer

pub loop-k-init : goal.loop-k-init
loop-k-init c =
    rw c.in_ok-domains.ensures.items (
      (λ xs ys zs first second third.
          AreSorted-begin indices (number-at xs ys zs c.args.outers.now c.args.middles.now c.args.inners.now first second third c.args.rank) (tuples (last_of c.args.rank xs ys zs))),
      omega arith,
      (λ outers middles inners. All-nil (λ domain. indices domain ≢ [])),
    )

-- the three ranges stand at these coordinates
outer-at : (c : After-index-inners-k) → slice_get c.args.outers.now (c.loop-k.k / length c.args.inners.now / length c.args.middles.now) ≡ Some c.index-outers-k.result
outer-at c = slice_get-get_or c.args.outers.now _ c.index-outers-k.result (seated (goal.at.After-index-inners-k c).In-loop-k).outer ∙ ap Some (sym c.index-outers-k.is)

middle-at : (c : After-index-inners-k) → slice_get c.args.middles.now (c.loop-k.k / length c.args.inners.now % length c.args.middles.now) ≡ Some c.index-middles-k.result
middle-at c = slice_get-get_or c.args.middles.now _ c.index-middles-k.result (seated (goal.at.After-index-inners-k c).In-loop-k).middle ∙ ap Some (sym c.index-middles-k.is)

inner-at : (c : After-index-inners-k) → slice_get c.args.inners.now (c.loop-k.k % length c.args.inners.now) ≡ Some c.index-inners-k.result
inner-at c = slice_get-get_or c.args.inners.now _ c.index-inners-k.result (seated (goal.at.After-index-inners-k c).In-loop-k).inner ∙ ap Some (sym c.index-inners-k.is)

pub last_of-domain-requires-clause-small : goal.last_of-domain-requires-clause-small
last_of-domain-requires-clause-small c =
    let d = (goal.at.last_of-domain-requires-clause-small c).After-index-inners-k in
    c.requires.small _ _ _ c.index-outers-k.result c.index-middles-k.result c.index-inners-k.result (outer-at d) (middle-at d) (inner-at d)

pub loop-k-preserved : goal.loop-k-preserved
loop-k-preserved c =
    let d = (goal.at.loop-k-preserved c).After-index-inners-k in
    let s = seated (goal.at.loop-k-preserved c).In-loop-k in
    let k = c.loop-k.k in
    let m = length c.args.middles.now in
    let n = length c.args.inners.now in
    rw c.in_ok-push.ensures.items (
      (λ xs ys zs first second third.
          let num = number-at xs ys zs c.args.outers.now c.args.middles.now c.args.inners.now first second third c.args.rank in
          let lists : indices c.last_of-domain.result ≡ filter (λ t. num t == k) (tuples (last_of c.args.rank xs ys zs)) =
          ap indices c.last_of-domain.ensures
          ∙ product-listed xs ys zs c.args.outers.now c.args.middles.now c.args.inners.now first second third (k / n / m) (k / n % m) (k % n)
          c.index-outers-k.result c.index-middles-k.result c.index-inners-k.result (outer-at d) (middle-at d) (inner-at d)
          c.args.rank c.requires.one_outer c.requires.one_middle c.requires.from_one c.requires.to_three
          ∙ ap (λ j. filter (λ t. num t == j) (tuples (last_of c.args.rank xs ys zs))) s.number in
          AreSorted-more indices num (tuples (last_of c.args.rank xs ys zs)) c.loop-k.domains.items k c.last_of-domain.result (c.loop-k.invariant.0 xs ys zs first second third) lists),
      omega (arith, c.loop-k.invariant.1, length-push c.loop-k.domains.items c.last_of-domain.result),
      (λ outers middles inners.
          All-push (λ domain. indices domain ≢ []) c.loop-k.domains.items c.last_of-domain.result (c.loop-k.invariant.2 outers middles inners)
          (rw c.last_of-domain.ensures
          (indices-some c.args.rank c.index-outers-k.result c.index-middles-k.result c.index-inners-k.result
          (All-slice_get (λ r. members_of r ≢ []) c.args.outers.now (k / n / m) c.index-outers-k.result outers (outer-at d))
          (All-slice_get (λ r. members_of r ≢ []) c.args.middles.now (k / n % m) c.index-middles-k.result middles (middle-at d))
          (All-slice_get (λ r. members_of r ≢ []) c.args.inners.now (k % n) c.index-inners-k.result inners (inner-at d))))),
    )

pub returns-clause-cut : goal.returns-clause-cut
returns-clause-cut c =
    λ f g h xs ys zs first second third.
    let a = length c.args.outers.now in
    let m = length c.args.middles.now in
    let n = length c.args.inners.now in
    let before = IsBefore (last_of c.args.rank f g h) in
    ⊎_elim
    (λ some.
    let each = some-each a m n 0 some in
    let x = AreCut-whole members_of xs c.args.outers.now each.0 first.cut in
    let y = AreCut-whole members_of ys c.args.middles.now each.1 second.cut in
    let z = AreCut-whole members_of zs c.args.inners.now each.2 third.cut in
    let num = number-at xs ys zs c.args.outers.now c.args.middles.now c.args.inners.now x y z c.args.rank in
    AreSorted-same indices (λ s t. num s < num t) before (tuples (last_of c.args.rank xs ys zs)) c.loop-k.domains.items
    (number-sorted xs ys zs c.args.outers.now c.args.middles.now c.args.inners.now x y z f g h
    (whole-sorted members_of (λ i j. f i <ℤ f j) xs c.args.outers.now each.0 first) (whole-sorted members_of (λ i j. g i <ℤ g j) ys c.args.middles.now each.1 second) (whole-sorted members_of (λ i j. h i <ℤ h j) zs c.args.inners.now each.2 third)
    c.args.rank c.requires.from_one c.requires.to_three)
    (AreSorted-end indices num (tuples (last_of c.args.rank xs ys zs)) c.loop-k.k c.loop-k.domains.items
    (All-each (λ t. num t < c.loop-k.k)
    (λ t. let e = number-below xs ys zs c.args.outers.now c.args.middles.now c.args.inners.now x y z some c.args.rank c.requires.one_outer c.requires.one_middle t in omega (arith, e, c.loop-k-test.false, c.in_ok-count.ensures))
    (tuples (last_of c.args.rank xs ys zs)))
    (c.loop-k.invariant.0 xs ys zs x y z)))
    (λ none.
    let items : c.loop-k.domains.items ≡ [] = nil_from_length c.loop-k.domains.items (omega (arith, c.loop-k.invariant.1, c.loop-k.auto.k-end, c.in_ok-count.ensures, none)) in
    let empty = tuples-nothing xs ys zs c.args.outers.now c.args.middles.now c.args.inners.now first.cut second.cut third.cut (omega (arith, none)) c.args.rank c.requires.one_outer c.requires.one_middle c.requires.from_one c.requires.to_three in
    rw (items, empty) (AreSorted-none indices before))
    (cases_lt 0 (a * m * n))
