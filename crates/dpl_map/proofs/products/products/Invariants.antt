-- The products so far are cut out of the tuples of their numbers, whatever lists the ranges are cut out of.
use Rattle.std.proofs.Common.{◌≡◌, ◌≢◌, ◌<◌, ℤ, List, [], filter, length, nat_lt, All}
use Rattle.dpl_sets.specs.Ranges.{members_of}
use Rattle.dpl_sets.specs.Indices.{tuples, indices}
use Rattle.dpl_domain.specs.Ranks.{last_of}
use Rattle.dpl_map.specs.Cuts.{AreSorted}
use Rattle.dpl_map.proofs.ProductCuts.{IsCutWhole, number-at}
use Rattle.dpl_map.proofs.products.products.Given as goal

abbrev pub invariant-loop-k : goal.invariant-loop-k
invariant-loop-k l =
    ((xs ys zs : List ℤ) (first : IsCutWhole members_of xs l.outers) (second : IsCutWhole members_of ys l.middles) (third : IsCutWhole members_of zs l.inners) → AreSorted indices (λ s t. number-at xs ys zs l.outers l.middles l.inners first second third l.rank s < number-at xs ys zs l.outers l.middles l.inners first second third l.rank t) (filter (λ t. nat_lt (number-at xs ys zs l.outers l.middles l.inners first second third l.rank t) l.k) (tuples (last_of l.rank xs ys zs))) l.domains.items)
    × (length l.domains.items ≡ l.k)
    × (All (λ r. members_of r ≢ []) l.outers → All (λ r. members_of r ≢ []) l.middles → All (λ r. members_of r ≢ []) l.inners → All (λ domain. indices domain ≢ []) l.domains.items)
