-- One domain is asked itself; of more, each order is tried in which they may stand.
use Rattle.std.proofs.Common.{◌≡◌, ◌↔◌, ◌∙◌, ℕ, length, refl, sym, subst, arith, IfSome}
use Rattle.std.proofs.lemmas.Option.{none-some, slice_get_within}
use Rattle.dpl_domain.specs.Ranks.{last_of}
use Rattle.dpl_map.specs.declared.find.Order.{Order}
use Rattle.dpl_map.specs.declared.find.Order.TheVariants.{Blocks}
use Rattle.dpl_map.specs.Axes.{cut_rule}
use Rattle.dpl_map.specs.Orders.{IsAt, HasNone}
use Rattle.dpl_map.proofs.ListLemmas.{All-slice_get}
use Rattle.dpl_map.proofs.OrderLemmas.{length-index}
use Rattle.dpl_map.proofs.FindLemmas.{single-key, each-order, none-same, found-only, none-only, either-only, part-rows}
use Rattle.dpl_map.proofs.map.Map.find.Goals as goal

pub returns-then-domains-le1 : goal.returns-then-domains-le1
returns-then-domains-le1 c =
    λ k j. (
      (λ is. ((c.place_in.ensures k j).0 is).1),
      (λ at. (c.place_in.ensures k j).1 (omega (arith, slice_get_within c.args.domains.now k at.0 at.1, c.if-domains-le1.true), at)),
    )

-- where there are more domains, each has the map's rank
pub returns-then-rank : goal.returns-then-rank
returns-then-rank c =
    λ k j. (
      (λ is. absurd (none-some (k, j) is)),
      (λ at.
          let rows = part-rows c.args.self.now c.args.domains.now c.requires c.if-domains-le1.false in
          let same = All-slice_get (λ d. length d ≡ length c.args.self.now) c.args.domains.now k at.0 rows.2.rank at.1 in
          absurd (c.if-rank.true (c.rank.ensures.rank ∙ length-index at.0 j c.args.index at.2 ∙ same ∙ sym c.rank-2.ensures))),
    )

pub returns-in-Some : goal.returns-in-Some
returns-in-Some c =
    let rows = part-rows c.args.self.now c.args.domains.now c.requires c.if-domains-le1.false in
    found-only rows.0 c.args.self.now c.args.domains.now c.args.index rows.2 c.in-Some.found c.in-Some.ensures.found

pub returns-then-is_single : goal.returns-then-is_single
returns-then-is_single c =
    let rows = part-rows c.args.self.now c.args.domains.now c.requires c.if-domains-le1.false in
    let rank : length c.args.index ≡ length c.args.self.now = sym c.rank.ensures.rank ∙ c.if-rank.false ∙ c.rank-2.ensures in
    λ k j. (
      (λ is. absurd (none-some (k, j) is)),
      (λ at.
          absurd
          (none-only c.args.self.now c.args.domains.now c.args.index (omega (arith, rank, c.rank.ensures.limits.0)) (omega (arith, rank, c.rank.ensures.limits.1))
          (λ outer middle inner.
          none-same c.args.self.now c.axes.result.0 c.axes.result.1 c.axes.result.2 outer middle inner Blocks middle inner c.args.domains.now c.args.index
          c.axes.ensures.axes (single-key outer (cut_rule c.axes.result.0) (c.is_single.ensures.0 c.if-is_single.true)) refl refl (c.in_default.ensures.none refl middle inner))
          rows.0 rows.1 rows.2 k j at)),
    )

pub returns : goal.returns
returns c =
    let rows = part-rows c.args.self.now c.args.domains.now c.requires c.if-domains-le1.false in
    let rank : length c.args.index ≡ length c.args.self.now = sym c.rank.ensures.rank ∙ c.if-rank.false ∙ c.rank-2.ensures in
    either-only c.find_outer-2.result (λ k j. IsAt c.args.domains.now k j c.args.index)
    (λ at is.
    found-only rows.0 c.args.self.now c.args.domains.now c.args.index rows.2 at
    (subst (λ r. IfSome r (λ at. (j : ℕ) → (at.1 ≡ j) ↔ IsAt c.args.domains.now at.0 j c.args.index)) is c.find_outer-2.ensures.found))
    (λ is.
    none-only c.args.self.now c.args.domains.now c.args.index (omega (arith, rank, c.rank.ensures.limits.0)) (omega (arith, rank, c.rank.ensures.limits.1))
    (each-order (λ outer. (middle inner : Order) → HasNone (last_of (length c.args.self.now) outer middle inner) c.args.self.now c.args.domains.now c.args.index)
    (c.in_default.ensures.none refl) (c.find_outer-2.ensures.none (rw is refl)))
    rows.0 rows.1 rows.2)
