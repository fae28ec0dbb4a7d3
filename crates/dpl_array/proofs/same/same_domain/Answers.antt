-- Range by range.
-- These are the answers to the goals of `same_domain`.
use Rattle.std.proofs.Common.{◌≡◌, length, true, false, refl, sym, ◌∙◌}
use Rattle.dpl_array.proofs.SameLemmas.{domain-same, same-domain, same-rank}
use Rattle.dpl_array.proofs.same.same_domain.Goals as goal

pub returns-then-rank : goal.returns-then-rank
returns-then-rank c = (
  (λ no. absurd (let e : false ≡ true = no in cc)),
  (λ same. absurd (c.if-rank.true (c.rank.ensures.rank ∙ same-rank c.args.one.now c.args.other.now same ∙ sym c.rank-2.ensures.rank))),
)

pub returns-then-not-same_range-2 : goal.returns-then-not-same_range-2
returns-then-not-same_range-2 c =
    let rank : length c.args.one.now ≡ length c.args.other.now = sym c.rank.ensures.rank ∙ c.if-rank.false ∙ c.rank-2.ensures.rank in (
      (λ no. absurd (let e : false ≡ true = no in cc)),
      (λ same. c.if-not-same_range-2.ensures.1 (same-domain c.args.one.now c.args.other.now _ _ _ _ _ _ rank c.ranges-outer.ensures.ranges c.ranges-first.ensures.ranges c.ranges-outer.ensures.unused c.ranges-first.ensures.unused same).1),
    )

pub returns : goal.returns
returns c =
    let rank : length c.args.one.now ≡ length c.args.other.now = sym c.rank.ensures.rank ∙ c.if-rank.false ∙ c.rank-2.ensures.rank in (
      (λ yes. domain-same c.args.one.now c.args.other.now _ _ _ _ _ _ rank c.ranges-outer.ensures.ranges c.ranges-first.ensures.ranges c.ranges-outer.ensures.unused c.ranges-first.ensures.unused (c.if-not-same_range.ensures.0 refl) (c.if-not-same_range-2.ensures.0 refl) (c.same_range-3.ensures.0 yes)),
      (λ same. c.same_range-3.ensures.1 (same-domain c.args.one.now c.args.other.now _ _ _ _ _ _ rank c.ranges-outer.ensures.ranges c.ranges-first.ensures.ranges c.ranges-outer.ensures.unused c.ranges-first.ensures.unused same).2),
    )
