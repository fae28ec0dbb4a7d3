-- Axis by axis.
use Rattle.std.proofs.Common.{◌≡◌, length, true, false, refl, sym, ◌∙◌}
use Rattle.dpl_map.proofs.SameLemmas.{same-axes, same-map}
use Rattle.dpl_map.proofs.map.Map.is.Goals as goal

pub returns-then-not-is : goal.returns-then-not-is
returns-then-not-is c = (
  (λ no. absurd (let e : false ≡ true = no in cc)),
  (λ same. c.if-not-is.ensures.1 (same-axes c.args.self.now c.args.other.now _ _ _ _ _ _ c.axes-outer.ensures.axes c.axes-first.ensures.axes c.axes-outer.ensures.limits c.axes-first.ensures.limits same).0),
)

pub returns-then-not-is-2 : goal.returns-then-not-is-2
returns-then-not-is-2 c = (
  (λ no. absurd (let e : false ≡ true = no in cc)),
  (λ same. c.if-not-is-2.ensures.1 (same-axes c.args.self.now c.args.other.now _ _ _ _ _ _ c.axes-outer.ensures.axes c.axes-first.ensures.axes c.axes-outer.ensures.limits c.axes-first.ensures.limits same).1),
)

pub returns : goal.returns
returns c =
    let rank : length c.args.self.now ≡ length c.args.other.now = sym c.rank.ensures ∙ c.if-rank.false ∙ c.rank-2.ensures in (
      (λ yes. same-map c.args.self.now c.args.other.now _ _ _ _ _ _ c.axes-outer.ensures.axes c.axes-first.ensures.axes c.axes-outer.ensures.limits c.axes-first.ensures.limits rank (c.if-not-is.ensures.0 refl) (c.if-not-is-2.ensures.0 refl) (c.is-3.ensures.0 yes)),
      (λ same. c.is-3.ensures.1 (same-axes c.args.self.now c.args.other.now _ _ _ _ _ _ c.axes-outer.ensures.axes c.axes-first.ensures.axes c.axes-outer.ensures.limits c.axes-first.ensures.limits same).2),
    )
