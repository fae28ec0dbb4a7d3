-- Each test is asked after those of the faults with a lower number.
use Rattle.std.proofs.Common.{◌≡◌, ap, sym, ◌∙◌, refl, arith, subst, w64, to_z, of_z, Option, Some, None, Err, IfOk, IfSome, is_some, true}
use Rattle.std.proofs.lemmas.Int.{ints}
use Rattle.std.specs.Option.{ok_or}
use Rattle.dpl_sets.specs.Indices.{IsSmall}
use Rattle.dpl_domain.specs.Ranks.{last_of}
use Rattle.dpl_sets.specs.Expansions.{expanded, AreUnit, AreBounded}
use Rattle.dpl_domain.specs.declared.product.DomainFault.TheVariants.{Size, Stride, Bound}
use Rattle.dpl_domain.proofs.product.Domain.expand.Goals as goal
use Rattle.dpl_domain.proofs.product.Domain.expand.Goals.{After-over-moved, Then-not-is_small, Then-not-is_unit, After-ok_or}

-- an error in the place of a value is there where there is no value
ok_or-err : {D E : Type 0} (o : Option D) (e f : E) → ok_or o e ≡ Err f → (is_some o ≡ true → ⊥) × (e ≡ f)
ok_or-err None e f same = ((λ some. absurd cc), cc)
ok_or-err (Some d) e f same = absurd cc

ok_or-none : {D E : Type 0} (o : Option D) (e : E) → (is_some o ≡ true → ⊥) → ok_or o e ≡ Err e
ok_or-none None e none = refl
ok_or-none (Some d) e none = absurd (none refl)

IfOk-ok_or : {D E : Type 0} (o : Option D) (e : E) (P : D → Type 0) → IfSome o P → IfOk (ok_or o e) P
IfOk-ok_or None e P held = tt
IfOk-ok_or (Some d) e P held = held

-- the ranges that the tests look at
ranges : (c : After-over-moved) → c.over-moved.result ≡ expanded c.args.k c.args.self.now
ranges c =
    let by : to_z w64 (of_z w64 c.args.k) ≡ c.args.k = omega (arith, ints) in
    c.over-moved.ensures
    ∙ ap (λ k. expanded k (last_of c.rank.result c.ranges-outer.result.0 c.ranges-outer.result.1 c.ranges-outer.result.2)) by
    ∙ ap (λ n. expanded c.args.k (last_of n c.ranges-outer.result.0 c.ranges-outer.result.1 c.ranges-outer.result.2)) c.rank.ensures.rank
    ∙ ap (expanded c.args.k) (sym c.ranges-outer.ensures.ranges)

-- too many indices
large : (c : Then-not-is_small) → IsSmall (expanded c.args.k c.args.self.now) → ⊥
large c small =
    let test = c.is_small.ensures.1 (subst IsSmall (sym (ranges (goal.at.returns-then-not-is_small-clause-ok c).After-over-moved)) small) in
    let fails = c.if-not-is_small.true in
    absurd cc

pub returns-then-not-is_small-clause-ok : goal.returns-then-not-is_small-clause-ok
returns-then-not-is_small-clause-ok c = ((λ e. absurd cc), (λ h. absurd (large c h.0)))

pub returns-then-not-is_small-clause-size : goal.returns-then-not-is_small-clause-size
returns-then-not-is_small-clause-size c = ((λ e. large c), (λ never. refl))

pub returns-then-not-is_small-clause-stride : goal.returns-then-not-is_small-clause-stride
returns-then-not-is_small-clause-stride c = ((λ e. absurd cc), (λ h. absurd (large c h.0)))

pub returns-then-not-is_small-clause-bound : goal.returns-then-not-is_small-clause-bound
returns-then-not-is_small-clause-bound c = ((λ e. absurd cc), (λ h. absurd (large c h.0)))

-- few enough indices, and a stride other than 1
small-then : (c : Then-not-is_unit) → IsSmall (expanded c.args.k c.args.self.now)
small-then c = subst IsSmall (ranges (goal.at.returns-then-not-is_unit-clause-ok c).After-over-moved) (c.is_small.ensures.0 c.if-not-is_small.false)

strided : (c : Then-not-is_unit) → AreUnit (expanded c.args.k c.args.self.now) → ⊥
strided c unit =
    let test = c.is_unit.ensures.1 (subst AreUnit (sym (ranges (goal.at.returns-then-not-is_unit-clause-ok c).After-over-moved)) unit) in
    let fails = c.if-not-is_unit.true in
    absurd cc

pub returns-then-not-is_unit-clause-ok : goal.returns-then-not-is_unit-clause-ok
returns-then-not-is_unit-clause-ok c = ((λ e. absurd cc), (λ h. absurd (strided c h.1)))

pub returns-then-not-is_unit-clause-size : goal.returns-then-not-is_unit-clause-size
returns-then-not-is_unit-clause-size c = ((λ e. absurd cc), (λ never. absurd (never (small-then c))))

pub returns-then-not-is_unit-clause-stride : goal.returns-then-not-is_unit-clause-stride
returns-then-not-is_unit-clause-stride c = ((λ e. (small-then c, strided c)), (λ h. refl))

pub returns-then-not-is_unit-clause-bound : goal.returns-then-not-is_unit-clause-bound
returns-then-not-is_unit-clause-bound c = ((λ e. absurd cc), (λ h. absurd (strided c h.1)))

-- few enough indices, and each stride 1
small : (c : After-ok_or) → IsSmall (expanded c.args.k c.args.self.now)
small c = subst IsSmall (ranges (goal.at.returns-clause-ok c).After-over-moved) (c.is_small.ensures.0 c.if-not-is_small.false)

unit : (c : After-ok_or) → AreUnit (expanded c.args.k c.args.self.now)
unit c = subst AreUnit (ranges (goal.at.returns-clause-ok c).After-over-moved) (c.is_unit.ensures.0 c.if-not-is_unit.false)

bounded : (c : After-ok_or) → is_some c.domain.result ≡ true → AreBounded (expanded c.args.k c.args.self.now)
bounded c some = subst AreBounded (ranges (goal.at.returns-clause-ok c).After-over-moved) (c.domain.ensures.bounded.0 some)

there : (c : After-ok_or) → AreBounded (expanded c.args.k c.args.self.now) → is_some c.domain.result ≡ true
there c bounds = c.domain.ensures.bounded.1 (subst AreBounded (sym (ranges (goal.at.returns-clause-ok c).After-over-moved)) bounds)

pub returns-clause-ok : goal.returns-clause-ok
returns-clause-ok c = (
  (λ ok. (small c, unit c, bounded c (sym c.ok_or.ensures.variant ∙ ok))),
  (λ h. c.ok_or.ensures.variant ∙ there c h.2),
)

pub returns-clause-held : goal.returns-clause-held
returns-clause-held c =
    rw (c.ok_or.ensures.value, ← ranges (goal.at.returns-clause-held c).After-over-moved)
    (IfOk-ok_or c.domain.result Bound (λ d. d ≡ c.over-moved.result) c.domain.ensures.held)

pub returns-clause-size : goal.returns-clause-size
returns-clause-size c = (
  (λ e. let other = (ok_or-err c.domain.result Bound Size (sym c.ok_or.ensures.value ∙ e)).1 in absurd cc),
  (λ never. absurd (never (small c))),
)

pub returns-clause-stride : goal.returns-clause-stride
returns-clause-stride c = (
  (λ e. let other = (ok_or-err c.domain.result Bound Stride (sym c.ok_or.ensures.value ∙ e)).1 in absurd cc),
  (λ h. absurd (h.1 (unit c))),
)

pub returns-clause-bound : goal.returns-clause-bound
returns-clause-bound c = (
  (λ e. (small c, unit c, (λ bounds. (ok_or-err c.domain.result Bound Bound (sym c.ok_or.ensures.value ∙ e)).0 (there c bounds)))),
  (λ h. c.ok_or.ensures.value ∙ ok_or-none c.domain.result Bound (λ some. h.2 (bounded c some))),
)
