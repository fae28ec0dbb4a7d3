-- There are no least members exactly where a range has no member.
use Rattle.std.proofs.Common.{◌≡◌, sym, subst, ap, ◌∙◌, IsNone, [], refl, arith}
use Rattle.dpl_sets.specs.Ranges.{members_of}
use Rattle.dpl_sets.specs.Indices.{indices}
use Rattle.dpl_layout.proofs.CornerLemmas.{outer-empty, middle-empty, inner-empty, all-some, is-some, not-both}
use Rattle.dpl_layout.proofs.corner.least.Goals as goal
use Rattle.dpl_layout.proofs.corner.least.Goals.{After-rank}

pub returns-in_err-outer-clause-none : goal.returns-in_err-outer-clause-none
returns-in_err-outer-clause-none c =
    let none : members_of c.ranges-outer.result.0 ≡ [] = c.low.ensures.empty.0 (subst IsNone (sym c.in_err-outer.was) refl) in
    ((λ _. ap indices c.ranges-outer.ensures.ranges ∙ outer-empty _ _ _ _ c.ranges-outer.ensures.unused none), (λ _. subst IsNone (sym c.from_residual.ensures) refl))

pub returns-in_err-middle-clause-none : goal.returns-in_err-middle-clause-none
returns-in_err-middle-clause-none c =
    let none : members_of c.ranges-outer.result.1 ≡ [] = c.low-2.ensures.empty.0 (subst IsNone (sym c.in_err-middle.was) refl) in
    ((λ _. ap indices c.ranges-outer.ensures.ranges ∙ middle-empty _ _ _ _ c.ranges-outer.ensures.unused none), (λ _. subst IsNone (sym c.from_residual-in_err-middle.ensures) refl))

pub returns-in_err-inner-clause-none : goal.returns-in_err-inner-clause-none
returns-in_err-inner-clause-none c =
    let none : members_of c.ranges-outer.result.2 ≡ [] = c.low-3.ensures.empty.0 (subst IsNone (sym c.in_err-inner.was) refl) in
    ((λ _. ap indices c.ranges-outer.ensures.ranges ∙ inner-empty _ _ _ _ c.ranges-outer.ensures.unused none), (λ _. subst IsNone (sym c.from_residual-in_err-inner.ensures) refl))

some : (c : After-rank) → indices c.args.domain.now ≡ [] → ⊥
some c empty =
    all-some _ _ _ _ c.ranges-outer.ensures.unused
    (λ none. is-some _ _ c.in_ok-outer.was (c.low.ensures.empty.1 none))
    (λ none. is-some _ _ c.in_ok-middle.was (c.low-2.ensures.empty.1 none))
    (λ none. is-some _ _ c.in_ok-inner.was (c.low-3.ensures.empty.1 none))
    (sym (ap indices c.ranges-outer.ensures.ranges) ∙ empty)

pub returns-in-1-clause-none : goal.returns-in-1-clause-none
returns-in-1-clause-none c =
    ((λ none. absurd (not-both _ (c.new.ensures.rank.1 (omega arith, omega arith)) none)), (λ empty. absurd (some (goal.at.returns-in-1-clause-none c).After-rank empty)))

pub returns-in-2-clause-none : goal.returns-in-2-clause-none
returns-in-2-clause-none c =
    ((λ none. absurd (not-both _ (c.new-in-2.ensures.rank.1 (omega arith, omega arith)) none)), (λ empty. absurd (some (goal.at.returns-in-2-clause-none c).After-rank empty)))

pub returns-in_default-clause-none : goal.returns-in_default-clause-none
returns-in_default-clause-none c =
    ((λ none. absurd (not-both _ (c.new-in_default.ensures.rank.1 (omega arith, omega arith)) none)), (λ empty. absurd (some (goal.at.returns-in_default-clause-none c).After-rank empty)))
