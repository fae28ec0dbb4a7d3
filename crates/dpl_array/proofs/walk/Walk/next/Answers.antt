-- The next element of the owner is that at the next index.
-- These are the answers to the goals of `Walk::next`.
use Rattle.std.proofs.Common.{◌+◌, get_or, slice_get, slice_set, drop, arith, ap, sym, subst, ◌∙◌}
use Rattle.dpl_array.specs.WalkFields.{left_of, IsLeft}
use Rattle.dpl_array.proofs.WalkLemmas.{next-place, next-bound, next-none, next-left, next-element, next-below}
use Rattle.dpl_array.proofs.walk.Walk.next.Goals as goal

pub owned_value-requires : goal.owned_value-requires
owned_value-requires g c =
    let w = c.self.inside in
    next-place w.array.now w.map w.given w.indices c.self.invariant c.in_ok-index.index (sym c.in_ok-index.ensures.next) c.owner-owner.result c.owner-owner.ensures.owner c.owner-owner.ensures.below

pub invariant_of-self-in_err-value : goal.invariant_of-self-in_err-value
invariant_of-self-in_err-value g c =
    let w = c.self.inside in
    let below = next-below w.array.now w.map w.given w.indices c.self.invariant c.in_ok-index.index (sym c.in_ok-index.ensures.next) c.owner-owner.result c.owner-owner.ensures.owner c.owner-owner.ensures.below in
    absurd (next-none w.array.now w.map w.given w.indices c.self.invariant c.in_ok-index.index (sym c.in_ok-index.ensures.next) c.owner-owner.result c.owner-owner.ensures.owner c.owner-owner.ensures.below (sym (c.in_err-value.ensures below)))

pub returns-in_err-value-clause-next : goal.returns-in_err-value-clause-next
returns-in_err-value-clause-next g c =
    let w = c.self.inside in
    let below = next-below w.array.now w.map w.given w.indices c.self.invariant c.in_ok-index.index (sym c.in_ok-index.ensures.next) c.owner-owner.result c.owner-owner.ensures.owner c.owner-owner.ensures.below in
    absurd (next-none w.array.now w.map w.given w.indices c.self.invariant c.in_ok-index.index (sym c.in_ok-index.ensures.next) c.owner-owner.result c.owner-owner.ensures.owner c.owner-owner.ensures.below (sym (c.in_err-value.ensures below)))

pub returns-in_err-value-clause-rest : goal.returns-in_err-value-clause-rest
returns-in_err-value-clause-rest g c =
    let w = c.self.inside in
    let below = next-below w.array.now w.map w.given w.indices c.self.invariant c.in_ok-index.index (sym c.in_ok-index.ensures.next) c.owner-owner.result c.owner-owner.ensures.owner c.owner-owner.ensures.below in
    absurd (next-none w.array.now w.map w.given w.indices c.self.invariant c.in_ok-index.index (sym c.in_ok-index.ensures.next) c.owner-owner.result c.owner-owner.ensures.owner c.owner-owner.ensures.below (sym (c.in_err-value.ensures below)))

pub overflow_add-self : goal.overflow_add-self
overflow_add-self g c =
    let w = c.self.inside in
    let bound = next-bound w.array.now w.map w.given w.indices c.self.invariant c.in_ok-index.index (sym c.in_ok-index.ensures.next) c.owner-owner.result c.owner-owner.ensures.owner c.owner-owner.ensures.below in
    record { fits = omega (arith, bound) }

pub invariant_of-self-2 : goal.invariant_of-self-2
invariant_of-self-2 g c =
    let w = c.self.inside in
    subst (λ ts. IsLeft w.array.now w.map ts (slice_set w.given c.owner-owner.result (get_or w.given c.owner-owner.result 0 + 1))) (sym c.next.ensures.rest)
    (next-left w.array.now w.map w.given w.indices c.self.invariant c.in_ok-index.index (sym c.in_ok-index.ensures.next) c.owner-owner.result c.owner-owner.ensures.owner c.owner-owner.ensures.below)

pub returns-clause-next : goal.returns-clause-next
returns-clause-next g c =
    let w = c.self.inside in
    let below = next-below w.array.now w.map w.given w.indices c.self.invariant c.in_ok-index.index (sym c.in_ok-index.ensures.next) c.owner-owner.result c.owner-owner.ensures.owner c.owner-owner.ensures.below in
    let front = next-element w.array.now w.map w.given w.indices c.self.invariant c.in_ok-index.index (sym c.in_ok-index.ensures.next) c.owner-owner.result c.owner-owner.ensures.owner c.owner-owner.ensures.below c.in_ok-value.value (sym (c.in_ok-value.ensures below)) in
    ap (λ es. slice_get es 0) (sym front ∙ c.self.view_is)

pub returns-clause-rest : goal.returns-clause-rest
returns-clause-rest g c =
    let w = c.self.inside in
    let below = next-below w.array.now w.map w.given w.indices c.self.invariant c.in_ok-index.index (sym c.in_ok-index.ensures.next) c.owner-owner.result c.owner-owner.ensures.owner c.owner-owner.ensures.below in
    let front = next-element w.array.now w.map w.given w.indices c.self.invariant c.in_ok-index.index (sym c.in_ok-index.ensures.next) c.owner-owner.result c.owner-owner.ensures.owner c.owner-owner.ensures.below c.in_ok-value.value (sym (c.in_ok-value.ensures below)) in
    ap (left_of w.array.now) c.next.ensures.rest ∙ ap (drop 1) (sym front ∙ c.self.view_is)
