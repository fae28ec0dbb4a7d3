-- A place is the number of strides up to it.
use Rattle.std.proofs.Common.{◌≡◌, pos, ◌<ℤ◌, ◌≤ℤ◌, arith, ◌⊎◌, inl, inr}
use Rattle.std.proofs.lemmas.Int.{ints}
use Rattle.dpl_range.specs.Invariant.{IsRange}
use Rattle.dpl_range.specs.Walk.{walked}
use Rattle.dpl_range.proofs.MemberLemmas.{place-unit, place-whole, place-broken, place-outside}
use Rattle.dpl_range.proofs.Range.place.Goals as goal
use Rattle.dpl_range.proofs.Range.place.Goals.{then-i-self-via-then-i-self, then-i-self-via-else-i-self+then-self-i}

pub returns-then-i-self : goal.returns-then-i-self
returns-then-i-self c =
    let limits : IsRange c.args.self.now = rw (← c.self.view_is) c.self.invariant in
    let outside : (c.args.i <ℤ c.args.self.now.low) ⊎ (c.args.self.now.high <ℤ c.args.i) =
    rw (← c.self.view_is) (elim c.then-i-self.branch [
      | then-i-self-via-then-i-self w ↦ inl (omega (arith, ints))
      | then-i-self-via-else-i-self+then-self-i w ↦ inr (omega (arith, ints))
    ]) in
    place-outside c.args.self.now c.args.i limits outside

pub returns-then-self-eq1 : goal.returns-then-self-eq1
returns-then-self-eq1 c =
    let limits : IsRange c.args.self.now = rw (← c.self.view_is) c.self.invariant in
    let one : c.self.inside.stride ≡ pos 1 = omega (arith, ints) in
    let unit : c.args.self.now.stride ≡ pos 1 = rw (← c.self.view_is) one in
    let below : c.args.i ≤ℤ c.args.self.now.high = rw (← c.self.view_is) (omega (arith, ints)) in
    place-unit c.args.self.now _ c.args.i limits unit below (rw (← c.self.view_is) (omega (arith, ints)))

pub returns-then-offset-step-eq0 : goal.returns-then-offset-step-eq0
returns-then-offset-step-eq0 c =
    let limits : IsRange c.args.self.now = rw (← c.self.view_is) c.self.invariant in
    let at : c.args.i ≡ walked c.args.self.now.low c.args.self.now.high c.args.self.now.stride c.offset-offset.result = omega (arith, ints) in
    place-whole c.args.self.now c.step-step.result c.offset-offset.result c.args.i limits c.step-step.ensures.size c.offset-offset.ensures.within at c.if-offset-step-eq0.true

pub returns-else-offset-step-eq0 : goal.returns-else-offset-step-eq0
returns-else-offset-step-eq0 c =
    let limits : IsRange c.args.self.now = rw (← c.self.view_is) c.self.invariant in
    let at : c.args.i ≡ walked c.args.self.now.low c.args.self.now.high c.args.self.now.stride c.offset-offset.result = omega (arith, ints) in
    place-broken c.args.self.now c.step-step.result c.offset-offset.result c.args.i limits c.step-step.ensures.size c.offset-offset.ensures.within at c.if-offset-step-eq0.false
