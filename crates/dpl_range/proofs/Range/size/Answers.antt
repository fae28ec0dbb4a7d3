-- The size is the length of the members, by their closed form.
use Rattle.std.proofs.Common.{◌≡◌, pos, ◌<ℤ◌, ◌+◌, ◌/◌, length, ap, sym, arith, unsigned_abs}
use Rattle.std.proofs.lemmas.Int.{ints}
use Rattle.dpl_range.proofs.MemberLemmas.{members-empty, length-members}
use Rattle.dpl_range.proofs.Range.size.Goals as goal

pub returns-then-self-clause-length : goal.returns-then-self-clause-length
returns-then-self-clause-length c =
    let below : c.self.inside.high <ℤ c.self.inside.low = omega (arith, ints) in
    rw (← c.self.view_is) (sym (ap length (members-empty c.self.inside.low c.self.inside.high c.self.inside.stride below)))

pub returns-then-self-eq1-clause-length : goal.returns-then-self-eq1-clause-length
returns-then-self-eq1-clause-length c =
    let one : c.self.inside.stride ≡ pos 1 = omega (arith, ints) in
    let size : unsigned_abs c.args.self.now.stride ≡ 1 = rw (← c.self.view_is) (ap unsigned_abs one) in
    let long : length _ ≡ c.span.result / 1 + 1 =
    length-members c.args.self.now.low c.args.self.now.high c.args.self.now.stride c.span.result 1 c.span.ensures.span size (omega arith) in
    omega arith

pub returns-else-self-eq1-clause-length : goal.returns-else-self-eq1-clause-length
returns-else-self-eq1-clause-length c =
    sym (length-members c.args.self.now.low c.args.self.now.high c.args.self.now.stride c.span-else-self-eq1.result c.step.result c.span-else-self-eq1.ensures.span c.step.ensures.size c.step.ensures.positive)
