-- The size is the length of the members, by their closed form.
use Rattle.std.proofs.Common.{◌≡◌, ◌<ℤ◌, ◌+◌, ◌-◌, ◌/◌, ◌^◌, length, ap, sym, ◌∙◌, arith, min}
use Rattle.std.proofs.lemmas.Int.{ints}
use Rattle.dpl_sets.specs.Ranges.{members_of}
use Rattle.dpl_range.proofs.MemberLemmas.{members-empty, length-members}
use Rattle.dpl_domain.proofs.expansion.Moved.size.Goals as goal

pub returns-then-self : goal.returns-then-self
returns-then-self c =
    let below : c.self.inside.high <ℤ c.self.inside.low = omega (arith, ints) in
    let none : length (members_of c.args.self.now) ≡ 0 = rw (← c.self.view_is) (ap length (members-empty c.self.inside.low c.self.inside.high c.self.inside.stride below)) in
    omega (arith, none)

pub returns : goal.returns
returns c =
    let long : length (members_of c.args.self.now) ≡ c.span.result / c.step.result + 1 =
    length-members c.args.self.now.low c.args.self.now.high c.args.self.now.stride c.span.result c.step.result c.span.ensures.span c.step.ensures.size c.step.ensures.positive in
    c.min.ensures ∙ ap (λ n. min n (2 ^ 64 - 1)) (sym long)
