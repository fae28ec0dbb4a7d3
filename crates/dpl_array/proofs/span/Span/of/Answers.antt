-- The members of a range of stride 1 are those from the low bound on.
-- These are the answers to the goals of `Span::of`.
use Rattle.std.proofs.Common.{◌≡◌, arith, pos, FitsSigned, w64, rules, ◌∙◌}
use Rattle.std.proofs.lemmas.Int.{ints, to_z-of_z}
use Rattle.dpl_range.proofs.MemberLemmas.{length-members_limit}
use Rattle.dpl_array.proofs.WindowLemmas.{unit-member}
use Rattle.dpl_array.proofs.span.Span.of.Goals as goal

pub invariant_of-result : goal.invariant_of-result
invariant_of-result c =
    let fits : FitsSigned w64 c.low_bound.result = search rules in
    let most = length-members_limit c.args.range.now c.size.ensures.limits in
    record { within = omega (arith, ints, fits, most, c.size.ensures.length, c.size.ensures.limits.low_is_bound.1, c.low_bound.ensures.bound) }

pub returns : goal.returns
returns c =
    let fits : FitsSigned w64 c.low_bound.result = search rules in
    let unit : c.args.range.now.stride ≡ pos 1 = omega (arith, ints) in
    record {
      each = λ k below. unit-member c.args.range.now c.size.ensures.limits unit _ (to_z-of_z w64 c.low_bound.result fits ∙ c.low_bound.ensures.bound) k (omega (arith, below, c.size.ensures.length));
      all = λ _. c.size.ensures.length;
    }
