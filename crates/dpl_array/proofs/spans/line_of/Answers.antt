-- The integers of a range of stride 1 are the indices of a line.
-- These are the answers to the goals of `line_of`.
use Rattle.std.proofs.Common.{◌≡◌, subst}
use Rattle.dpl_domain.specs.Ranks.{last_of, point, IsPadded}
use Rattle.dpl_array.proofs.WindowLemmas.{stands-on_line}
use Rattle.dpl_array.proofs.spans.line_of.Goals as goal

pub returns : goal.returns
returns c =
    let d = c.in-Some.part.now in
    let o = c.ranges-inner.result.0 in
    let m = c.ranges-inner.result.1 in
    let i = c.ranges-inner.result.2 in
    let is = subst (λ n. d ≡ last_of n o m i) c.in-Some.ensures.1 c.ranges-inner.ensures.ranges in
    let padded = subst (λ n. IsPadded point n o m) c.in-Some.ensures.1 c.ranges-inner.ensures.unused in
    stands-on_line c.args.parts.now d c.in-Some.ensures.0 o m i is padded c.of.result.low c.of.result.size c.of.ensures
