-- The integers of two ranges of stride 1 are the indices of a plane.
-- These are the answers to the goals of `grid_of`.
use Rattle.std.proofs.Common.{◌≡◌, arith, subst}
use Rattle.dpl_domain.specs.Ranks.{last_of, point, IsPadded}
use Rattle.dpl_array.specs.Rows.{row_of}
use Rattle.dpl_array.proofs.WindowLemmas.{plane-long, stands-on_plane}
use Rattle.dpl_array.proofs.spans.grid_of.Goals as goal

pub invariant_of-result : goal.invariant_of-result
invariant_of-result c =
    let d = c.in-Some.part.now in
    let o = c.ranges-middle.result.0 in
    let m = c.ranges-middle.result.1 in
    let i = c.ranges-middle.result.2 in
    let rows = c.of.result in
    let columns = c.of-2.result in
    let is = subst (λ n. d ≡ last_of n o m i) c.in-Some.ensures.1 c.ranges-middle.ensures.ranges in
    let padded = subst (λ n. IsPadded point n o m) c.in-Some.ensures.1 c.ranges-middle.ensures.unused in
    let on = stands-on_plane c.args.parts.now d c.in-Some.ensures.0 o m i is padded rows.low rows.size columns.low columns.size c.of.ensures c.of-2.ensures in
    let most = plane-long (row_of c.args.parts.now) rows.low rows.size columns.low columns.size on in
    record { small = omega (arith, most, c.requires.small) }

pub returns : goal.returns
returns c =
    let d = c.in-Some.part.now in
    let o = c.ranges-middle.result.0 in
    let m = c.ranges-middle.result.1 in
    let i = c.ranges-middle.result.2 in
    let rows = c.of.result in
    let columns = c.of-2.result in
    let is = subst (λ n. d ≡ last_of n o m i) c.in-Some.ensures.1 c.ranges-middle.ensures.ranges in
    let padded = subst (λ n. IsPadded point n o m) c.in-Some.ensures.1 c.ranges-middle.ensures.unused in
    stands-on_plane c.args.parts.now d c.in-Some.ensures.0 o m i is padded rows.low rows.size columns.low columns.size c.of.ensures c.of-2.ensures
