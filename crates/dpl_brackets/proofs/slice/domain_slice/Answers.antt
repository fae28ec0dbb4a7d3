-- A rule that is met leaves ranges, which cut the domain.
use Rattle.std.proofs.Common.{map, ap}
use Rattle.dpl_nodes.specs.Typed.{in_square, domain_view, ranges_items}
use Rattle.dpl_rules.specs.Verdicts.{all_known}
use Rattle.dpl_rules.specs.Operators.{slice_breaches}
use Rattle.dpl_typed.specs.Typed.{part_view}
use Rattle.dpl_typed.proofs.Standing.{if_ok, stands-same}
use Rattle.dpl_brackets.proofs.Rules.{met, slice-met, slice-few}
use Rattle.dpl_brackets.proofs.Parts.{few-parts}
use Rattle.dpl_brackets.proofs.slice.domain_slice.Goals as goal

pub ranges_of-requires-clause-ranges : goal.ranges_of-requires-clause-ranges
ranges_of-requires-clause-ranges c =
    let ps = map part_view c.args.parts.now in
    let is = met (all_known ps) (slice_breaches c.args.last c.args.rank ps) c.if-not-are_slices.ensures.0 in
    slice-met c.args.last c.args.rank ps is.0 is.1

pub returns-clause-node : goal.returns-clause-node
returns-clause-node c =
    let ps = map part_view c.args.parts.now in
    let d = domain_view c.args.base.now in
    let is = met (all_known ps) (slice_breaches c.args.last c.args.rank ps) c.if-not-are_slices.ensures.0 in
    if_ok c.posted.result
    (λ r h. λ items rank seen.
    stands-same r (λ m. in_square d (ranges_items c.in-Ok.cuts.now)) (λ m. in_square d items)
    (λ m. ap (in_square d) (c.in-Ok.ensures items (few-parts c.args.parts.now (slice-few c.args.last c.args.rank ps rank is.1)) seen)) (h rank))
    c.posted.ensures.node
