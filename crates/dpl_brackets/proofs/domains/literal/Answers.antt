-- A rule that is met leaves one to three ranges, of which the domain is made.
use Rattle.std.proofs.Common.{◌<◌, length, map, ap, ◌∙◌}
use Rattle.dpl_language.specs.Tree.{DomainLiteral}
use Rattle.dpl_lowered.specs.Shapes.{nowhere}
use Rattle.dpl_nodes.specs.Typed.{ranges_items}
use Rattle.dpl_rules.specs.Verdicts.{all_known}
use Rattle.dpl_rules.specs.Operators.{ranges_breaches}
use Rattle.dpl_typed.specs.Typed.{part_view}
use Rattle.dpl_typed.proofs.Standing.{if_ok, stands-same}
use Rattle.dpl_brackets.proofs.Rules.{met, ranges-met, ranges-few, rank-of}
use Rattle.dpl_brackets.proofs.Parts.{few-parts}
use Rattle.dpl_brackets.proofs.domains.literal.Goals as goal

pub ranges_of-requires-clause-ranges : goal.ranges_of-requires-clause-ranges
ranges_of-requires-clause-ranges c =
    let ps = map part_view c.args.parts.now in
    let is = met (all_known ps) (ranges_breaches c.args.from ps) c.if-not-are_ranges.ensures.0 in
    ranges-met c.args.from ps is.0 is.1

pub returns-clause-node : goal.returns-clause-node
returns-clause-node c =
    let parts = c.args.parts.now in
    let ps = map part_view parts in
    let from = c.args.from in
    let is = met (all_known ps) (ranges_breaches from ps) c.if-not-are_ranges.ensures.0 in
    let few : length parts < 4 = few-parts parts (ranges-few from ps is.1) in
    let rs = ranges_items c.in-Ok-ranges_of.ranges.now in
    if_ok c.domain.result
    (λ r h. λ items seen near.
    stands-same r (λ m. DomainLiteral c.in-Ok.from.now rs nowhere) (λ m. DomainLiteral from items nowhere)
    (λ m. ap (λ p. DomainLiteral p rs nowhere) (c.in-Ok.ensures near) ∙ ap (λ x. DomainLiteral from x nowhere) (c.in-Ok-ranges_of.ensures items few seen))
    (h (rank-of (length parts) c.requires few)))
    c.domain.ensures.node
