-- A rule that is met makes an index, of which the domain is asked.
use Rattle.std.proofs.Common.{map, ap}
use Rattle.dpl_language.specs.Tree.{Contains}
use Rattle.dpl_lowered.specs.Shapes.{nowhere}
use Rattle.dpl_nodes.specs.Typed.{dotted, domain_view, index_exprs}
use Rattle.dpl_rules.specs.Verdicts.{all_known}
use Rattle.dpl_rules.specs.Operators.{index_breaches}
use Rattle.dpl_typed.specs.Typed.{part_view}
use Rattle.dpl_typed.proofs.Standing.{if_ok, stands-same}
use Rattle.dpl_brackets.proofs.Rules.{met, index-met, index-few}
use Rattle.dpl_brackets.proofs.Parts.{few-parts}
use Rattle.dpl_brackets.proofs.asked.in_domain.Goals as goal

pub index_of-requires : goal.index_of-requires
index_of-requires c =
    let ps = map part_view c.args.parts.now in
    let is = met (all_known ps) (index_breaches c.args.at c.args.rank ps) c.if-not-is_index.ensures.0 in
    index-met c.args.at c.args.rank ps is.0 is.1

pub returns-clause-node : goal.returns-clause-node
returns-clause-node c =
    let ps = map part_view c.args.parts.now in
    let d = domain_view c.args.base.now in
    let is = met (all_known ps) (index_breaches c.args.at c.args.rank ps) c.if-not-is_index.ensures.0 in
    let i = c.in-Ok.index.now in
    if_ok c.truth.result
    (λ r h. λ es rank seen.
    stands-same r (λ m. dotted d (Contains nowhere nowhere (index_exprs i) nowhere)) (λ m. dotted d (Contains nowhere nowhere es nowhere))
    (λ m. ap (λ x. dotted d (Contains nowhere nowhere x nowhere)) (c.in-Ok.ensures.exprs es (few-parts c.args.parts.now (index-few c.args.at c.args.rank ps rank is.1)) seen)) h)
    c.truth.ensures.node
