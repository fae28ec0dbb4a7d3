-- A rule that is met leaves one int, since no tuple has one number alone.
use Rattle.std.proofs.Common.{◌≡◌, true, [], ◌∷◌, map, ap, subst}
use Rattle.dpl_language.specs.Tree.{Contains}
use Rattle.dpl_lowered.specs.Shapes.{nowhere}
use Rattle.dpl_nodes.specs.Typed.{dotted, range_view, int_view, exprs_one}
use Rattle.dpl_rules.specs.Verdicts.{all_known}
use Rattle.dpl_rules.specs.Operators.{index_breaches}
use Rattle.dpl_types.specs.Owes.{are_none}
use Rattle.dpl_typed.specs.Typed.{part_view}
use Rattle.dpl_typed.specs.Stands.{AreArguments}
use Rattle.dpl_typed.proofs.Standing.{if_ok, stands-same}
use Rattle.std.specs.Prelude.{is_some}
use Rattle.dpl_typed.specs.Typed.{types_of}
use Rattle.dpl_brackets.proofs.Rules.{met, and-both, single-int}
use Rattle.dpl_brackets.proofs.Parts.{list-one, exprs-of-one, argument-tuple}
use Rattle.dpl_brackets.proofs.asked.in_range.Goals as goal

pub returns-clause-node : goal.returns-clause-node
returns-clause-node c =
    let at = c.args.at in
    let a = c.part-item.result in
    let x = int_view c.in-Ok.i.now in
    let v = range_view c.args.base.now in
    let one = list-one c.args.parts.now a c.in-len1.len_at_least c.in-len1.len_below c.part-item.is in
    let ps = map part_view c.args.parts.now in
    let is = met (all_known ps) (index_breaches at 1 ps) c.if-not-is_index.ensures.0 in
    let known : is_some (types_of a.found) ≡ true = (and-both (is_some (types_of a.found)) true (subst (λ ps. all_known (map part_view ps) ≡ true) one is.0)).0 in
    let none : are_none (index_breaches at 1 (part_view a ∷ [])) ≡ true = subst (λ ps. are_none (index_breaches at 1 (map part_view ps)) ≡ true) one is.1 in
    if_ok c.truth.result
    (λ r h. λ es seen.
    let same : exprs_one x ≡ es = exprs-of-one a x es (λ e arg. c.in-Ok.ensures e (single-int at (part_view a) none known (argument-tuple a.found e arg)) arg) (subst (λ ps. AreArguments ps es) one seen) in
    stands-same r (λ m. dotted v (Contains nowhere nowhere (exprs_one x) nowhere)) (λ m. dotted v (Contains nowhere nowhere es nowhere))
    (λ m. ap (λ y. dotted v (Contains nowhere nowhere y nowhere)) same) h)
    c.truth.ensures.node
