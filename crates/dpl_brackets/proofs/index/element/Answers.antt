-- A rule that is met makes an index, and the element stands at it.
use Rattle.std.proofs.Common.{◌≡◌, map, sym, ap, ◌∙◌}
use Rattle.dpl_language.specs.Tree.{IntKind, BoolKind}
use Rattle.dpl_nodes.specs.Typed.{array_named, in_square, index_items}
use Rattle.dpl_rules.specs.Verdicts.{all_known}
use Rattle.dpl_rules.specs.Operators.{index_breaches}
use Rattle.dpl_typed.specs.Typed.{part_view}
use Rattle.dpl_typed.proofs.Standing.{if_ok, stands-same}
use Rattle.dpl_brackets.proofs.Rules.{met, index-met, index-few}
use Rattle.dpl_brackets.proofs.Parts.{few-parts}
use Rattle.dpl_brackets.proofs.index.element.Goals as goal

pub index_of-requires : goal.index_of-requires
index_of-requires c =
    let ps = map part_view c.args.parts.now in
    let rank = c.args.array.rank in
    let is = met (all_known ps) (index_breaches c.args.last rank ps) c.if-not-is_index.ensures.0 in
    index-met c.args.last rank ps is.0 is.1

pub returns-in-Int-clause-node : goal.returns-in-Int-clause-node
returns-in-Int-clause-node c =
    let ps = map part_view c.args.parts.now in
    let a = c.args.array in
    let is = met (all_known ps) (index_breaches c.args.last a.rank ps) c.if-not-is_index.ensures.0 in
    let i = c.in-Ok.index.now in
    if_ok c.int.result
    (λ r h. λ items rank seen.
    let same : index_items i ≡ items = c.in-Ok.ensures.items items (few-parts c.args.parts.now (index-few c.args.last a.rank ps rank is.1)) seen in
    stands-same r (λ m. in_square (array_named IntKind a.slot a.at.now) (index_items i)) (λ m. in_square (array_named a.kind a.slot a.at.now) items)
    (λ m. ap (λ k. in_square (array_named k a.slot a.at.now) (index_items i)) (sym c.in-Int.is) ∙ ap (in_square (array_named a.kind a.slot a.at.now)) same) h)
    c.int.ensures.node

pub returns-in-Bool-clause-node : goal.returns-in-Bool-clause-node
returns-in-Bool-clause-node c =
    let ps = map part_view c.args.parts.now in
    let a = c.args.array in
    let is = met (all_known ps) (index_breaches c.args.last a.rank ps) c.if-not-is_index.ensures.0 in
    let i = c.in-Ok.index.now in
    if_ok c.truth.result
    (λ r h. λ items rank seen.
    let same : index_items i ≡ items = c.in-Ok.ensures.items items (few-parts c.args.parts.now (index-few c.args.last a.rank ps rank is.1)) seen in
    stands-same r (λ m. in_square (array_named BoolKind a.slot a.at.now) (index_items i)) (λ m. in_square (array_named a.kind a.slot a.at.now) items)
    (λ m. ap (λ k. in_square (array_named k a.slot a.at.now) (index_items i)) (sym c.in-Bool.is) ∙ ap (in_square (array_named a.kind a.slot a.at.now)) same) h)
    c.truth.ensures.node
