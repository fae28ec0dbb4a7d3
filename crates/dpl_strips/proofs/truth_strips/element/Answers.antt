-- A truth value's word says whether the element's word is any but 0.
-- These are the answers to the goals of `element`.
use Rattle.std.proofs.Common.{◌<◌, pos, None, not, map, get_or, subst, ◌∙◌}
use Rattle.std.specs.Ordering.{int_eq}
use Rattle.dpl_array.specs.Elements.{Row}
use Rattle.dpl_language.specs.Tree.{BoolKind}
use Rattle.dpl_language.specs.Expressions.{value_of}
use Rattle.dpl_memory.specs.Memory.{in_memory}
use Rattle.dpl_nodes.specs.Typed.{array_named, in_square, index_items}
use Rattle.dpl_strips.specs.Strips.{written, IsInOwnTurn}
use Rattle.dpl_strips.proofs.Truths.{word-in-turns}
use Rattle.dpl_strips.proofs.truth_strips.element.Goals as goal

pub returns-in-Some-clause-values : goal.returns-in-Some-clause-values
returns-in-Some-clause-values g c at k below few =
    let f = c.args.frame.now in
    let names = c.args.names.now in
    let xs = map written c.args.targets.now in
    let slot = c.args.slot in
    let meaning = value_of f.limits in_memory (in_square (array_named BoolKind slot at) (index_items c.args.index.now)) None in
    let word = get_or c.take.new.strip.words k (pos 0) in
    let there = c.take.ensures.words k (subst (λ size. k < size) c.settle.ensures.size below) few in (
      not (int_eq word (pos 0)),
      c.settle.ensures.words k few,
      λ u turn. word-in-turns names xs meaning BoolKind slot c.args.strip.now.row f.memory k word c.in-Some.found few (c.in-Some.ensures BoolKind at) there u
          (subst (λ (row : Row). IsInOwnTurn names xs row k f.memory u) (c.settle.ensures.row ∙ c.take.ensures.row) turn),
    )
