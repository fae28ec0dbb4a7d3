-- An int is the word that is found.
-- These are the answers to the goals of `element`.
use Rattle.std.proofs.Common.{pos, None, map, get_or, subst}
use Rattle.dpl_array.specs.Elements.{Row}
use Rattle.dpl_language.specs.Tree.{IntKind}
use Rattle.dpl_language.specs.Expressions.{value_of}
use Rattle.dpl_memory.specs.Memory.{in_memory}
use Rattle.dpl_nodes.specs.Typed.{array_named, in_square, index_items}
use Rattle.dpl_strips.specs.Strips.{written, IsInOwnTurn}
use Rattle.dpl_strips.proofs.Truths.{word-in-turns}
use Rattle.dpl_strips.proofs.turn_strips.element.Goals as goal

pub returns-in-Some-clause-values : goal.returns-in-Some-clause-values
returns-in-Some-clause-values g c at k below few u turn =
    let f = c.args.frame.now in
    let names = c.args.names.now in
    let xs = map written c.args.targets.now in
    let slot = c.args.slot in
    let meaning = value_of f.limits in_memory (in_square (array_named IntKind slot at) (index_items c.args.index.now)) None in
    word-in-turns names xs meaning IntKind slot c.args.strip.now.row f.memory k (get_or c.take.new.strip.words k (pos 0)) c.in-Some.found few
    (c.in-Some.ensures IntKind at) (c.take.ensures.words k below few) u (subst (λ (row : Row). IsInOwnTurn names xs row k f.memory u) c.take.ensures.row turn)
