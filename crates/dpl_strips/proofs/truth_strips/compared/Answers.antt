-- How the ints of both sides compare is the whole's value.
-- These are the answers to the goals of `compared`.
use Rattle.std.proofs.Common.{map, None, sym, ◌∙◌, rules}
use Rattle.dpl_language.specs.Tree.{ExprTree}
use Rattle.dpl_language.specs.Expressions.{value_of}
use Rattle.dpl_lowered.specs.Shapes.{nowhere, two}
use Rattle.dpl_memory.specs.Memory.{Variable, Memory, in_memory}
use Rattle.dpl_nodes.specs.Typed.{int_view, comparison_view}
use Rattle.dpl_strips.specs.Strips.{written}
use Rattle.dpl_strips.proofs.Truths.{compared-at, compared-hold}
use Rattle.dpl_strips.proofs.truth_strips.compared.Goals as goal

pub returns-clause-values : goal.returns-clause-values
returns-clause-values g c =
    let frame = c.args.frame.now in
    let a = int_view c.args.a.now in
    let b = int_view c.args.b.now in
    let at = λ (e : ExprTree Variable) (u : Memory). value_of frame.limits in_memory e None u in
    compared-hold c.args.names.now (map written c.args.targets.now) frame.memory c.turn_ints.new.strip c.turn_ints-2.new.strip c.compare.new.strip c.min-size.result c.compare.ensures.row
    (c.turn_ints-2.ensures.row ∙ c.none-right.ensures.row ∙ sym c.turn_ints.ensures.row) c.compare.ensures.left c.compare.ensures.right (search rules)
    (at a) (at b) (at (two a nowhere (comparison_view c.args.c) b)) c.args.c (λ u x y left right. compared-at frame.limits None u c.args.c a b x y left right)
    c.turn_ints.ensures.values c.turn_ints-2.ensures.values c.compare.ensures.words
