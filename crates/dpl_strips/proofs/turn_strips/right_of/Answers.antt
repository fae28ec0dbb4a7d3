-- Words that lie side by side are the elements in the turns.
-- These are the answers to the goals of `right_of`.
use Rattle.std.proofs.Common.{None, map, subst, ap, ◌∙◌}
use Rattle.dpl_language.specs.Tree.{IntKind}
use Rattle.dpl_language.specs.Expressions.{value_of}
use Rattle.dpl_memory.specs.Memory.{in_memory}
use Rattle.dpl_nodes.specs.Typed.{array_named, in_square, index_items, int_view}
use Rattle.dpl_strips.specs.Strips.{written}
use Rattle.dpl_strips.specs.Truths.{FoundInTurns}
use Rattle.dpl_strips.proofs.turn_strips.right_of.Goals as goal

pub returns-in-Some-Words : goal.returns-in-Some-Words
returns-in-Some-Words g c k below few u turn =
    let f = c.args.frame.now in
    let slot = c.in-Element.slot in
    let at = c.in-Element.field-2.now in
    let meaning = value_of f.limits in_memory (in_square (array_named IntKind slot at) (index_items c.in-Element.index.now)) None in
    let lent =
    subst (FoundInTurns c.args.names.now (map written c.args.targets.now) meaning IntKind slot c.args.row f.memory) c.in-Some-Words.field-0-is
    (c.in-Some-Words.ensures IntKind at) in
    ap (λ e. value_of f.limits in_memory (int_view e) None u) c.in-Element.is ∙ lent k below few u turn
