-- An element is found where its array hasn't changed, or where it is the one that the turn writes itself.
-- These are the answers to the goals of `elements`.
use Rattle.std.proofs.Common.{pos, None, map, get_or, option_map, sym, ap, ◌∙◌, rules}
use Rattle.dpl_array.specs.Elements.{behind}
use Rattle.dpl_language.specs.Expressions.{value_of}
use Rattle.dpl_memory.specs.Memory.{held_at, in_memory}
use Rattle.dpl_nodes.specs.Typed.{array_named, in_square, index_items}
use Rattle.dpl_strips.specs.Strips.{written}
use Rattle.dpl_strips.proofs.Strips.{element-value}
use Rattle.dpl_strips.proofs.Targets.{none-free, written_at-own, own-words, own-kept}
use Rattle.dpl_strips.proofs.Truths.{found-in-turns}
use Rattle.dpl_strips.proofs.turn_strips.elements.Goals as goal

pub returns-in_default : goal.returns-in_default
returns-in_default g c kind name =
    let f = c.args.frame.now in
    let slot = c.args.slot in
    let index = c.args.index.now in
    let at = c.in_ok-at.at in
    let names = c.args.names.now in
    let xs = map written c.args.targets.now in
    let free = none-free slot xs (λ x. written x.now) c.target_at.result c.target_at.ensures (search rules) in
    found-in-turns names xs (value_of f.limits in_memory (in_square (array_named kind slot name) (index_items index)) None) kind slot c.args.row f.memory at
    c.found_along.result c.found_along.ensures
    (λ k word few there u turn.
    element-value f.limits kind slot index name u (behind k at) word (c.in_ok-at.ensures k few u turn.turn) (ap (held_at (behind k at)) (turn.turn.arrays slot free) ∙ there))

pub returns-in-Some-words : goal.returns-in-Some-words
returns-in-Some-words g c kind name k below within u turn =
    let f = c.args.frame.now in
    let slot = c.args.slot in
    let at = c.in_ok-at.at in
    let x = written c.in-Some.target.now in
    let own = written_at-own slot k f.memory u (map written c.args.targets.now) x turn.own (sym c.in-Some.ensures) in
    element-value f.limits kind slot c.args.index.now name u (behind k at) (get_or c.in-Some-words.words.now k (pos 0)) (c.in_ok-at.ensures k within u turn.turn)
    (own-words slot k f.memory u x at c.in-Some-words.words.now own (c.is_same.ensures (search rules)) (ap (option_map (λ ws. ws.now)) c.in-Some-words.is))

pub returns-in-None : goal.returns-in-None
returns-in-None g c kind name =
    let f = c.args.frame.now in
    let slot = c.args.slot in
    let index = c.args.index.now in
    let at = c.in_ok-at.at in
    let names = c.args.names.now in
    let xs = map written c.args.targets.now in
    let x = written c.in-Some.target.now in
    found-in-turns names xs (value_of f.limits in_memory (in_square (array_named kind slot name) (index_items index)) None) kind slot c.args.row f.memory at
    c.found_along-in-None.result c.found_along-in-None.ensures
    (λ k word few there u turn.
    let own = written_at-own slot k f.memory u xs x turn.own (sym c.in-Some.ensures) in
    element-value f.limits kind slot index name u (behind k at) word (c.in_ok-at.ensures k few u turn.turn)
    (own-kept slot k f.memory u x at own (c.is_same.ensures (search rules)) (ap (option_map (λ ws. ws.now)) c.in-None.is) ∙ there))
