-- What an operator makes of both sides is the whole's value.
-- These are the answers to the goals of the functions of operators in turns.
use Rattle.std.proofs.Common.{ℕ, map, None, subst, sym, ap, ◌∙◌, rules}
use Rattle.dpl_array.specs.Elements.{Row}
use Rattle.dpl_language.specs.Values.{Index}
use Rattle.dpl_language.specs.Tree.{ExprTree}
use Rattle.dpl_language.specs.Expressions.{value_of}
use Rattle.dpl_lowered.specs.Shapes.{nowhere, two}
use Rattle.dpl_memory.specs.Memory.{Variable, Memory, in_memory}
use Rattle.dpl_nodes.specs.Typed.{int_view}
use Rattle.dpl_nodes.proofs.Chains.{int_view-chain}
use Rattle.dpl_strips.specs.Strips.{written, HoldsInTurns, IsInOwnTurn, infix_of, right_size, right_word}
use Rattle.dpl_strips.proofs.Strips.{both-hold, both-at, first-hold}
use Rattle.dpl_strips.proofs.turn_strips.+turns.Goals as goal

pub join-returns-clause-values : goal.join-returns-clause-values
join-returns-clause-values g t c a left =
    let frame = c.args.frame.now in
    let b = int_view c.args.b.now in
    let right = c.in-Some.right in
    let Suits = λ (row : Row) (k : ℕ) (u : Memory). IsInOwnTurn c.args.names.now (map written c.args.targets.now) row k frame.memory u in
    let at = λ (e : ExprTree Variable) (i : Index) (u : Memory). value_of frame.limits in_memory e None u in
    both-hold Suits (at a) (at b) (at (two a nowhere (infix_of c.args.op) b)) c.args.op (λ i u x y left right. both-at frame.limits a b None u x y left right c.args.op)
    c.args.strip.now c.apply.new.strip (right_size right) (right_word right) c.apply.ensures.row c.apply.ensures.left c.apply.ensures.right left
    c.in-Some.ensures c.apply.ensures.words

pub join_strip-returns-clause-values : goal.join_strip-returns-clause-values
join_strip-returns-clause-values g t c a left =
    let frame = c.args.frame.now in
    let b = int_view c.args.b.now in
    let right = c.turn_ints.new.strip in
    let size = c.min-size.result in
    let Suits = λ (row : Row) (k : ℕ) (u : Memory). IsInOwnTurn c.args.names.now (map written c.args.targets.now) row k frame.memory u in
    let at = λ (e : ExprTree Variable) (i : Index) (u : Memory). value_of frame.limits in_memory e None u in
    both-hold Suits (at a) (at b) (at (two a nowhere (infix_of c.args.op) b)) c.args.op (λ i u x y left right. both-at frame.limits a b None u x y left right c.args.op)
    c.args.strip.now c.apply.new.strip _ _ c.apply.ensures.row c.apply.ensures.left c.apply.ensures.right left
    (first-hold Suits (at b) c.args.strip.now.row right size (c.turn_ints.ensures.row ∙ c.none-right.ensures.row)
    (search rules) c.turn_ints.ensures.values)
    c.apply.ensures.words

pub turn_ints-returns-in-Chain-clause-values : goal.turn_ints-returns-in-Chain-clause-values
turn_ints-returns-in-Chain-clause-values g t c =
    let frame = c.args.frame.now in
    subst (λ (e : ExprTree Variable). HoldsInTurns c.args.names.now (map written c.args.targets.now) (λ u. value_of frame.limits in_memory e None u) frame.memory c.chained.new.strip)
    (sym (ap int_view c.in-Chain.is ∙ int_view-chain c.in-Chain.first c.in-Chain.links)) c.chained.ensures.values
