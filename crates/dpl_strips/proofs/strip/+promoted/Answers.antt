-- What an operator makes of both sides is the whole's value.
-- These are the answers to the goals of the functions of operators on promoted ints.
use Rattle.std.proofs.Common.{Some, subst, sym, ap, ◌∙◌, rules}
use Rattle.dpl_array.specs.Elements.{behind}
use Rattle.dpl_language.specs.Values.{Index}
use Rattle.dpl_language.specs.Tree.{ExprTree}
use Rattle.dpl_language.specs.Expressions.{value_of}
use Rattle.dpl_lowered.specs.LoweredExpressions.{EachTurn}
use Rattle.dpl_lowered.specs.Shapes.{nowhere, two}
use Rattle.dpl_memory.specs.Memory.{Variable, Memory, in_memory}
use Rattle.dpl_nodes.specs.Typed.{promoted_int}
use Rattle.dpl_nodes.proofs.Chains.{promoted_int-chain}
use Rattle.dpl_strips.specs.Strips.{IsSameAt, HoldsAtIndices, infix_of, right_size, right_word}
use Rattle.dpl_strips.proofs.Strips.{both-hold, both-at, first-hold}
use Rattle.dpl_strips.proofs.strip.+promoted.Goals as goal

pub join-returns-clause-values : goal.join-returns-clause-values
join-returns-clause-values g t c a left =
    let frame = c.args.frame.now in
    let b = promoted_int EachTurn c.args.b.now in
    let right = c.in-Some.right in
    let at = λ (e : ExprTree Variable) (i : Index) (u : Memory). value_of frame.limits in_memory e (Some i) u in
    both-hold (λ row k u. IsSameAt (behind k row) frame.memory u) (at a) (at b) (at (two a nowhere (infix_of c.args.op) b)) c.args.op (λ i u x y left right. both-at frame.limits a b (Some i) u x y left right c.args.op)
    c.args.strip.now c.apply.new.strip (right_size right) (right_word right) c.apply.ensures.row c.apply.ensures.left c.apply.ensures.right left
    c.in-Some.ensures c.apply.ensures.words

pub join_strip-returns-clause-values : goal.join_strip-returns-clause-values
join_strip-returns-clause-values g t c a left =
    let frame = c.args.frame.now in
    let b = promoted_int EachTurn c.args.b.now in
    let right = c.promoted_ints.new.strip in
    let size = c.min-size.result in
    let at = λ (e : ExprTree Variable) (i : Index) (u : Memory). value_of frame.limits in_memory e (Some i) u in
    both-hold (λ row k u. IsSameAt (behind k row) frame.memory u) (at a) (at b) (at (two a nowhere (infix_of c.args.op) b)) c.args.op (λ i u x y left right. both-at frame.limits a b (Some i) u x y left right c.args.op)
    c.args.strip.now c.apply.new.strip _ _ c.apply.ensures.row c.apply.ensures.left c.apply.ensures.right left
    (first-hold (λ row k u. IsSameAt (behind k row) frame.memory u) (at b) c.args.strip.now.row right size (c.promoted_ints.ensures.row ∙ c.none-right.ensures.row)
    (search rules) c.promoted_ints.ensures.values)
    c.apply.ensures.words

pub promoted_ints-returns-in-Chain-clause-values : goal.promoted_ints-returns-in-Chain-clause-values
promoted_ints-returns-in-Chain-clause-values g t c =
    let frame = c.args.frame.now in
    subst (λ (e : ExprTree Variable). HoldsAtIndices (λ i u. value_of frame.limits in_memory e (Some i) u) frame.memory c.chained.new.strip)
    (sym (ap (promoted_int EachTurn) c.in-Chain.is ∙ promoted_int-chain EachTurn c.in-Chain.first c.in-Chain.links)) c.chained.ensures.values
