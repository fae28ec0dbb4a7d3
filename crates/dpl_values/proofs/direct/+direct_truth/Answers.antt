-- An element's word is the truth value, and a chain's is what its operands make.
-- These are the answers to the goals of the functions of truth values that are found directly.
use Rattle.std.proofs.Common.{None, ap, ◌∙◌, rules}
use Rattle.dpl_language.specs.Tree.{BoolKind, ExprTree}
use Rattle.dpl_language.specs.Expressions.{value_of, items_of}
use Rattle.dpl_memory.specs.Memory.{Variable, array_at, in_memory}
use Rattle.dpl_nodes.specs.declared.tree.BoolExpr.{BoolExpr}
use Rattle.dpl_nodes.specs.Typed.{index_items}
use Rattle.dpl_nodes.proofs.Chains.{truth_view-chain}
use Rattle.dpl_values.specs.Meanings.{truth_in}
use Rattle.dpl_values.proofs.Found.{element-found}
use Rattle.dpl_values.proofs.direct.+direct_truth.Goals as goal

pub walked_truth-returns-in-Element-clause-value : goal.walked_truth-returns-in-Element-clause-value
walked_truth-returns-in-Element-clause-value g t c found =
    let f = c.args.frame.now in
    let at = c.in-Element.field-2.now in
    ap (λ (e : BoolExpr). truth_in f e) c.in-Element.is
    ∙ element-found BoolKind at c.element.result (array_at c.in-Element.slot f.memory) (items_of f.limits in_memory (index_items c.in-Element.t.now) f.memory) (c.element.ensures.word at found)
    ∙ search rules

pub walked_truth-returns-in-Chain-clause-value : goal.walked_truth-returns-in-Chain-clause-value
walked_truth-returns-in-Chain-clause-value g t c found =
    let f = c.args.frame.now in
    ap (λ (e : BoolExpr). truth_in f e) c.in-Chain.is
    ∙ ap (λ (e : ExprTree Variable). value_of f.limits in_memory e None f.memory) (truth_view-chain c.in-Chain.first c.in-Chain.links)
    ∙ c.truth_chained.ensures.value found
