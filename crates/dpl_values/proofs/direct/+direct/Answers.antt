-- An element's word is the int, and a chain's is what its operands make.
-- These are the answers to the goals of the functions of ints that are found directly.
use Rattle.std.proofs.Common.{None, Ok, rules, sym, ap, ◌∙◌, w64, FitsSigned}
use Rattle.std.proofs.lemmas.Int.{to_z-of_z}
use Rattle.dpl_language.specs.Tree.{IntKind, ExprTree}
use Rattle.dpl_language.specs.Values.{Int}
use Rattle.dpl_language.specs.Expressions.{value_of, items_of}
use Rattle.dpl_memory.specs.Memory.{Variable, array_at, in_memory}
use Rattle.dpl_nodes.specs.declared.tree.IntExpr.{IntExpr}
use Rattle.dpl_nodes.specs.Typed.{index_items}
use Rattle.dpl_nodes.proofs.Chains.{int_view-chain}
use Rattle.dpl_values.specs.Meanings.{int_in}
use Rattle.dpl_values.proofs.Found.{element-found}
use Rattle.dpl_values.proofs.direct.+direct.Goals as goal

pub walked_number-returns-in-Element-clause-value : goal.walked_number-returns-in-Element-clause-value
walked_number-returns-in-Element-clause-value g t c found =
    let f = c.args.frame.now in
    let at = c.in-Element.field-2.now in
    let fits : FitsSigned w64 c.element.result = search rules in
    ap (λ (e : IntExpr). int_in f e) c.in-Element.is
    ∙ element-found IntKind at c.element.result (array_at c.in-Element.slot f.memory) (items_of f.limits in_memory (index_items c.in-Element.t.now) f.memory) (c.element.ensures.word at found)
    ∙ ap (λ n. Ok (Int n)) (sym (to_z-of_z w64 c.element.result fits))

pub walked_number-returns-in-Chain-clause-value : goal.walked_number-returns-in-Chain-clause-value
walked_number-returns-in-Chain-clause-value g t c found =
    let f = c.args.frame.now in
    let fits : FitsSigned w64 c.chained.result = search rules in
    ap (λ (e : IntExpr). int_in f e) c.in-Chain.is
    ∙ ap (λ (e : ExprTree Variable). value_of f.limits in_memory e None f.memory) (int_view-chain c.in-Chain.first c.in-Chain.links)
    ∙ c.chained.ensures.value found
    ∙ ap (λ n. Ok (Int n)) (sym (to_z-of_z w64 c.chained.result fits))
