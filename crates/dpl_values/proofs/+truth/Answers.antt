-- A scalar has at an index the value that it has without one, and a reduction is the fold of the items at all indices. All else the prover
-- finds by itself.
use Rattle.std.proofs.Common.{ℕ, ◌+◌, rules, ⊎_elim, None, Some, Ok, drop, refl, sym, subst, ap, ◌∙◌}
use Rattle.std.proofs.lemmas.Result.{err_from_is_err_and}
use Rattle.std.specs.Option.{option_map}
use Rattle.dpl_map.specs.Maps.{owner}
use Rattle.dpl_language.specs.Values.{Index, Truth}
use Rattle.dpl_language.specs.Outcome.{with_ok}
use Rattle.dpl_language.specs.Expressions.{value_of, reduction, fold_over}
use Rattle.dpl_lowered.specs.Shapes.{nowhere, grouped}
use Rattle.dpl_lowered.specs.LoweredExpressions.{EachTurn}
use Rattle.dpl_memory.specs.Memory.{array_at, in_memory}
use Rattle.dpl_nodes.specs.declared.tree.BoolExpr.{BoolExpr}
use Rattle.dpl_nodes.specs.declared.tree.TruthLink.{TruthLink}
use Rattle.dpl_nodes.specs.declared.tree.PromotedTruth.{PromotedTruth}
use Rattle.dpl_nodes.specs.declared.tree.PromotedTruthLink.{PromotedTruthLink}
use Rattle.dpl_nodes.specs.Typed.{truth_view, truth_links_of, junction_view, promoted_truth, promoted_truth_links_of, truth_fold_view}
use Rattle.dpl_nodes.proofs.Promotions.{truth_view-at}
use Rattle.dpl_nodes.proofs.Chains.{truth_view-chain, truth_links-from, promoted_truth-chain, promoted_truth_links-from}
use Rattle.dpl_frame.specs.Frames.{owned_by}
use Rattle.dpl_frame.specs.Faults.{Tells}
use Rattle.dpl_loop.specs.Entries.{MayRefuse}
use Rattle.dpl_loop.proofs.Folding.{with_ok-ends, tells-as}
use Rattle.dpl_values.specs.Elements.{within_at}
use Rattle.dpl_values.specs.Reducing.{first_of_truths}
use Rattle.dpl_values.specs.Reductions.{MayRefuseReduction, OfSlot, EachInTruth, EachInTruthChain, EachInTruths, EachInTruthsChain}
use Rattle.dpl_values.specs.Meanings.{truth_in}
use Rattle.dpl_values.proofs.Chained.{chain-ends, link-ends, each-at, each-truth_chain, each-truths_chain}
use Rattle.dpl_values.proofs.First.{truths_whole}
use Rattle.dpl_values.proofs.Folds.{reduction-within}
use Rattle.dpl_values.proofs.Telling.{refused-within}
use Rattle.dpl_values.proofs.+truth.Goals as goal

pub expression::truth_value-returns-in-Contains : goal.expression::truth_value-returns-in-Contains
expression::truth_value-returns-in-Contains g t c =
    let may = λ (each : (ℕ → Type 0) → Type 0). MayRefuseReduction (g.G.Gate.may_refuse c.args.gate.now) c.args.frame.now each in
    subst (λ (e : BoolExpr). Tells (may (EachInTruth e)) Truth c.contained.new.turn c.contained.result (truth_in c.args.frame.now e)) (sym c.in-Contains.is) c.contained.ensures

pub expression::truth_value-returns-in-HasIndex : goal.expression::truth_value-returns-in-HasIndex
expression::truth_value-returns-in-HasIndex g t c =
    let may = λ (each : (ℕ → Type 0) → Type 0). MayRefuseReduction (g.G.Gate.may_refuse c.args.gate.now) c.args.frame.now each in
    subst (λ (e : BoolExpr). Tells (may (EachInTruth e)) Truth c.has_index.new.turn c.has_index.result (truth_in c.args.frame.now e)) (sym c.in-HasIndex.is) c.has_index.ensures

pub promoted::promoted_truth_value-returns-in-Scalar : goal.promoted::promoted_truth_value-returns-in-Scalar
promoted::promoted_truth_value-returns-in-Scalar g t c =
    let wider = refused-within (g.G.Gate.may_refuse c.args.gate.now) c.args.frame.now in
    let limits = c.args.frame.now.limits in
    let w = c.args.frame.now.memory in
    tells-as _ Truth c.truth_value.new.turn _ c.truth_value.result _ _
    (wider (EachInTruth c.in-Scalar.e.now) (EachInTruths c.args.e.now) (λ Holds all. subst (λ e. EachInTruths e Holds) c.in-Scalar.is all))
    (ap (λ e. value_of limits in_memory (promoted_truth EachTurn e) (Some c.args.index.now) w) c.in-Scalar.is ∙ truth_view-at limits w c.in-Scalar.e.now c.args.index.now)
    c.truth_value.ensures

-- ---- reductions
pub expression::truth_value-returns-in-Reduced : goal.expression::truth_value-returns-in-Reduced
expression::truth_value-returns-in-Reduced g t c =
    let wider = refused-within (g.G.Gate.may_refuse c.args.gate.now) c.args.frame.now in
    let limits = c.args.frame.now.limits in
    let w = c.args.frame.now.memory in
    tells-as _ Truth c.reduced_truth.new.turn _ c.reduced_truth.result _ _
    (wider (λ Holds. OfSlot (first_of_truths c.in-Reduced.e.now) Holds × EachInTruths c.in-Reduced.e.now Holds) (EachInTruth c.args.e.now) (λ Holds all. subst (λ e. EachInTruth e Holds) c.in-Reduced.is all))
    (ap (λ e. value_of limits in_memory (truth_view e) None w) c.in-Reduced.is) c.reduced_truth.ensures

pub reduction::reduced_truth_here-returns-in_default : goal.reduction::reduced_truth_here-returns-in_default
reduction::reduced_truth_here-returns-in_default g t c =
    let limits = c.args.frame.now.limits in
    let w = c.args.frame.now.memory in
    let op = truth_fold_view c.args.fold in
    let value = λ (i : Index). value_of limits in_memory (promoted_truth EachTurn c.args.e.now) (Some i) w in
    ap (reduction limits.budget c.args.at.now op value) (truths_whole limits w c.args.e.now ∙ ap (option_map (λ slot. (array_at slot w).ranges)) (sym c.truth_array.ensures ∙ c.in_default.is))
    ∙ ap (λ v. Ok v) (sym c.truth_over_none.ensures) ∙ search rules

pub reduction::reduced_truth_here-returns-in_err-within_turns : goal.reduction::reduced_truth_here-returns-in_err-within_turns
reduction::reduced_truth_here-returns-in_err-within_turns g t c =
    let limits = c.args.frame.now.limits in
    let w = c.args.frame.now.memory in
    let op = truth_fold_view c.args.fold in
    let value = λ (i : Index). value_of limits in_memory (promoted_truth EachTurn c.args.e.now) (Some i) w in
    let p = err_from_is_err_and c.from_residual.result c.from_residual.ensures.1 in
    rw (p.1, p.2)
    (with_ok-ends ⊥ _ (λ v. v) c.within_turns.new.turn c.in_err-within_turns.field-0.0 (within_at limits c.args.at.now c.array_domain-domain.result) (λ v. fold_over op value c.array_domain-domain.result) _ Truth absurd
    (ap (reduction limits.budget c.args.at.now op value) (truths_whole limits w c.args.e.now ∙ ap (option_map (λ slot. (array_at slot w).ranges)) (sym c.truth_array.ensures ∙ c.in-Some.is) ∙ ap (λ rs. Some rs) (sym c.array_domain-domain.ensures))
    ∙ reduction-within limits c.args.at.now op value c.array_domain-domain.result)
    c.in_err-within_turns.ensures)

pub reduction::reduced_truth_here-returns : goal.reduction::reduced_truth_here-returns
reduction::reduced_truth_here-returns g t c =
    let wider = refused-within (g.G.Gate.may_refuse c.args.gate.now) c.args.frame.now in
    let limits = c.args.frame.now.limits in
    let w = c.args.frame.now.memory in
    let op = truth_fold_view c.args.fold in
    let value = λ (i : Index). value_of limits in_memory (promoted_truth EachTurn c.args.e.now) (Some i) w in
    tells-as _ Truth c.folded.new.turn _ c.folded.result _ _
    (⊎_elim
    (λ own. ((owner (owned_by c.args.frame.now c.in-Some.slot) own.1, own.0, own.3), λ all. subst (λ slot. OfSlot slot (λ slot. MayRefuse (g.G.Gate.may_refuse c.args.gate.now) (owned_by c.args.frame.now slot) (array_at slot w).ranges → ⊥)) (sym c.truth_array.ensures ∙ c.in-Some.is) all.0 own))
    (λ said. wider (EachInTruths c.args.e.now) (λ Holds. OfSlot (first_of_truths c.args.e.now) Holds × EachInTruths c.args.e.now Holds) (λ Holds all. all.1) said.3.1))
    (ap (reduction limits.budget c.args.at.now op value) (truths_whole limits w c.args.e.now ∙ ap (option_map (λ slot. (array_at slot w).ranges)) (sym c.truth_array.ensures ∙ c.in-Some.is) ∙ ap (λ rs. Some rs) (sym c.array_domain-domain.ensures))
    ∙ reduction-within limits c.args.at.now op value c.array_domain-domain.result
    ∙ ap (λ r. with_ok r (λ v. fold_over op value c.array_domain-domain.result)) c.in_ok-within_turns.ensures
    ∙ ap (fold_over op value) c.array_domain-domain.ensures)
    (c.folded.ensures value (λ i before after r post. tells-as _ Truth after.now (Unit {0}) r _ _ (λ m. tt) refl post.1))

-- ---- chains
pub expression::truth_chained-returns-in_err-value : goal.expression::truth_chained-returns-in_err-value
expression::truth_chained-returns-in_err-value g t c =
    let first = c.args.first.now in
    let links = c.args.links.now in
    let wider = refused-within (g.G.Gate.may_refuse c.args.gate.now) c.args.frame.now in
    let p = err_from_is_err_and c.from_residual.result c.from_residual.ensures.1 in
    rw (p.1, p.2)
    (chain-ends c.args.frame.now.limits None c.args.frame.now.memory Truth _ _ (wider (EachInTruth first) (EachInTruthChain first links) (λ Holds all. all.0)) c.truth_value.new.turn c.in_err-value.field-0.0
    (truth_view first) (truth_links_of links) c.in_err-value.ensures)

pub expression::truth_chained-returns-in_err-value-2 : goal.expression::truth_chained-returns-in_err-value-2
expression::truth_chained-returns-in_err-value-2 g t c =
    let first = c.args.first.now in
    let links = c.args.links.now in
    let k = c.loop-link.link-index in
    let l = c.link-item.result in
    let may = λ (each : (ℕ → Type 0) → Type 0). MayRefuseReduction (g.G.Gate.may_refuse c.args.gate.now) c.args.frame.now each in
    let wider = refused-within (g.G.Gate.may_refuse c.args.gate.now) c.args.frame.now in
    let p = err_from_is_err_and c.from_residual-in_err-value-2.result c.from_residual-in_err-value-2.ensures.1 in
    rw (p.1, p.2)
    (link-ends c.args.frame.now.limits None c.args.frame.now.memory Truth (may (EachInTruth l.right.now)) (may (EachInTruthChain first links))
    (wider (EachInTruth l.right.now) (EachInTruthChain first links) (λ Holds all. each-at (λ (l : TruthLink). EachInTruth l.right.now) links k l c.loop-link-test.true c.link-item.is Holds all.1))
    c.truth_linked.new.turn c.in_err-value-2.field-0.0 (grouped (truth_view first) (truth_links_of links)) nowhere (junction_view l.op) (truth_view l.right.now)
    (truth_links_of (drop k links)) (truth_links_of (drop (k + 1) links)) _ (truth_links-from links k l c.loop-link-test.true c.link-item.is) c.loop-link.invariant c.in_err-value-2.ensures)

pub expression::truth_value-returns-in-Chain : goal.expression::truth_value-returns-in-Chain
expression::truth_value-returns-in-Chain g t c =
    let first = c.in-Chain.first in
    let links = c.in-Chain.links in
    let limits = c.args.frame.now.limits in
    let w = c.args.frame.now.memory in
    let wider = refused-within (g.G.Gate.may_refuse c.args.gate.now) c.args.frame.now in
    tells-as _ Truth c.truth_chained.new.turn _ c.truth_chained.result _ _
    (wider (EachInTruthChain first.now links.now) (EachInTruth c.args.e.now)
    (λ Holds all. subst (λ (T : Type 0). T) (each-truth_chain first links Holds) (subst (λ (e : BoolExpr). EachInTruth e Holds) c.in-Chain.is all)))
    (ap (λ e. value_of limits in_memory (truth_view e) None w) c.in-Chain.is ∙ ap (λ v. value_of limits in_memory v None w) (truth_view-chain first links))
    c.truth_chained.ensures

pub promoted::truth_chained-returns-in_err-value : goal.promoted::truth_chained-returns-in_err-value
promoted::truth_chained-returns-in_err-value g t c =
    let first = c.args.first.now in
    let links = c.args.links.now in
    let wider = refused-within (g.G.Gate.may_refuse c.args.gate.now) c.args.frame.now in
    let p = err_from_is_err_and c.from_residual.result c.from_residual.ensures.1 in
    rw (p.1, p.2)
    (chain-ends c.args.frame.now.limits (Some c.args.index.now) c.args.frame.now.memory Truth _ _ (wider (EachInTruths first) (EachInTruthsChain first links) (λ Holds all. all.0))
    c.promoted_truth_value.new.turn c.in_err-value.field-0.0 (promoted_truth EachTurn first) (promoted_truth_links_of EachTurn links) c.in_err-value.ensures)

pub promoted::truth_chained-returns-in_err-value-2 : goal.promoted::truth_chained-returns-in_err-value-2
promoted::truth_chained-returns-in_err-value-2 g t c =
    let first = c.args.first.now in
    let links = c.args.links.now in
    let k = c.loop-link.link-index in
    let l = c.link-item.result in
    let may = λ (each : (ℕ → Type 0) → Type 0). MayRefuseReduction (g.G.Gate.may_refuse c.args.gate.now) c.args.frame.now each in
    let wider = refused-within (g.G.Gate.may_refuse c.args.gate.now) c.args.frame.now in
    let p = err_from_is_err_and c.from_residual-in_err-value-2.result c.from_residual-in_err-value-2.ensures.1 in
    rw (p.1, p.2)
    (link-ends c.args.frame.now.limits (Some c.args.index.now) c.args.frame.now.memory Truth (may (EachInTruths l.right.now)) (may (EachInTruthsChain first links))
    (wider (EachInTruths l.right.now) (EachInTruthsChain first links)
    (λ Holds all. each-at (λ (l : PromotedTruthLink). EachInTruths l.right.now) links k l c.loop-link-test.true c.link-item.is Holds all.1))
    c.truth_linked.new.turn c.in_err-value-2.field-0.0 (grouped (promoted_truth EachTurn first) (promoted_truth_links_of EachTurn links)) nowhere (junction_view l.op) (promoted_truth EachTurn l.right.now)
    (promoted_truth_links_of EachTurn (drop k links)) (promoted_truth_links_of EachTurn (drop (k + 1) links)) _ (promoted_truth_links-from EachTurn links k l c.loop-link-test.true c.link-item.is)
    c.loop-link.invariant c.in_err-value-2.ensures)

pub promoted::promoted_truth_value-returns-in-Chain : goal.promoted::promoted_truth_value-returns-in-Chain
promoted::promoted_truth_value-returns-in-Chain g t c =
    let first = c.in-Chain.first in
    let links = c.in-Chain.links in
    let limits = c.args.frame.now.limits in
    let w = c.args.frame.now.memory in
    let wider = refused-within (g.G.Gate.may_refuse c.args.gate.now) c.args.frame.now in
    tells-as _ Truth c.truth_chained.new.turn _ c.truth_chained.result _ _
    (wider (EachInTruthsChain first.now links.now) (EachInTruths c.args.e.now)
    (λ Holds all. subst (λ (T : Type 0). T) (each-truths_chain first links Holds) (subst (λ (e : PromotedTruth). EachInTruths e Holds) c.in-Chain.is all)))
    (ap (λ e. value_of limits in_memory (promoted_truth EachTurn e) (Some c.args.index.now) w) c.in-Chain.is
    ∙ ap (λ v. value_of limits in_memory v (Some c.args.index.now) w) (promoted_truth-chain EachTurn first links))
    c.truth_chained.ensures
