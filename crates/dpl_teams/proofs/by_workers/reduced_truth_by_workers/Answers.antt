-- A reduction by workers is the fold of the items at all indices.
use Rattle.std.proofs.Common.{⊎_elim, arith, rules, Some, Ok, refl, sym, subst, ap, ◌∙◌}
use Rattle.std.proofs.lemmas.Result.{err_from_is_err_and}
use Rattle.std.specs.Option.{option_map}
use Rattle.dpl_map.specs.Maps.{owner}
use Rattle.dpl_language.specs.Values.{Index, Truth}
use Rattle.dpl_language.specs.Outcome.{with_ok}
use Rattle.dpl_language.specs.Expressions.{value_of, reduction, fold_over}
use Rattle.dpl_words.specs.Words.{is_true}
use Rattle.dpl_lowered.specs.LoweredExpressions.{EachTurn}
use Rattle.dpl_memory.specs.Memory.{array_at, in_memory}
use Rattle.dpl_nodes.specs.Typed.{promoted_truth, truth_fold_view}
use Rattle.dpl_frame.specs.Frames.{owned_by}
use Rattle.dpl_loop.specs.Entries.{MayRefuse}
use Rattle.dpl_loop.proofs.Folding.{with_ok-ends, tells-as}
use Rattle.dpl_values.specs.Elements.{within_at}
use Rattle.dpl_values.specs.Reducing.{first_of_truths}
use Rattle.dpl_values.specs.Reductions.{OfSlot, EachInTruths}
use Rattle.dpl_values.proofs.First.{truths_whole}
use Rattle.dpl_values.proofs.Folds.{reduction-within, with_ok-same}
use Rattle.dpl_values.proofs.Telling.{refused-within}
use Rattle.dpl_teams.proofs.by_workers.reduced_truth_by_workers.Goals as goal

pub returns-in_default : goal.returns-in_default
returns-in_default g c =
    let limits = c.args.frame.now.limits in
    let w = c.args.frame.now.memory in
    let op = truth_fold_view c.args.fold in
    let value = λ (i : Index). value_of limits in_memory (promoted_truth EachTurn c.args.e.now) (Some i) w in
    ap (reduction limits.budget c.args.at.now op value) (truths_whole limits w c.args.e.now ∙ ap (option_map (λ slot. (array_at slot w).ranges)) (sym c.truth_array.ensures ∙ c.in_default.is))
    ∙ ap (λ v. Ok v) (sym c.truth_over_none.ensures) ∙ search rules

pub returns-in_err-within_turns : goal.returns-in_err-within_turns
returns-in_err-within_turns g c =
    let limits = c.args.frame.now.limits in
    let w = c.args.frame.now.memory in
    let op = truth_fold_view c.args.fold in
    let value = λ (i : Index). value_of limits in_memory (promoted_truth EachTurn c.args.e.now) (Some i) w in
    let p = err_from_is_err_and c.from_residual.result c.from_residual.ensures.1 in
    rw (p.1, p.2)
    (with_ok-ends ⊥ _ (λ v. v) c.within_turns.new.turn c.in_err-within_turns.field-0.0 (within_at limits c.args.at.now c.array_domain-over.result) (λ v. fold_over op value c.array_domain-over.result) _ Truth absurd
    (ap (reduction limits.budget c.args.at.now op value) (truths_whole limits w c.args.e.now ∙ ap (option_map (λ slot. (array_at slot w).ranges)) (sym c.truth_array.ensures ∙ c.in-Some.is) ∙ ap (λ rs. Some rs) (sym c.array_domain-over.ensures))
    ∙ reduction-within limits c.args.at.now op value c.array_domain-over.result)
    c.in_err-within_turns.ensures)

pub returns-in-Ok : goal.returns-in-Ok
returns-in-Ok g c =
    let limits = c.args.frame.now.limits in
    let w = c.args.frame.now.memory in
    let op = truth_fold_view c.args.fold in
    let value = λ (i : Index). value_of limits in_memory (promoted_truth EachTurn c.args.e.now) (Some i) w in
    let tells = c.in-Ok.ensures value (λ i before after r post. tells-as _ is_true after.now (Unit {0}) r _ _ (λ m. tt) refl post.1) (λ i strip post. (post.1.0, λ k below few. absurd (omega (arith, below, post.1.1)))) in
    ap (reduction limits.budget c.args.at.now op value) (truths_whole limits w c.args.e.now ∙ ap (option_map (λ slot. (array_at slot w).ranges)) (sym c.truth_array.ensures ∙ c.in-Some.is) ∙ ap (λ rs. Some rs) (sym c.array_domain-over.ensures))
    ∙ reduction-within limits c.args.at.now op value c.array_domain-over.result
    ∙ ap (λ r. with_ok r (λ v. fold_over op value c.array_domain-over.result)) c.in_ok-within_turns.ensures
    ∙ tells ∙ ap (λ b. Ok (Truth b)) (search rules)

pub returns-in-Err : goal.returns-in-Err
returns-in-Err g c =
    let may = g.G.Gate.may_refuse c.args.gate.now in
    let wider = refused-within may c.args.frame.now in
    let limits = c.args.frame.now.limits in
    let w = c.args.frame.now.memory in
    let op = truth_fold_view c.args.fold in
    let value = λ (i : Index). value_of limits in_memory (promoted_truth EachTurn c.args.e.now) (Some i) w in
    let slot = c.in-Some.slot in
    with_ok-ends _ _ is_true c.reduce_by_workers.new.turn c.in-Err.alarm (fold_over op value c.array_domain-over.result) (λ v. Ok v) _ Truth
    (⊎_elim
    (λ own.
    let mine : MayRefuse may (owned_by c.args.frame.now slot) (array_at slot w).ranges =
    subst (λ m. MayRefuse may m (array_at slot w).ranges) c.owner-map.ensures (subst (λ d. MayRefuse may c.owner-map.result d) c.array_domain-over.ensures own) in
    ((owner (owned_by c.args.frame.now slot) mine.1, mine.0, mine.3), λ all. subst (λ slot. OfSlot slot (λ slot. MayRefuse may (owned_by c.args.frame.now slot) (array_at slot w).ranges → ⊥)) (sym c.truth_array.ensures ∙ c.in-Some.is) all.0 mine))
    (λ said. wider (EachInTruths c.args.e.now) (λ Holds. OfSlot (first_of_truths c.args.e.now) Holds × EachInTruths c.args.e.now Holds) (λ Holds all. all.1) said.3.1))
    (ap (reduction limits.budget c.args.at.now op value) (truths_whole limits w c.args.e.now ∙ ap (option_map (λ slot. (array_at slot w).ranges)) (sym c.truth_array.ensures ∙ c.in-Some.is) ∙ ap (λ rs. Some rs) (sym c.array_domain-over.ensures))
    ∙ reduction-within limits c.args.at.now op value c.array_domain-over.result
    ∙ ap (λ r. with_ok r (λ v. fold_over op value c.array_domain-over.result)) c.in_ok-within_turns.ensures ∙ sym (with_ok-same (fold_over op value c.array_domain-over.result)))
    (c.in-Err.ensures value (λ i before after r post. tells-as _ is_true after.now (Unit {0}) r _ _ (λ m. tt) refl post.1) (λ i strip post. (post.1.0, λ k below few. absurd (omega (arith, below, post.1.1)))))
