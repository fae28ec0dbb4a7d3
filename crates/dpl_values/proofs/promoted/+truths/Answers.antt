-- The first array of a chain is that of its first operand, or the first of the others.
-- These are the answers to the goals of the functions that find the first array in promoted truth values.
use Rattle.std.proofs.Common.{sym, ap, ◌∙◌}
use Rattle.dpl_values.specs.Reducing.{or_slot, first_of_truths, first_of_truth_links}
use Rattle.dpl_values.proofs.Chained.{first-truths_chain}
use Rattle.dpl_values.proofs.promoted.+truths.Goals as goal

pub truth_array-returns-in-None : goal.truth_array-returns-in-None
truth_array-returns-in-None t c =
    let links = c.in-Chain.links in
    c.linked_truth_array.ensures
    ∙ ap (λ o. or_slot o (first_of_truth_links links.now)) (sym (sym c.truth_array-in-Chain.ensures ∙ c.in-None.is))
    ∙ sym (ap first_of_truths c.in-Chain.is ∙ first-truths_chain c.in-Chain.first links)
