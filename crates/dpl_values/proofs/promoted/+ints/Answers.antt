-- The first array of a chain is that of its first operand, or the first of the others.
-- These are the answers to the goals of the functions that find the first array in promoted ints.
use Rattle.std.proofs.Common.{sym, ap, ◌∙◌}
use Rattle.dpl_values.specs.Reducing.{or_slot, first_of_ints, first_of_int_links}
use Rattle.dpl_values.proofs.Chained.{first-chain}
use Rattle.dpl_values.proofs.promoted.+ints.Goals as goal

pub int_array-returns-in-None : goal.int_array-returns-in-None
int_array-returns-in-None t c =
    let links = c.in-Chain.links in
    c.linked_array.ensures
    ∙ ap (λ o. or_slot o (first_of_int_links links.now)) (sym (sym c.int_array-in-Chain.ensures ∙ c.in-None.is))
    ∙ sym (ap first_of_ints c.in-Chain.is ∙ first-chain c.in-Chain.first links)
