use Rattle.std.proofs.Common.{refl}
use Rattle.dpl_tree.specs.declared.expression.Chain.{out-Chain}
use Rattle.dpl_expressions.proofs.Lists.{no_links, first_link, after_first_chain}
use Rattle.dpl_expressions.proofs.item.is_sum.Goals as goal

pub returns-in-empty : goal.returns-in-empty
returns-in-empty c =
    let links = (out-Chain c.in-Chain.chain.now).links.now in
    after_first_chain _ c.in-Chain.chain c.in-Chain.chain.now links c.in-Chain.is refl refl _ (no_links links c.in-empty.len_below)

pub returns-in-len1-up : goal.returns-in-len1-up
returns-in-len1-up c =
    let links = (out-Chain c.in-Chain.chain.now).links.now in
    after_first_chain _ c.in-Chain.chain c.in-Chain.chain.now links c.in-Chain.is refl refl _
    (first_link links c.link-item.result c.is_in_sum.result c.in-len1-up.len_at_least c.link-item.is c.is_in_sum.ensures)
