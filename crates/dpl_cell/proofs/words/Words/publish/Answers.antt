-- `publish`: giving the held cell back keeps the rule.
-- By `Publishing`.
use Rattle.std.proofs.Common.{rules}
use Rattle.dpl_cell.proofs.Publishing.{Allows-publish}
use Rattle.dpl_cell.proofs.words.Words.publish.Goals as goal

pub compare_exchange_with-requires : goal.compare_exchange_with-requires
compare_exchange_with-requires c = let h = c.requires.held in
    (search rules, search rules, Allows-publish _ _ h.0 _ h.1 h.2 _ c.requires.state h.5 h.6 _ _ _ _ h.3 h.4)
