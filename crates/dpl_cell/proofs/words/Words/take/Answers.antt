-- `take`: the compare-exchange keeps the rule, whether it takes the cell or misses.
-- By `Taking`.
use Rattle.std.proofs.Common.{rules}
use Rattle.dpl_cell.proofs.Taking.{Allows-take}
use Rattle.dpl_cell.proofs.words.Words.take.Goals as goal

pub compare_exchange-found-requires : goal.compare_exchange-found-requires
compare_exchange-found-requires g c = (search rules, search rules, Allows-take _ _ _ _ _ _ _ (search rules) c.requires.state (search rules) (search rules))
