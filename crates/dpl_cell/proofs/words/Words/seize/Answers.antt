-- `seize`: the swap keeps the rule, whether it takes the cell or misses.
-- By `Taking`.
use Rattle.std.proofs.Common.{rules}
use Rattle.dpl_cell.proofs.Taking.{Allows-seize}
use Rattle.dpl_cell.proofs.words.Words.seize.Goals as goal

pub swap-found-requires : goal.swap-found-requires
swap-found-requires c = (search rules, search rules, Allows-seize _ _ _ _ _ _ (search rules) c.requires.idle c.requires.acts)
