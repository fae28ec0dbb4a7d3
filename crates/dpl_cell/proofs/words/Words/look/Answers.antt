-- `look`: the load keeps the rule, whatever it finds.
-- By `Looking`.
use Rattle.std.proofs.Common.{rules}
use Rattle.dpl_cell.proofs.Looking.{Allows-look}
use Rattle.dpl_cell.proofs.words.Words.look.Goals as goal

pub load-found-requires : goal.load-found-requires
load-found-requires g c = (search rules, search rules, Allows-look _ _ _ _ _ _ _ (search rules) c.requires.acts)
