-- `read`: the load of the held cell's value word keeps the rule.
-- By `Writing`.
use Rattle.std.proofs.Common.{rules, ◌+◌, sym}
use Rattle.dpl_cell.proofs.Writing.{Allows-read}
use Rattle.dpl_cell.proofs.words.Words.read.Goals as goal

pub load-requires : goal.load-requires
load-requires c = (search rules, search rules, Allows-read _ _ _ _ _ _ c.requires.held.0 c.requires.held.1 (λ i. c.args.self.now.sized i + sym c.requires.held.2 i))
