-- `write`: the store into the held cell's value word keeps the rule.
-- By `Writing`.
use Rattle.std.proofs.Common.{rules, ◌+◌, sym}
use Rattle.dpl_cell.proofs.Writing.{Allows-write}
use Rattle.dpl_cell.proofs.words.Words.write.Goals as goal

pub store-requires : goal.store-requires
store-requires c = (search rules, search rules, Allows-write _ _ _ _ _ _ _ c.requires.held.0 c.requires.held.1 (λ i. c.args.self.now.sized i + sym c.requires.held.2 i))
