-- `split`: giving the first number away keeps the rule.
-- By `Splitting`.
use Rattle.std.proofs.Common.{rules}
use Rattle.dpl_cell.proofs.Opening.{Has-numbers_after}
use Rattle.dpl_cell.proofs.Splitting.{Splits-first}
use Rattle.dpl_cell.proofs.words.Words.split.Goals as goal

pub split_seat-requires : goal.split_seat-requires
split_seat-requires c = let n = c.requires.numbers in
    (search rules, search rules, Splits-first _ _ _ _ n.0 _ n.2 (Has-numbers_after n.0 n.1) c.requires.idle)
