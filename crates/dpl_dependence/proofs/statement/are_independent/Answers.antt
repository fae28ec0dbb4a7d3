-- What was tested is all that is asked.
use Rattle.std.proofs.Common.{[]}
use Rattle.dpl_dependence.proofs.statement.are_independent.Goals as goal

pub returns-then-are_of_rank : goal.returns-then-are_of_rank
returns-then-are_of_rank c h = record {
  of_rank = c.are_of_rank.ensures.rank c.if-are_of_rank.true;
  once = c.are_of_rank.ensures.once c.if-are_of_rank.true;
  fits = λ t. (c.all_may_stand.ensures h t).0;
  silent = (c.all_may_stand.ensures h []).1;
}
