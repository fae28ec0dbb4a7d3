-- Of an operator on ints each word is one of its kind.
use Rattle.dpl_workers.proofs.FormedMemories.{ints-exact}
use Rattle.dpl_workers.proofs.formed.is_exact.Goals as goal

pub returns-in_default : goal.returns-in_default
returns-in_default c e = ints-exact c.args.op c.args.word c.in_default.not-AllOf c.in_default.not-AnyOf c.ranges.word
