-- The number of the members is the language's count of them.
use Rattle.std.proofs.Common.{sym, ◌∙◌}
use Rattle.dpl_contents.specs.Range.{range_word}
use Rattle.dpl_contents.proofs.Sizes.{count_in-is}
use Rattle.dpl_contents.proofs.range.RangeWord.count.Goals as goal

pub returns : goal.returns
returns c = c.size.ensures.length ∙ sym (count_in-is (range_word c.args.self.now) c.size.ensures.limits)
