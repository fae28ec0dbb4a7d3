-- There are as many indices as members.
-- These are the answers to the goals of `size` of a range.
use Rattle.std.proofs.Common.{sym, ◌∙◌}
use Rattle.dpl_contents.specs.Range.{range_word}
use Rattle.dpl_loop.proofs.Lines.{line-length}
use Rattle.dpl_loop.proofs.rows.RangeWordPlaces.size.Goals as goal

pub returns : goal.returns
returns c = c.size.ensures.length ∙ sym (line-length (range_word c.args.self.now))
