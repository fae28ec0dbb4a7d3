-- What is found stands along the strip's row.
-- These are the answers to the goals of `element`.
use Rattle.std.proofs.Common.{pos, get_or}
use Rattle.dpl_strips.proofs.Truths.{word-along}
use Rattle.dpl_strips.proofs.strip.element.Goals as goal

pub returns-clause-words : goal.returns-clause-words
returns-clause-words g c k below few =
    word-along c.args.slot c.args.strip.now.row c.args.frame.now.memory k (get_or c.take.new.strip.words k (pos 0)) c.found_along-found.result
    c.found_along-found.ensures (c.take.ensures.words k below few)
