use Rattle.dpl_outcome.proofs.LineEnds.{line_ended-at}
use Rattle.dpl_outcome.proofs.lines.is_mid_line.Goals as goal

pub returns-in-len1-up : goal.returns-in-len1-up
returns-in-len1-up c = line_ended-at c.args.text.now c.in-len1-up.len_at_least
