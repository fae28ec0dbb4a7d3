-- The line stands behind the arrow.
use Rattle.std.proofs.Common.{Some, codes}
use Rattle.std.proofs.lemmas.Str.Pattern.{split_text_parts}
use Rattle.dpl_hints.proofs.Parts.{holds-back}
use Rattle.dpl_hints.proofs.find.told.Goals as goal

pub returns-then-is_round : goal.returns-then-is_round
returns-then-is_round c =
    holds-back c.args.row.now c.in_ok-seen.seen.now (codes " => ") c.in_ok-seen.line.now
    (split_text_parts (codes " => ") c.args.row.now (Some (c.in_ok-seen.seen, c.in_ok-seen.line)) c.in_ok-seen.ensures.cases)
