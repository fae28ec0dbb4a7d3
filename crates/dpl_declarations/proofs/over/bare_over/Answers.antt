-- A bare name stands alone between the brackets.
-- Among several items there is none.
use Rattle.std.proofs.Common.{sym, ◌∙◌}
use Rattle.dpl_declarations.proofs.Overs.{declared_over_alone, declared_over_among}
use Rattle.dpl_declarations.proofs.over.bare_over.Goals as goal

pub returns-in-empty : goal.returns-in-empty
returns-in-empty c = c.bare_item.ensures ∙ sym (declared_over_alone c.args.written.now c.in-empty.len_below)

pub returns-in-len1-up : goal.returns-in-len1-up
returns-in-len1-up c = sym (declared_over_among c.args.written.now c.in-len1-up.len_at_least)
