-- Where none is found, the slot is free.
-- These are the answers to the goals of `is_written`.
use Rattle.std.proofs.Common.{map, sym, ◌∙◌}
use Rattle.dpl_strips.specs.Strips.{written}
use Rattle.dpl_strips.proofs.Targets.{none-free}
use Rattle.dpl_strips.proofs.target.is_written.Goals as goal

pub returns : goal.returns
returns c told = none-free c.args.slot (map written c.args.targets.now) (λ x. written x.now) c.target_at.result c.target_at.ensures (sym c.is_some.ensures ∙ told)
