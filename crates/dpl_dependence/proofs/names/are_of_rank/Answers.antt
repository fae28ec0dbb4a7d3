-- The first variable is none of the others, and these are once.
use Rattle.std.proofs.Common.{sym, subst, ◌∙◌}
use Rattle.dpl_apart.specs.Rows.{AreOnce}
use Rattle.dpl_turns.specs.Bodies.{own_slots}
use Rattle.dpl_turns.specs.Typed.{own_of}
use Rattle.dpl_dependence.proofs.names.are_of_rank.Goals as goal

pub returns-then-not-is_among-clause-once : goal.returns-then-not-is_among-clause-once
returns-then-not-is_among-clause-once c h = subst (λ n. AreOnce (own_slots (own_of n))) (sym c.in-Each.is) (sym c.is_among.ensures ∙ c.if-not-is_among.true, c.are_once.ensures h)
