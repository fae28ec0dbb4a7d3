-- Where the operands that are left may be evaluated, all may.
use Rattle.std.proofs.Common.{drop}
use Rattle.dpl_lowered.specs.LoweredExpressions.{EachTurn}
use Rattle.dpl_nodes.specs.Typed.{promoted_int_links_of}
use Rattle.dpl_dependence.specs.Turns.{MayLinkOwn}
use Rattle.dpl_dependence.proofs.whole.+own_ints.Given as goal

abbrev pub invariant-may_own_ints_links-loop-link : goal.invariant-may_own_ints_links-loop-link
invariant-may_own_ints_links-loop-link l = MayLinkOwn l.rules (promoted_int_links_of EachTurn (drop l.link-index l.links)) → MayLinkOwn l.rules (promoted_int_links_of EachTurn l.links)
