-- Where the operands that are left may be evaluated, all may.
use Rattle.std.proofs.Common.{drop}
use Rattle.dpl_lowered.specs.LoweredExpressions.{EachTurn}
use Rattle.dpl_nodes.specs.Typed.{truth_links_of, promoted_truth_links_of}
use Rattle.dpl_dependence.specs.Turns.{MayLink, MayLinkEach}
use Rattle.dpl_dependence.proofs.expression.+truths.Given as goal

abbrev pub invariant-may_truth_links-loop-link : goal.invariant-may_truth_links-loop-link
invariant-may_truth_links-loop-link l = MayLink l.rules (truth_links_of (drop l.link-index l.links)) → MayLink l.rules (truth_links_of l.links)

abbrev pub invariant-may_truths_links-loop-link : goal.invariant-may_truths_links-loop-link
invariant-may_truths_links-loop-link l = MayLinkEach l.rules (promoted_truth_links_of EachTurn (drop l.link-index l.links)) → MayLinkEach l.rules (promoted_truth_links_of EachTurn l.links)
