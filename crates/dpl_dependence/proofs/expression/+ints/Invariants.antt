-- Where what is left of a list may be evaluated, all of it may.
use Rattle.std.proofs.Common.{drop}
use Rattle.dpl_lowered.specs.LoweredExpressions.{EachTurn}
use Rattle.dpl_nodes.specs.Typed.{int_links_of, promoted_int_links_of, range_cuts_of, domain_posts_of}
use Rattle.dpl_dependence.specs.Turns.{MayLink, MayLinkEach, MayPost}
use Rattle.dpl_dependence.proofs.expression.+ints.Given as goal

abbrev pub invariant-may_links-loop-link : goal.invariant-may_links-loop-link
invariant-may_links-loop-link l = MayLink l.rules (int_links_of (drop l.link-index l.links)) → MayLink l.rules (int_links_of l.links)

abbrev pub invariant-may_ints_links-loop-link : goal.invariant-may_ints_links-loop-link
invariant-may_ints_links-loop-link l = MayLinkEach l.rules (promoted_int_links_of EachTurn (drop l.link-index l.links)) → MayLinkEach l.rules (promoted_int_links_of EachTurn l.links)

abbrev pub invariant-may_cuts-loop-cut : goal.invariant-may_cuts-loop-cut
invariant-may_cuts-loop-cut l = MayPost l.rules (range_cuts_of (drop l.cut-index l.cuts)) → MayPost l.rules (range_cuts_of l.cuts)

abbrev pub invariant-may_posts-loop-post : goal.invariant-may_posts-loop-post
invariant-may_posts-loop-post l = MayPost l.rules (domain_posts_of (drop l.post-index l.posts)) → MayPost l.rules (domain_posts_of l.posts)
