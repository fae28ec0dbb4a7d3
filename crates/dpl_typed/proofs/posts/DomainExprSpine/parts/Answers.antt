-- A list of one link is that link.
use Rattle.std.proofs.Common.{sym, ap, ◌∙◌}
use Rattle.dpl_lowered.specs.Shapes.{stacked_on}
use Rattle.dpl_nodes.specs.Typed.{domain_view, domain_posts_of}
use Rattle.dpl_nodes.proofs.Chains.{domain_view-posts}
use Rattle.dpl_typed.proofs.posts.DomainExprSpine.parts.Goals as goal

pub returns-in-Some-clause-same : goal.returns-in-Some-clause-same
returns-in-Some-clause-same c m more =
    let i = c.in-Posts in
    sym (ap (λ e. stacked_on e (domain_posts_of more))
    (ap domain_view i.is ∙ domain_view-posts i.left i.posts ∙ ap (λ ls. stacked_on (domain_view i.left.now) (domain_posts_of ls)) c.in-Some.ensures))
