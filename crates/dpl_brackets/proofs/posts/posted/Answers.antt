-- The list of posts has the one.
use Rattle.std.proofs.Common.{ap, ◌∙◌}
use Rattle.dpl_language.specs.Tree.{Postfixed, Post, NoPosts}
use Rattle.dpl_lowered.specs.Shapes.{stacked_on}
use Rattle.dpl_nodes.specs.declared.tree.DomainExpr.{Posts}
use Rattle.dpl_nodes.specs.Typed.{domain_view, domain_post, domain_posts_of}
use Rattle.dpl_nodes.proofs.Chains.{domain_view-posts}
use Rattle.dpl_typed.proofs.Standing.{if_ok, stands-same}
use Rattle.dpl_brackets.proofs.posts.posted.Goals as goal

pub returns-in-Ok-clause-node : goal.returns-in-Ok-clause-node
returns-in-Ok-clause-node c =
    let base = c.args.base in
    let posts = c.in-Ok.posts in
    if_ok c.domain.result
    (λ r h rank. stands-same r (λ m. domain_view (Posts base posts)) (λ m. Postfixed (domain_view base.now) (Post (domain_post c.args.post) NoPosts))
    (λ m. domain_view-posts base posts ∙ ap (λ ps. stacked_on (domain_view base.now) (domain_posts_of ps)) c.in-Ok.ensures) (h rank))
    c.domain.ensures.node
