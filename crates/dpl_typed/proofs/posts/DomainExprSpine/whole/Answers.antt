use Rattle.dpl_nodes.proofs.Chains.{domain_view-posts}
use Rattle.dpl_typed.proofs.posts.DomainExprSpine.whole.Goals as goal

pub returns : goal.returns
returns c m = domain_view-posts c.args.first c.args.links
