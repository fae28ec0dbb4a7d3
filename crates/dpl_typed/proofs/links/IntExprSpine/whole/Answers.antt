use Rattle.dpl_nodes.proofs.Chains.{int_view-chain}
use Rattle.dpl_typed.proofs.links.IntExprSpine.whole.Goals as goal

pub returns : goal.returns
returns c m = int_view-chain c.args.first c.args.links
