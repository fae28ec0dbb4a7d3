use Rattle.dpl_nodes.proofs.Chains.{truth_view-chain}
use Rattle.dpl_typed.proofs.links.BoolExprSpine.whole.Goals as goal

pub returns : goal.returns
returns c m = truth_view-chain c.args.first c.args.links
