use Rattle.dpl_nodes.proofs.Chains.{promoted_int-chain}
use Rattle.dpl_typed.proofs.links.PromotedIntSpine.whole.Goals as goal

pub returns : goal.returns
returns c m = promoted_int-chain m c.args.first c.args.links
