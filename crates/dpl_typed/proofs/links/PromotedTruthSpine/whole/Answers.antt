use Rattle.dpl_nodes.proofs.Chains.{promoted_truth-chain}
use Rattle.dpl_typed.proofs.links.PromotedTruthSpine.whole.Goals as goal

pub returns : goal.returns
returns c m = promoted_truth-chain m c.args.first c.args.links
