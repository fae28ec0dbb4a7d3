use Rattle.std.proofs.Common.{sym, arith}
use Rattle.dpl_tree.specs.View.{expr_view}
use Rattle.dpl_deeds.proofs.Indices.{index_of-longer}
use Rattle.dpl_deeds.proofs.index.chain_index.Goals as goal

pub returns-in-len2-up : goal.returns-in-len2-up
returns-in-len2-up c =
    sym (index_of-longer c.args.scopes.now (expr_view c.args.first.now) c.args.links.now (omega (arith, c.in-len2-up.len_at_least)))
