-- A chain goes as its first operand and the others do.
use Rattle.std.proofs.Common.{map, IfSome, subst, sym, ap, ◌∙◌}
use Rattle.dpl_language.specs.Tree.{ExprTree}
use Rattle.dpl_memory.specs.Memory.{Variable}
use Rattle.dpl_nodes.specs.Typed.{int_view}
use Rattle.dpl_nodes.proofs.Chains.{int_view-chain}
use Rattle.dpl_strips.specs.Strips.{FitsTurns, TreeGoesAt, written}
use Rattle.dpl_strips.proofs.pace.+paces.Goals as goal

pub pace_of-returns-in-Chain : goal.pace_of-returns-in-Chain
pace_of-returns-in-Chain g t c =
    let frame = c.args.frame.now in
    let row = c.args.row in
    subst
    (λ (e : ExprTree Variable). IfSome c.chained.result (λ p. FitsTurns row.step p × TreeGoesAt frame.limits c.args.names.now (map written c.args.targets.now) row frame.memory e p))
    (sym (ap int_view c.in-Chain.is ∙ int_view-chain c.in-Chain.first c.in-Chain.links)) c.chained.ensures
