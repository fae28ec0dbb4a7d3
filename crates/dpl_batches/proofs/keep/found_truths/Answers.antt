-- What turns find of variables is what their stores have by now.
-- These are the answers to the goals of `found_truths`.
use Rattle.std.proofs.Common.{None, subst}
use Rattle.dpl_language.specs.Expressions.{value_of}
use Rattle.dpl_memory.specs.Memory.{in_memory}
use Rattle.dpl_nodes.specs.Typed.{truth_view}
use Rattle.dpl_strips.specs.Truths.{TruthsHoldInTurns}
use Rattle.dpl_batches.proofs.keep.found_truths.Goals as goal

pub returns-clause-values : goal.returns-clause-values
returns-clause-values g c =
    let f = c.args.frame.now in
    subst (λ ws. TruthsHoldInTurns c.args.lanes.now.names.now ws (λ u. value_of f.limits in_memory (truth_view c.args.e.now) None u) f.memory c.turn_truths.new.strip) c.targets-written.ensures c.turn_truths.ensures.values
