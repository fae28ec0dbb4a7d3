-- The turns change one array, each at its own index.
use Rattle.std.proofs.Common.{sym, subst}
use Rattle.std.proofs.lemmas.Option.{IfSome_then}
use Rattle.dpl_language.specs.Tree.{BoolKind, Set}
use Rattle.dpl_language.specs.Values.{Truth}
use Rattle.dpl_language.specs.Assignments.{change}
use Rattle.dpl_memory.specs.Memory.{in_memory}
use Rattle.dpl_nodes.specs.Steps.{array_leaf}
use Rattle.dpl_apart.specs.Memories.{MayBeApart}
use Rattle.dpl_turns.proofs.Wholes.{fill-apart}
use Rattle.dpl_elements.specs.Changes.{signed}
use Rattle.dpl_elements.proofs.whole.FillTruthTurns.apart.Goals as goal

pub returns : goal.returns
returns c =
    let w = c.args.self.now in
    let x = array_leaf BoolKind w.name.now in
    let sign = signed Set w.sign.now in
    IfSome_then c.whole_apart.result c.whole_apart.ensures
    (λ h is limits. subst (λ h. MayBeApart h (λ t. change limits in_memory x sign t (Truth w.value))) (sym is)
    (fill-apart limits w.rank w.name.now.slot BoolKind w.name.now.at.now sign (Truth w.value)))
