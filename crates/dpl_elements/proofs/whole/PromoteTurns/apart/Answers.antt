-- The turns change one array, each at its own index.
use Rattle.std.proofs.Common.{Some, sym, subst}
use Rattle.std.proofs.lemmas.Option.{IfSome_then}
use Rattle.dpl_language.specs.Tree.{IntKind}
use Rattle.dpl_language.specs.Outcome.{with_value}
use Rattle.dpl_language.specs.Expressions.{value_of}
use Rattle.dpl_language.specs.Assignments.{change}
use Rattle.dpl_lowered.specs.LoweredExpressions.{EachTurn}
use Rattle.dpl_memory.specs.Memory.{in_memory}
use Rattle.dpl_nodes.specs.Typed.{promoted_int}
use Rattle.dpl_nodes.specs.Steps.{array_leaf}
use Rattle.dpl_apart.specs.Memories.{MayBeApart}
use Rattle.dpl_turns.proofs.Wholes.{promoted-apart}
use Rattle.dpl_elements.specs.Changes.{signed}
use Rattle.dpl_elements.proofs.whole.PromoteTurns.apart.Goals as goal

pub returns : goal.returns
returns c =
    let w = c.args.self.now in
    let x = array_leaf IntKind w.name.now in
    let sign = signed w.op w.sign.now in
    IfSome_then c.whole_apart.result c.whole_apart.ensures
    (λ h is limits. subst (λ h. MayBeApart h (λ t s done. with_value (value_of limits in_memory (promoted_int EachTurn w.e.now) (Some t) s) (change limits in_memory x sign t) s done)) (sym is)
    (promoted-apart limits w.rank w.name.now.slot IntKind w.name.now.at.now sign (promoted_int EachTurn w.e.now) (c.int_reads_own.ensures c.if-not-int_reads_own.false)))
