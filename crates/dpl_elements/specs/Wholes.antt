-- What the turns of an assignment to a whole array do: each puts a value at its own index, either one for all or one that is evaluated there;
-- or nothing, where the values are there already.
use Rattle.std.specs.Prelude.{ℕ, Some, []}
use Rattle.dpl_language.specs.Tree.{IntKind, BoolKind, Set}
use Rattle.dpl_language.specs.Values.{Int, Truth, Index}
use Rattle.dpl_language.specs.Outcome.{Run, Done, with_value}
use Rattle.dpl_language.specs.Environment.{Limits}
use Rattle.dpl_language.specs.Expressions.{value_of}
use Rattle.dpl_language.specs.Assignments.{change}
use Rattle.dpl_lowered.specs.LoweredExpressions.{EachTurn}
use Rattle.dpl_memory.specs.Memory.{Memory, in_memory}
use Rattle.dpl_apart.specs.Memories.{Changes}
use Rattle.dpl_nodes.specs.Typed.{promoted_int, promoted_truth}
use Rattle.dpl_nodes.specs.Steps.{array_leaf}
use Rattle.dpl_elements.specs.Changes.{signed}
use Rattle.dpl_elements.specs.declared.whole.Fill.{Fill as FillTurns}
use Rattle.dpl_elements.specs.declared.whole.Promote.{Promote as PromoteTurns}
use Rattle.dpl_elements.specs.declared.whole.WholeTurns.{WholeTurns}
use Rattle.dpl_elements.specs.declared.whole.WholeTurns.TheVariants.{Fill, Promote, FillTruth, PromoteTruth, Made}

abbrev pub filled : FillTurns → Limits → Index → Run Memory
filled c limits t s done = change limits in_memory (array_leaf IntKind c.name.now) (signed c.op c.sign.now) t (Int c.value) s done

abbrev pub promoted : PromoteTurns → Limits → Index → Run Memory
promoted c limits t s done =
    with_value (value_of limits in_memory (promoted_int EachTurn c.e.now) (Some t) s) (change limits in_memory (array_leaf IntKind c.name.now) (signed c.op c.sign.now) t) s done

abbrev pub whole_turn : WholeTurns → Limits → Index → Run Memory
whole_turn (Fill c) limits t s done = filled c limits t s done
whole_turn (Promote c) limits t s done = promoted c limits t s done
whole_turn (FillTruth c) limits t s done = change limits in_memory (array_leaf BoolKind c.name.now) (signed Set c.sign.now) t (Truth c.value) s done
whole_turn (PromoteTruth c) limits t s done =
    with_value (value_of limits in_memory (promoted_truth EachTurn c.e.now) (Some t) s) (change limits in_memory (array_leaf BoolKind c.name.now) (signed Set c.sign.now) t) s done
whole_turn (Made rank) limits t s done = Done s done

-- what such turns change over a domain of this rank
abbrev pub no_changes : ℕ → Changes
no_changes rank = record { rank = rank; written = []; reduced = []; numbers = []; ranges = []; tuples = [] }
