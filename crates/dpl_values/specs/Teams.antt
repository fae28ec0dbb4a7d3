-- What a team tells of a reduction.
use Rattle.std.specs.Prelude.{ℕ, ℤ, Bool, Result}
use Rattle.dpl_syntax.specs.declared.place.Place.{Place}
use Rattle.dpl_language.specs.Values.{Int, Truth}
use Rattle.dpl_language.specs.Expressions.{whole_in, reduction}
use Rattle.dpl_lowered.specs.LoweredExpressions.{EachTurn}
use Rattle.dpl_memory.specs.Memory.{in_memory}
use Rattle.dpl_nodes.specs.declared.fold.IntFold.{IntFold}
use Rattle.dpl_nodes.specs.declared.fold.TruthFold.{TruthFold}
use Rattle.dpl_nodes.specs.declared.tree.PromotedInt.{PromotedInt}
use Rattle.dpl_nodes.specs.declared.tree.PromotedTruth.{PromotedTruth}
use Rattle.dpl_nodes.specs.Typed.{promoted_int, promoted_truth, int_fold_view, truth_fold_view}
use Rattle.dpl_frame.specs.Frames.{Framed}
use Rattle.dpl_frame.specs.declared.fault.Turn.{Turn}
use Rattle.dpl_frame.specs.Faults.{Halt, Tells}
use Rattle.dpl_values.specs.Reducing.{first_of_ints, first_of_truths}
use Rattle.dpl_values.specs.Reductions.{MayRefuseReduction, OfSlot, EachInInts, EachInTruths}
use Rattle.dpl_values.specs.Meanings.{int_at, truth_at}

-- the ints of a promoted int put together, at a place of the text; an entry of its array's indices, or of a reduction in it, may be refused
abbrev pub TellsInts : (ℕ → ℕ → Type 0) → Framed → IntFold → PromotedInt → Place → Turn → Result ℤ Halt → Type 0
TellsInts may f fold e at turn result =
    Tells (MayRefuseReduction may f (λ Holds. OfSlot (first_of_ints e) Holds × EachInInts e Holds)) Int turn result
    (reduction f.limits.budget at (int_fold_view fold) (λ i. int_at f e i) (whole_in f.limits in_memory (promoted_int EachTurn e) f.memory))

-- the same of truth values
abbrev pub TellsTruths : (ℕ → ℕ → Type 0) → Framed → TruthFold → PromotedTruth → Place → Turn → Result Bool Halt → Type 0
TellsTruths may f fold e at turn result =
    Tells (MayRefuseReduction may f (λ Holds. OfSlot (first_of_truths e) Holds × EachInTruths e Holds)) Truth turn result
    (reduction f.limits.budget at (truth_fold_view fold) (λ i. truth_at f e i) (whole_in f.limits in_memory (promoted_truth EachTurn e) f.memory))
