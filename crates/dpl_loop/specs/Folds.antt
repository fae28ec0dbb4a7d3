-- Folds of the values at the indices of a domain, begun with the operator's value over nothing.
use Rattle.std.specs.Prelude.{◌≡◌, List, [], ◌∷◌, Result, Ok, Err}
use Rattle.dpl_language.specs.Tree.{Op}
use Rattle.dpl_language.specs.Values.{Value, Index, Fault, in_the_turn}
use Rattle.dpl_language.specs.Arithmetic.{unit_of}
use Rattle.dpl_language.specs.Outcome.{naming_value}
use Rattle.dpl_language.specs.Expressions.{folded}
use Rattle.dpl_frame.specs.declared.fault.Turn.{Turn}
use Rattle.dpl_frame.specs.Faults.{Halt, Faulted, Refused, turn_view}
use Rattle.dpl_apart.specs.Operands.{IsOperand}

-- the values at indices, where a fault names its turn
abbrev pub in_turns : (Index → Result Value Fault) → Index → Result Value Fault
in_turns meaning t = naming_value t (meaning t)

-- OPERANDS
abbrev pub OperandThen : Op → Result Value Fault → Type 0 → Type 0
OperandThen op (Ok v) rest = IsOperand op v × rest
OperandThen op (Err f) rest = Unit {0}

-- the values of a list's indices are operands, up to the first that has a fault
abbrev pub AreOperands : Op → (Index → Result Value Fault) → List Index → Type 0
AreOperands op value [] = Unit {0}
AreOperands op value (t ∷ ts) = OperandThen op (value t) (AreOperands op value ts)

-- ONE FOLD
-- a fold of operands ended early, by its fault; or an entry was refused, which may be
abbrev pub FoldHalts : Type 0 → Op → (Index → Result Value Fault) → List Index → Value → Turn → Halt → Type 0
FoldHalts may op value ts before turn (Faulted f) = (folded op value ts before ≡ Err (in_the_turn (turn_view turn) f)) × AreOperands op value ts
FoldHalts may op value ts before turn Refused = may
FoldHalts may op value ts before turn _ = Unit {0}

-- the fold of operands over a list of indices, or how it ended early
abbrev pub FoldEnds : {A : Type 0} → Type 0 → (A → Value) → Op → (Index → Result Value Fault) → List Index → Turn → Result A Halt → Type 0
FoldEnds may value op named ts turn (Ok a) = (folded op named ts (unit_of op) ≡ Ok (value a)) × AreOperands op named ts
FoldEnds may value op named ts turn (Err h) = FoldHalts may op named ts (unit_of op) turn h
