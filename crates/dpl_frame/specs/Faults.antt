-- The faults that words stand for, and what a walk hands back.
use Rattle.std.specs.Prelude.{◌≡◌, ℕ, ◌^◌, ◌/◌, ◌%◌, ◌-◌, zero, suc, nat_lt, ℤ, Bool, if◌then◌else◌, Option, Some, None, Result, Ok, Err, List, [], ◌∷◌}
use Rattle.dpl_sets.specs.TextRanges.{TextRange}
use Rattle.dpl_language.specs.Values.{Value, Int, Truth, Range, Domain, FaultCode, Outside, ZeroDivisor, PastLimit, EmptyEnd, Budget, NoLocale, CellStuck, ArrayTooLarge, Turn, InNone, InTurn, Fault, in_the_turn}
use Rattle.dpl_frame.specs.declared.fault.Turn.{Turn as TurnNode}
use Rattle.dpl_frame.specs.declared.fault.Turn.TheVariants as turn
use Rattle.dpl_frame.specs.declared.fault.Fault.{Fault as FaultNode}
use Rattle.dpl_contents.specs.declared.range.RangeWord.{RangeWord}
use Rattle.dpl_contents.specs.Range.{range_word}

-- the code that a number stands for
abbrev pub code_of : ℕ → FaultCode
code_of zero = Outside
code_of (suc zero) = ZeroDivisor
code_of (suc (suc zero)) = PastLimit
code_of (suc (suc (suc zero))) = EmptyEnd
code_of (suc (suc (suc (suc zero)))) = Budget
code_of (suc (suc (suc (suc (suc zero))))) = NoLocale
code_of (suc (suc (suc (suc (suc (suc zero)))))) = CellStuck
code_of (suc (suc (suc (suc (suc (suc (suc n))))))) = ArrayTooLarge

-- no turn, or that of an index
abbrev pub turn_view : TurnNode → Turn
turn_view turn.Absent = InNone
turn_view (turn.Line i) = InTurn (i ∷ [])
turn_view (turn.Plane i j) = InTurn (i ∷ j ∷ [])
turn_view (turn.Space i j k) = InTurn (i ∷ j ∷ k ∷ [])

abbrev pub fault_view : FaultNode → Fault
fault_view f = record { code = f.code; at = f.at; turn = turn_view f.turn }

-- the fault of a word, by its code, its line and its column; it is in no turn
abbrev pub fault_of : ℕ → Fault
fault_of w = record { code = code_of (w / 2 ^ 42); at = record { line = w / 2097152 % 2097152; column = w % 2097152 }; turn = InNone }

-- why a walk ended early: by a fault, because a gate refused an entry, or out of memory
pub data Halt : Type 0 where
  Faulted : Fault → Halt
  Refused : Halt
  OutOfMemory : Halt

-- what the numbers behind those of the eight codes stand for
abbrev pub refusal_of : ℕ → Halt
refusal_of zero = Refused
refusal_of (suc n) = OutOfMemory

-- what a word stands for
abbrev pub halt_of : ℕ → Halt
halt_of w = if nat_lt (w / 2 ^ 42) 8 then Faulted (fault_of w) else refusal_of (w / 2 ^ 42 - 8)

-- which of several ends is told, the least first: that memory ran out before a refused entry, and each before a fault
abbrev pub halt_rank : Halt → ℕ
halt_rank OutOfMemory = 0
halt_rank Refused = 1
halt_rank (Faulted f) = 2

-- the fault that is told, in a turn; a refusal tells none
abbrev pub fault_in : Turn → Halt → Option Fault
fault_in t (Faulted f) = Some (in_the_turn t f)
fault_in t _ = None

-- What a walk hands back, with the turn that stands beside it, tells a value, or its fault in that turn; or an entry was refused,
-- which may be. Where memory ran out nothing is said.
abbrev pub Tells : {A B : Type 0} → Type 0 → (A → B) → TurnNode → Result A Halt → Result B Fault → Type 0
Tells may value t (Ok a) v = v ≡ Ok (value a)
Tells may value t (Err (Faulted f)) v = v ≡ Err (in_the_turn (turn_view t) f)
Tells may value t (Err Refused) v = may
Tells may value t (Err OutOfMemory) v = Unit {0}

-- the value of a range
abbrev pub as_range : RangeWord → Value
as_range r = Range (range_word r)

-- an int, a truth value, a range, a domain, or a fault
abbrev pub of_int : Result ℤ Fault → Result Value Fault
of_int (Ok n) = Ok (Int n)
of_int (Err f) = Err f

abbrev pub of_truth : Result Bool Fault → Result Value Fault
of_truth (Ok b) = Ok (Truth b)
of_truth (Err f) = Err f

abbrev pub of_range : Result RangeWord Fault → Result Value Fault
of_range (Ok r) = Ok (Range (range_word r))
of_range (Err f) = Err f

abbrev pub of_domain : Result (List TextRange) Fault → Result Value Fault
of_domain (Ok rs) = Ok (Domain rs)
of_domain (Err f) = Err f
