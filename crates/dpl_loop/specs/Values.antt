-- What an evaluation gives, and what a reduction asks of the function that gives its items.
use Rattle.std.specs.Prelude.{◌≡◌, ◌<◌, ℕ, ℤ, pos, List, drop, get_or, slice_get, Some, Result, Ok, Err}
use Rattle.dpl_map.specs.Maps.{AxisValue, owner}
use Rattle.dpl_language.specs.Tree.{Op}
use Rattle.dpl_language.specs.Expressions.{folded}
use Rattle.dpl_array.specs.Elements.{Row, behind}
use Rattle.dpl_loop.specs.declared.strip.Strip.{Strip}
use Rattle.std.specs.Borrow.{MutBor}
use Rattle.dpl_language.specs.Values.{Value, Index, Fault}
use Rattle.dpl_frame.specs.declared.fault.Turn.{Turn}
use Rattle.dpl_frame.specs.Faults.{Halt, Refused, Tells, fault_view}
use Rattle.dpl_loop.specs.declared.stop.RunStop.{RunStop}
use Rattle.dpl_loop.specs.declared.stop.RunStop.TheVariants as stop
use Rattle.dpl_loop.specs.Folds.{AreOperands, FoldHalts}

-- the value itself, or its fault; or an entry was refused, which may be. Where memory ran out nothing is said; no want of a thread is told.
abbrev pub Gives : {A B : Type 0} → Type 0 → (A → B) → Result A RunStop → Result B Fault → Type 0
Gives may value (Ok a) v = v ≡ Ok (value a)
Gives may value (Err (stop.Fault f)) v = v ≡ Err (fault_view f)
Gives may value (Err stop.Memory) v = Unit {0}
Gives may value (Err stop.Thread) v = ⊥
Gives may value (Err stop.Gate) v = may

module _ {V : Type 0} where
  -- each of its answers tells the value at its index; of a refusal nothing is asked
  abbrev pub AnswersTell : (V → Value) → (Index → MutBor Turn → Result V Halt → MutBor Turn → Type 0) → (Index → Result Value Fault) → Type 0
  AnswersTell value answers meaning =
      (t : Index) (before after : MutBor Turn) (r : Result V Halt) → answers t before r after → Tells (Unit {0}) value after.now r (meaning t)

  -- some answer is a refusal
  abbrev pub MayAnswerRefused : (Index → MutBor Turn → Result V Halt → MutBor Turn → Type 0) → Type 0
  MayAnswerRefused answers = (t : Index) × (before : MutBor Turn) × (after : MutBor Turn) × answers t before (Err Refused) after

-- each int of a strip is the value at its index
abbrev pub HoldsStrip : (ℤ → Value) → (Index → Result Value Fault) → Strip → Type 0
HoldsStrip value meaning s = (k : ℕ) → k < s.size → k < 64 → meaning (behind k s.row) ≡ Ok (value (get_or s.words k (pos 0)))

-- and so it is of all strips that a function gives, each of which is of the row that it is asked for
abbrev pub StripsTell : (ℤ → Value) → (Row → Strip → Type 0) → (Index → Result Value Fault) → Type 0
StripsTell value strips meaning = (row : Row) (s : Strip) → strips row s → (s.row ≡ row) × HoldsStrip value meaning s

-- what was put together up to a place, with what follows it, is the fold of all: so it goes on from a later place, or ends; and what was put
-- together are operands
abbrev pub GoesOn : Type 0 → (ℤ → Value) → Op → (Index → Result Value Fault) → List Index → ℕ → ℤ → Turn → Result (ℤ × ℕ) Halt → Type 0
GoesOn may value op named ts place before turn (Ok r) =
    (folded op named (drop r.1 ts) (value r.0) ≡ folded op named (drop place ts) (value before))
    × (AreOperands op named (drop r.1 ts) → AreOperands op named (drop place ts))
GoesOn may value op named ts place before turn (Err h) = FoldHalts may op named (drop place ts) (value before) turn h

-- a gate may refuse the entry of an index's owner, with its place in a list
abbrev pub MayRefuseAmong : (ℕ → ℕ → Type 0) → List AxisValue → List Index → Type 0
MayRefuseAmong may map ts = (place : ℕ) × (t : Index) × (slice_get ts place ≡ Some t) × may (owner map t) place
