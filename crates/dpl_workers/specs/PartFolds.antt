-- Folds of the parts of a domain, one for each locale: what each comes to by itself, and what they come to together.
use Rattle.std.specs.Prelude.{◌≡◌, ℕ, ℤ, nat_lt, Bool, true, false, if◌then◌else◌, List, Result, Ok, Err}
use Rattle.std.specs.List.{AllByRecursion}
use Rattle.dpl_sets.specs.Ranges.{RangeValue}
use Rattle.dpl_sets.specs.Indices.{indices}
use Rattle.dpl_map.specs.Maps.{AxisValue, owner}
use Rattle.dpl_map.specs.Parts.{part}
use Rattle.dpl_language.specs.Tree.{Op}
use Rattle.dpl_language.specs.Values.{Value, Index, Fault, in_the_turn}
use Rattle.dpl_language.specs.Arithmetic.{combined, unit_of}
use Rattle.dpl_frame.specs.declared.fault.Turn.{Turn}
use Rattle.dpl_frame.specs.Faults.{Halt, Faulted, Refused, turn_view}
use Rattle.dpl_apart.specs.Rows.{Ran, Finished, Failed, run, merged, numbered, place_in}
use Rattle.dpl_apart.specs.Folds.{fold_loop, no_rows}
use Rattle.dpl_loop.specs.Folds.{in_turns, AreOperands, FoldEnds}
use Rattle.dpl_workers.specs.declared.ended.Ended.{Ended}
use Rattle.dpl_workers.specs.declared.parts.Part.{Part}
use Rattle.dpl_workers.specs.Parts.{indices_of}
use Rattle.dpl_workers.specs.Soonest.{spot_in}

-- what a locale's part comes to by itself
abbrev pub part_ran : Op → (Index → Result Value Fault) → List RangeValue → List AxisValue → ℕ → Ran (Unit {0}) Value
part_ran op named whole axes l = run (fold_loop op named (place_in (indices whole))) (part whole axes l) no_rows (unit_of op)

-- and those of so many locales from one on together
abbrev pub parts_ran : Op → (Index → Result Value Fault) → List RangeValue → List AxisValue → ℕ → ℕ → Ran (Unit {0}) Value
parts_ran op named whole axes l n =
    merged (combined op) (owner axes) (part_ran op named whole axes) (Finished no_rows (unit_of op)) (numbered l n)

-- the values of these parts are operands, each up to its first fault
abbrev pub ArePartOperands : Op → (Index → Result Value Fault) → List RangeValue → List AxisValue → ℕ → ℕ → Type 0
ArePartOperands op named whole axes l n = AllByRecursion (λ l. AreOperands op named (part whole axes l)) (numbered l n)

-- how parts end together: by what they come to, a fault at the place of its turn among some indices; or since something was refused
abbrev pub PartsHalt : Type 0 → List Index → Ran (Unit {0}) Value → Type 0 → Turn → Halt → Type 0
PartsHalt may ts r operands turn (Faulted f) = (r ≡ Failed (spot_in ts (turn_view turn)) (in_the_turn (turn_view turn) f)) × operands
PartsHalt may ts r operands turn Refused = may
PartsHalt may ts r operands turn _ = Unit {0}

abbrev pub PartsEnd : {A : Type 0} → Type 0 → (A → Value) → List Index → Ran (Unit {0}) Value → Type 0 → Turn → Result A Halt → Type 0
PartsEnd may value ts r operands turn (Ok a) = (r ≡ Finished no_rows (value a)) × operands
PartsEnd may value ts r operands turn (Err h) = PartsHalt may ts r operands turn h

-- nothing put together
abbrev pub IsNothing : {A : Type 0} → (A → Value) → Value → Result A Halt → Type 0
IsNothing value unit (Ok a) = value a ≡ unit
IsNothing value unit (Err h) = ⊥

-- Whether the first of two early ends is told: a fault goes before another by its place, and before nothing else.
pub record GoesFirst (ts : List Index) (turn other : Turn) (h i : Halt) (first : Bool) : Type 0 where
  pub faults : (f g : Fault) → h ≡ Faulted f → i ≡ Faulted g → first ≡ nat_lt (spot_in ts (turn_view turn)) (spot_in ts (turn_view other))
  pub no_refusal_behind : (f : Fault) → h ≡ Faulted f → first ≡ true → (g : Fault) × (i ≡ Faulted g)
  pub no_refusal_before : (g : Fault) → i ≡ Faulted g → first ≡ false → (f : Fault) × (h ≡ Faulted f)

-- two ends as one: their values put together; else one that ended early, and of two such the one that goes first
abbrev pub IsBoth : Op → (ℤ → Value) → List Index → Result ℤ Halt → Turn → Result ℤ Halt → Turn → Result ℤ Halt → Turn → Type 0
IsBoth op value ts (Ok a) turn (Ok b) other (Ok c) told = value c ≡ combined op (value a) (value b)
IsBoth op value ts (Ok a) turn (Ok b) other (Err h) told = ⊥
IsBoth op value ts (Err h) turn (Ok b) other all told = (all ≡ Err h) × (told ≡ turn)
IsBoth op value ts (Ok a) turn (Err i) other all told = (all ≡ Err i) × (told ≡ other)
IsBoth op value ts (Err h) turn (Err i) other all told =
    (first : Bool) × GoesFirst ts turn other h i first × (all ≡ Err (if first then h else i)) × (told ≡ (if first then turn else other))

-- what a function answers of a locale's part is how the fold over its indices ends; of a refusal nothing is asked
abbrev pub FoldsTell : (ℤ → Value) → Op → (Index → Result Value Fault) → List RangeValue → List AxisValue → (Part → ℕ → Ended → Type 0) → Type 0
FoldsTell value op meaning whole axes answers =
    (p : Part) (l : ℕ) (e : Ended) → answers p l e → FoldEnds (Unit {0}) value op (in_turns meaning) (indices_of p whole axes l) e.turn e.item

-- some answer is a refusal
abbrev pub MayEndRefused : (Part → ℕ → Ended → Type 0) → Type 0
MayEndRefused answers = (p : Part) × (l : ℕ) × (e : Ended) × answers p l e × (e.item ≡ Err Refused)
