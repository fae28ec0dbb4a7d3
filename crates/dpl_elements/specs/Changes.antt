-- What declarations and assignments do to a memory: another memory, or a fault. They do nothing else.
-- Each is by the value of its right side.
use Rattle.std.specs.Prelude.{ℕ, ℤ, Bool, if◌then◌else◌, List, Option, Some, None, Result, Ok, Err}
use Rattle.dpl_syntax.specs.declared.place.Place.{Place}
use Rattle.dpl_language.specs.Tree.{Assign, Set, SetAdd, SetSubtract, SetMultiply, SetDivide, SetRemainder, SetReduce, AssignTree, ItemTree}
use Rattle.dpl_sets.specs.TextRanges.{TextRange}
use Rattle.dpl_language.specs.Values.{Value, Index, kept_number, Fault, fault, Outside, ArrayTooLarge}
use Rattle.dpl_language.specs.Ranges.{too_large}
use Rattle.dpl_language.specs.Arithmetic.{assign_divides, tested_divisor}
use Rattle.dpl_language.specs.Outcome.{Deeds, Outcome, Done, Stop, with_ok}
use Rattle.dpl_language.specs.Environment.{Limits, Plain}
use Rattle.dpl_language.specs.Expressions.{item_of}
use Rattle.dpl_lowered.specs.Shapes.{nowhere}
use Rattle.dpl_memory.specs.Memory.{Variable, Memory, int_leaf, truth_leaf, array_at, with_array, held_at, held_with, in_memory}
use Rattle.dpl_values.specs.Elements.{word_found}
use Rattle.dpl_nodes.specs.declared.step.IntDeed.{IntDeed}
use Rattle.dpl_nodes.specs.declared.step.IntDeed.TheVariants as deeds
use Rattle.dpl_nodes.specs.declared.step.TruthDeed.{TruthDeed}
use Rattle.dpl_nodes.specs.declared.step.TruthDeed.TheVariants as deed

-- what the command line gives to an int, where it is declared so
abbrev pub int_given : IntDeed → ℕ → Memory → Option Value
int_given deeds.Declare slot s = None
int_given deeds.Config slot s = in_memory.given (int_leaf slot) s
int_given deeds.Set slot s = None
int_given deeds.Add slot s = None
int_given deeds.Subtract slot s = None
int_given deeds.Multiply slot s = None
int_given (deeds.Divide at) slot s = None
int_given (deeds.Remainder at) slot s = None
int_given deeds.Reduce slot s = None

-- a variable after an operator and the value of its right side
abbrev pub updated_by : Variable → Assign → Place → Value → Memory → Result Memory Fault
updated_by x op at v s = with_ok (tested_divisor (assign_divides op) at v) (λ w. Ok (in_memory.update x op w s))

-- what the value of its right side does to an int
abbrev pub int_put : IntDeed → ℕ → Value → Memory → Result Memory Fault
int_put deeds.Declare slot v s = Ok (in_memory.declare (int_leaf slot) (Plain v) s)
int_put deeds.Config slot v s = Ok (in_memory.declare (int_leaf slot) (Plain v) s)
int_put deeds.Set slot v s = updated_by (int_leaf slot) Set nowhere v s
int_put deeds.Add slot v s = updated_by (int_leaf slot) SetAdd nowhere v s
int_put deeds.Subtract slot v s = updated_by (int_leaf slot) SetSubtract nowhere v s
int_put deeds.Multiply slot v s = updated_by (int_leaf slot) SetMultiply nowhere v s
int_put (deeds.Divide at) slot v s = updated_by (int_leaf slot) SetDivide at.now v s
int_put (deeds.Remainder at) slot v s = updated_by (int_leaf slot) SetRemainder at.now v s
int_put deeds.Reduce slot v s = updated_by (int_leaf slot) SetReduce nowhere v s

module _ (limits : Limits) where
  -- the memory after a declaration
  abbrev pub declared_memory : Variable → ItemTree Variable → Memory → Result Memory Fault
  declared_memory x item s = with_ok (item_of limits in_memory item None s) (λ v. Ok (in_memory.declare x (Plain v) s))

  -- the same, where the command line may give the value
  abbrev pub given_memory : Variable → ItemTree Variable → Option Value → Memory → Result Memory Fault
  given_memory x item None s = declared_memory x item s
  given_memory x item (Some v) s = Ok (in_memory.declare x (Plain v) s)

  -- and after an assignment
  abbrev pub assigned_memory : Variable → Assign → Place → ItemTree Variable → Memory → Result Memory Fault
  assigned_memory x op at item s =
      with_ok (item_of limits in_memory item None s) (λ v. updated_by x op at v s)

  -- and after what is done to an int: what the command line gives is taken before the right side is looked at
  abbrev pub int_changed_by : Option Value → IntDeed → ℕ → ItemTree Variable → Memory → Result Memory Fault
  int_changed_by None d slot item s = with_ok (item_of limits in_memory item None s) (λ v. int_put d slot v s)
  int_changed_by (Some v) d slot item s = Ok (in_memory.declare (int_leaf slot) (Plain v) s)

  abbrev pub int_memory : IntDeed → ℕ → ItemTree Variable → Memory → Result Memory Fault
  int_memory d slot item s = int_changed_by (int_given d slot s) d slot item s

  -- and after what is done to a truth value
  abbrev pub truth_memory : TruthDeed → ℕ → ItemTree Variable → Memory → Result Memory Fault
  truth_memory deed.Declare slot item s = declared_memory (truth_leaf slot) item s
  truth_memory deed.Config slot item s = given_memory (truth_leaf slot) item (in_memory.given (truth_leaf slot) s) s
  truth_memory deed.Set slot item s = assigned_memory (truth_leaf slot) Set nowhere item s
  truth_memory deed.Reduce slot item s = assigned_memory (truth_leaf slot) SetReduce nowhere item s

-- this memory, or the fault in its place
abbrev pub memory_after : Result (Unit {0}) Fault → Memory → Result Memory Fault
memory_after (Ok v) s = Ok s
memory_after (Err f) s = Err f

-- how a memory, or a fault, ends a run
abbrev pub ends_as : Result Memory Fault → Deeds → Outcome Memory
ends_as (Ok s) done = Done s done
ends_as (Err f) done = Stop f done

-- the operator of an assignment to an array, whose place faults tell
abbrev pub signed : Assign → Place → AssignTree
signed op at = record { at = at; op = op; last = nowhere }

-- nothing, or F1 at an array's name
abbrev pub if_there : Place → Bool → Result (Unit {0}) Fault
if_there at b = if b then Ok tt else Err (fault Outside at)

-- the memory with an element of the array in a slot put; or F1 at the array's name, where it hasn't got the index
abbrev pub put_memory : Place → ℕ → Index → ℤ → Memory → Result Memory Fault
put_memory at slot t w s =
    with_ok (word_found at (held_at t (array_at slot s)))
    (λ old. Ok (with_array slot (held_with t w (array_at slot s)) s))

-- a domain for an array, or F8 at a name
abbrev pub for_array_at : Place → List TextRange → Result (List TextRange) Fault
for_array_at at rs = if too_large rs then Err (fault ArrayTooLarge at) else Ok rs

-- the word of a value, or its fault
abbrev pub kept_word : Result Value Fault → Result ℤ Fault
kept_word r = with_ok r (λ v. Ok (kept_number v))
