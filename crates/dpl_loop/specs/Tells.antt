-- How a fault is told as the reason why a loop or a run ended early.
-- That memory ran out tells no fault, and that a gate refused tells none.
use Rattle.std.specs.Prelude.{◌≡◌, Result, Ok, Err}
use Rattle.dpl_language.specs.Values.{Index, Turn, Fault, InTurn, in_the_turn}
use Rattle.dpl_frame.specs.Faults.{Halt, Faulted, Refused, OutOfMemory, fault_view}
use Rattle.dpl_loop.specs.declared.stop.RunStop.{RunStop}
use Rattle.dpl_loop.specs.declared.stop.RunStop.TheVariants as stop

abbrev pub IsFault : Fault → RunStop → Type 0
IsFault f (stop.Fault g) = fault_view g ≡ f
IsFault f stop.Memory = ⊥
IsFault f stop.Thread = ⊥
IsFault f stop.Gate = ⊥

-- a walk ended so, in a turn
abbrev pub IsHalt : Turn → Halt → RunStop → Type 0
IsHalt t (Faulted f) h = IsFault (in_the_turn t f) h
IsHalt t Refused h = h ≡ stop.Gate
IsHalt t OutOfMemory h = h ≡ stop.Memory

-- both have ended well, or by the same fault
abbrev pub TellsSame : Result (Unit {0}) Fault → Result (Unit {0}) RunStop → Type 0
TellsSame (Ok v) (Ok w) = Unit {0}
TellsSame (Ok v) (Err h) = ⊥
TellsSame (Err f) (Ok w) = ⊥
TellsSame (Err f) (Err h) = IsFault f h

-- the second is the first in the turn of an index
abbrev pub NamesTurn : Index → RunStop → RunStop → Type 0
NamesTurn t (stop.Fault f) h = IsFault (in_the_turn (InTurn t) (fault_view f)) h
NamesTurn t stop.Memory h = h ≡ stop.Memory
NamesTurn t stop.Thread h = h ≡ stop.Thread
NamesTurn t stop.Gate h = h ≡ stop.Gate
