-- Turns over a state that keep apart, as the turns of foralls do: what each does is told by its own row.
use Rattle.std.specs.Prelude.{◌≡◌, Option, Some, List, [], ◌∷◌}
use Rattle.dpl_language.specs.Values.{Index, InTurn, in_the_turn}
use Rattle.dpl_language.specs.Outcome.{Deeds, Outcome, Done, Stop, Run}
use Rattle.dpl_apart.specs.Rows.{Turned, Leaves, Fails, Ran, Finished, Failed, Loop, with_row}

-- How a state holds rows and reduce variables; and besides what the last turn has left, by its index and so its row.
abbrev pub Holding : Type 0 → Type 0 → Type 0 → Type 0
Holding T V S = Option Index → (Index → T) → V → S

-- what a turn makes of a state
abbrev pub turn_left : {T V S : Type 0} → Holding T V S → (V → V → V) → Index → (Index → T) → V → Deeds → Turned T V → Outcome S
turn_left holding join t rows a done (Leaves row v) = Done (holding (Some t) (with_row t row rows) (join a v)) done
turn_left holding join t rows a done (Fails f) = Stop f done

-- and what turns make of it, of which one is the last
abbrev pub loop_left : {T V S : Type 0} → Holding T V S → Option Index → Deeds → Ran T V → Outcome S
loop_left holding last done (Finished rows a) = Done (holding last rows a) done
loop_left holding last done (Failed k f) = Stop f done

-- the last index of a list, or the one before the list
abbrev pub last_index : Option Index → List Index → Option Index
last_index last [] = last
last_index last (t ∷ ts) = last_index (Some t) ts

-- Turns keep apart: each, of such an index as the loop has, reads and writes the row of its index alone and adds to the reduce variables.
-- It prints nothing, and what other turns have left, the last one too, it doesn't see.
pub record IsApart {T V S : Type 0} (IsIndex : Index → Type 0) (IsOne : V → Type 0) (holding : Holding T V S) (loop : Loop T V) (turn : Index → Run S) : Type 0 where
  pub each : (t : Index) (last : Option Index) (rows : Index → T) (a : V) (done : Deeds) → IsIndex t → IsOne a
      → turn t (holding last rows a) done ≡ turn_left holding loop.join t rows a done (loop.turn t (rows t))

-- a fault names its turn
abbrev pub named : {T V : Type 0} → Index → Turned T V → Turned T V
named t (Leaves row v) = Leaves row v
named t (Fails f) = Fails (in_the_turn (InTurn t) f)

abbrev pub named_loop : {T V : Type 0} → Loop T V → Loop T V
named_loop loop = record loop { turn = λ t row. named t (loop.turn t row) }
