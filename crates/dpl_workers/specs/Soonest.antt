-- How a forall ends by how the turns of its workers have ended.
use Rattle.std.specs.Prelude.{◌≡◌, ◌≤◌, ◌+◌, ℕ, nat_lt, if◌then◌else◌, List, Some, slice_get, Result, Ok, Err}
use Rattle.std.specs.List.{AllByRecursion}
use Rattle.dpl_language.specs.Values.{Index, Turn, InTurn}
use Rattle.dpl_apart.specs.Rows.{place_in}
use Rattle.dpl_frame.specs.Faults.{turn_view}
use Rattle.dpl_loop.specs.declared.stop.RunStop.{RunStop}
use Rattle.dpl_loop.specs.declared.stop.RunStop.TheVariants as stop
use Rattle.dpl_workers.specs.declared.job.Worked.{Worked}

-- where a turn stands among those of some indices
abbrev pub spot_in : List Index → Turn → ℕ
spot_in ts (InTurn t) = place_in ts t
spot_in ts _ = 0

-- Which of several is told, the least first: what was refused, memory before threads and threads before entries; and faults by their turns.
abbrev pub rank_in : List Index → RunStop → ℕ
rank_in ts stop.Memory = 0
rank_in ts stop.Thread = 1
rank_in ts stop.Gate = 2
rank_in ts (stop.Fault f) = 3 + spot_in ts (turn_view f.turn)

-- of two ends the one that is told; turns that ended well tell nothing
abbrev pub sooner_in : List Index → Result (Unit {0}) RunStop → Result (Unit {0}) RunStop → Result (Unit {0}) RunStop
sooner_in ts (Ok v) other = other
sooner_in ts (Err h) (Ok v) = Err h
sooner_in ts (Err h) (Err i) = if nat_lt (rank_in ts i) (rank_in ts h) then Err i else Err h

-- what is told where workers were not all made, and the turns of one behind them have ended so: the sooner of the two
abbrev pub IsToldOf : {A : Type 0} → List Index → Result A RunStop → Result (Unit {0}) RunStop → RunStop → Type 0
IsToldOf ts (Ok a) end told = ⊥
IsToldOf ts (Err h) end told = sooner_in ts (Err h) end ≡ Err told

-- turns that end so early at the earliest
abbrev pub EndsFrom : List Index → ℕ → Result (Unit {0}) RunStop → Type 0
EndsFrom ts n (Ok v) = Unit {0}
EndsFrom ts n (Err h) = n ≤ rank_in ts h

-- all have ended well; or this is the end of one of them, and none ends before it
abbrev pub IsSoonest : List Index → List Worked → Result (Unit {0}) RunStop → Type 0
IsSoonest ts ws (Ok v) = AllByRecursion (λ (w : Worked). w.end ≡ Ok tt) ws
IsSoonest ts ws (Err h) =
    ((k : ℕ) × (w : Worked) × (slice_get ws k ≡ Some w) × (w.end ≡ Err h)) × AllByRecursion (λ (w : Worked). EndsFrom ts (rank_in ts h) w.end) ws
