-- How the loops of a program end that workers may make: the turns of a forall over a domain, between its reduce variables, and those of an
-- assignment to a whole array. Neither changes the limits of the run.
use Rattle.std.specs.Prelude.{◌≡◌, ℕ, List, Result, map}
use Rattle.dpl_sets.specs.TextRanges.{TextRange}
use Rattle.dpl_map.specs.Maps.{AxisValue}
use Rattle.dpl_language.specs.Ranges.{indices_in}
use Rattle.dpl_language.specs.Outcome.{Deeds, Run, in_order}
use Rattle.dpl_language.specs.Environment.{Limits}
use Rattle.dpl_language.specs.Loops.{named_turn}
use Rattle.dpl_memory.specs.Memory.{Memory}
use Rattle.dpl_standing.specs.Standing.{InTurn}
use Rattle.dpl_nodes.specs.Steps.{intent_view}
use Rattle.dpl_frame.specs.Frames.{Framed}
use Rattle.dpl_loop.specs.declared.stop.RunStop.{RunStop}
use Rattle.dpl_loop.specs.Runs.{RunsTo}
use Rattle.dpl_loop.specs.Entries.{MayRefuse}
use Rattle.dpl_readings.specs.Readings.{steps_in}
use Rattle.dpl_frame.specs.Dealt.{dealt_by}
use Rattle.dpl_readings.specs.Written.{written_among}
use Rattle.dpl_steps.specs.Contexts.{WholeTurns, whole_turn, index_turn, intended_turns}
use Rattle.dpl_program.specs.declared.forall.Forall.{Forall}

-- what a forall does; and which of its entries a gate may refuse
abbrev pub forall_run : Limits → Forall → Run Memory
forall_run limits l =
    intended_turns (map intent_view l.changed.now.reduced.now) (index_turn limits l.names (steps_in InTurn l.body.now)) (indices_in l.indices)

abbrev pub MayRefuseTurns : (ℕ → ℕ → Type 0) → Framed → Forall → Type 0
MayRefuseTurns may f l = MayRefuse may (dealt_by f l.origin (written_among (steps_in InTurn l.body.now))) l.indices

abbrev pub HasMade : (ℕ → ℕ → Type 0) → Forall → Framed → Result (Unit {0}) RunStop → Framed → Type 0
HasMade may l before result after =
    ((done : Deeds) → RunsTo (MayRefuseTurns may before l) result after.memory done (forall_run before.limits l before.memory done))
    × (after.limits ≡ before.limits)

-- an assignment to a whole array, over its domain and by its map
abbrev pub HasMadeWhole : (ℕ → ℕ → Type 0) → WholeTurns → List TextRange → List AxisValue → Framed → Result (Unit {0}) RunStop → Framed → Type 0
HasMadeWhole may turns over map before result after =
    ((done : Deeds) → RunsTo (MayRefuse may map over) result after.memory done
    (in_order (named_turn (whole_turn turns before.limits)) (indices_in over) before.memory done))
    × (after.limits ≡ before.limits)
