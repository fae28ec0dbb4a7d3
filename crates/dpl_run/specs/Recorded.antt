-- What a run comes to that keeps a record of its foralls: the same end, and on record the foralls that it enters.
-- `recording` is `by_name` but for the record; `entered_all` has the foralls that a run by `by_name` enters.
use Rattle.std.specs.Prelude.{List, map}
use Rattle.dpl_history.specs.declared.history.Event.{Event}
use Rattle.dpl_language.specs.Tree.{ProgramTree}
use Rattle.dpl_language.specs.Values.{Value}
use Rattle.dpl_language.specs.Outcome.{LoopRun, Deeds, no_deeds, Outcome, Done, Stop, Waits}
use Rattle.dpl_language.specs.Environment.{Limits}
use Rattle.dpl_language.specs.Names.{Text, State, by_name}
use Rattle.dpl_language.specs.Program.{first_state}
use Rattle.dpl_run.specs.Entered.{Entry, entered_all}

-- the same deeds, with these foralls on record; and the same end with them
abbrev pub with_loops : List LoopRun → Deeds → Deeds
with_loops loops done = record done { loops = loops }

abbrev pub on_record : {S : Type 0} → List LoopRun → Outcome S → Outcome S
on_record loops (Done s done) = Done s (with_loops loops done)
on_record loops (Stop f done) = Stop f (with_loops loops done)
on_record loops (Waits at c op done) = Waits at c op (with_loops loops done)

-- what `recording` notes of a forall that is entered by names
abbrev pub loop_of : Entry Text State → LoopRun
loop_of e = record { at = e.at; over = e.ranges; value = λ x. by_name.get x e.state; root = λ x. by_name.root x e.state }

-- what it notes of all that a program's run enters
abbrev pub loops_of : ProgramTree Text → List (Text × Value) → Limits → List (List Event) → List LoopRun
loops_of t sets limits histories =
    map {A = Entry Text State} {B = LoopRun} loop_of (entered_all limits by_name t.stmts (first_state sets histories) no_deeds)
