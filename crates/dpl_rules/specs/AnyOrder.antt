-- When turns don't depend on the order in which they are made.
-- A turn faults whichever others were made before it, or after none; and where none faults, every order leaves the same
-- variables. That is proved of turns in a memory that keep apart (`in_any_order` of dpl_apart), and workers rest on it. Of a
-- forall that the rules admit no contract says it: rows make such turns in both orders (dpl_worked, `Orders`).
use Rattle.std.specs.Prelude.{◌≡◌, List, ◌∷◌, ◌++◌, IsPermutation}
use Rattle.dpl_language.specs.Tree.{VariablesTree, Body}
use Rattle.dpl_language.specs.Values.{Value, Index}
use Rattle.dpl_language.specs.Ranges.{indices_in, loop_ranges}
use Rattle.dpl_language.specs.Outcome.{Deeds, Outcome, Done, Stop, Waits, Run, in_order}
use Rattle.dpl_language.specs.Environment.{Limits}
use Rattle.dpl_language.specs.Names.{Text, State, by_name}
use Rattle.dpl_language.specs.Loops.{named_turn, turn_of}
use Rattle.dpl_language.specs.Statements.{exec_body}

-- a run ends as another: with the same fault, or without one in whatever state
abbrev pub EndsAs : {S : Type 0} → Outcome S → Outcome S → Type 0
EndsAs {S = S} (Done s done) o = (u : S) × (made : Deeds) × (o ≡ Done u made)
EndsAs {S = S} (Stop f done) o = (made : Deeds) × (o ≡ Stop f made)
EndsAs {S = S} (Waits at c op done) o = (made : Deeds) × (o ≡ Waits at c op made)

-- Turns for some indices, made in a state.
pub record InAnyOrder {S : Type 0} (turn : Index → Run S) (ts : List Index) (s : S) (done : Deeds) : Type 0 where
  -- some of the turns, and one more behind them
  pub faults : (before : List Index) (t : Index) (rest : List Index) (u : S) (made : Deeds) → IsPermutation (before ++ t ∷ rest) ts
      → in_order turn before s done ≡ Done u made → EndsAs (turn t s done) (turn t u made)
  pub leaves : (us : List Index) (u : S) (made : Deeds) → IsPermutation us ts → in_order turn ts s done ≡ Done u made
      → in_order turn us s done ≡ Done u made

-- the turns of a forall with these variables and this body, over a value
abbrev pub turns_by_name : Limits → VariablesTree Text → Value → Body Text → Index → Run State
turns_by_name limits xs over body = named_turn (turn_of by_name xs over (exec_body limits by_name body))

abbrev pub AnyOrder : Limits → VariablesTree Text → Value → Body Text → State → Deeds → Type 0
AnyOrder limits xs over body s done = InAnyOrder (turns_by_name limits xs over body) (indices_in (loop_ranges limits.locales over)) s done
