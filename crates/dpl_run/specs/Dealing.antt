-- By which map a run deals out the turns of a forall that it enters, and by which the definition does.
-- A run goes by the slots of the tree that runs, in the memory as the forall is entered; the definition by the names of the text, and by
-- what each name was then.
use Rattle.std.specs.Prelude.{◌≡◌, ◌⊎◌, ℕ, List, [], ◌∷◌}
use Rattle.dpl_history.specs.declared.history.Event.{Event}
use Rattle.dpl_map.specs.Maps.{AxisValue}
use Rattle.dpl_layout.specs.Layouts.{LayoutValue}
use Rattle.dpl_language.specs.Tree.{ProgramTree}
use Rattle.dpl_language.specs.Environment.{Limits}
use Rattle.dpl_language.specs.Outcome.{LoopRun, no_deeds}
use Rattle.dpl_language.specs.Names.{Text, State, by_name}
use Rattle.dpl_language.specs.Program.{first_state}
use Rattle.dpl_language.specs.Roots.{derived_item}
use Rattle.dpl_rules.specs.Sights.{Scopes}
use Rattle.dpl_rules.specs.Breaches.{top}
use Rattle.dpl_rules.specs.Bodies.{written_arrays}
use Rattle.dpl_rules.specs.Foralls.{ForallIn, scope_in, deeds_in, all_foralls}
use Rattle.dpl_memory.specs.Memory.{Variable, Memory, in_memory}
use Rattle.dpl_memory.specs.Resolved.{first_memory}
use Rattle.dpl_standing.specs.Standing.{Outside}
use Rattle.dpl_standing.specs.Written.{first_in_body}
use Rattle.dpl_readings.specs.Readings.{steps_in}
use Rattle.dpl_readings.specs.Written.{slot_of}
use Rattle.dpl_nodes.specs.declared.step.Step.{Step}
use Rattle.dpl_nodes.specs.Roots.{slot_by}
use Rattle.dpl_says.specs.Given.{given}
use Rattle.dpl_frame.specs.Dealt.{dealt_by}
use Rattle.dpl_exchange.specs.Counts.{turns_map, forall_count, count_among, recorded}
use Rattle.dpl_run.specs.Entered.{Entry, entered_all, Pairwise}
use Rattle.dpl_run.specs.Recorded.{loop_of}
use Rattle.dpl_run.specs.Plans.{start_of}

-- one of some things
abbrev pub IsAmong : {A : Type 0} → A → List A → Type 0
IsAmong x [] = ⊥
IsAmong x (y ∷ ys) = (x ≡ y) ⊎ IsAmong x ys

-- a run's map, of a frame with this memory: what the turns of a forall are dealt out by (`dealt` of dpl_program)
abbrev pub run_map : LayoutValue → Limits → Entry Variable Memory → List AxisValue
run_map layout limits e =
    dealt_by (record { memory = e.state; limits = limits; layout = layout }) (slot_by (derived_item e.over)) (first_in_body slot_of e.body)

-- the definition's map of its turns, by what the rules have its body write where it stands in the text: of a forall on record, and of one that is entered
abbrev pub counted_map : LayoutValue → ForallIn → LoopRun → List AxisValue
counted_map layout f l = turns_map layout l (written_arrays (scope_in f) (deeds_in f)) (derived_item f.over)

abbrev pub meant_map : LayoutValue → ForallIn → Entry Text State → List AxisValue
meant_map layout f e = counted_map layout f (loop_of e)

-- A forall that both enter: it is one of the text's, over the same domain, and the run deals out its turns by the definition's map.
pub record IsDealtAlike (layout : LayoutValue) (limits : Limits) (fs : List ForallIn) (e : Entry Text State) (r : Entry Variable Memory) : Type 0 where
  pub forall : ForallIn
  pub among : IsAmong forall fs
  pub at : e.at ≡ forall.at
  pub at_run : r.at ≡ forall.at
  pub over : e.over ≡ forall.over
  pub ranges : e.ranges ≡ r.ranges
  pub map : run_map layout limits r ≡ meant_map layout forall e

-- A plan of a program, run from the memory with what the sets give: however locales are laid out, and whatever is to come to the program's run
-- by names, both enter the same foralls, one after another, and the run deals out the turns of each by the definition's map.
abbrev pub DealsAsMeant : ProgramTree Text → List (List ℕ) → Limits → ℕ → Scopes → List Step → Type 0
DealsAsMeant t sets limits slots scopes steps =
    (layout : LayoutValue) (histories : List (List Event))
    → Pairwise (IsDealtAlike layout limits (all_foralls top t.stmts)) (entered_all limits by_name t.stmts (first_state (given t sets) histories) no_deeds)
    (entered_all limits in_memory (steps_in Outside steps) (first_memory (start_of slots scopes sets)) no_deeds)

-- The same of a forall on record: by that map it is counted which elements its turns read that other locales own, and the count takes this forall
-- of those of the text, of which no other one stands there.
pub record IsDealtAsCounted (layout : LayoutValue) (limits : Limits) (fs : List ForallIn) (l : LoopRun) (r : Entry Variable Memory) : Type 0 where
  pub forall : ForallIn
  pub among : IsAmong forall fs
  pub at : l.at ≡ forall.at
  pub at_run : r.at ≡ forall.at
  pub ranges : l.over ≡ r.ranges
  pub map : run_map layout limits r ≡ counted_map layout forall l
  pub counted : count_among layout l fs ≡ forall_count layout l forall

-- and of all foralls on the record of the program's run by names, over which the count goes
abbrev pub DealsAsCounted : ProgramTree Text → List (List ℕ) → Limits → ℕ → Scopes → List Step → Type 0
DealsAsCounted t sets limits slots scopes steps =
    (layout : LayoutValue) (histories : List (List Event))
    → Pairwise (IsDealtAsCounted layout limits (all_foralls top t.stmts)) (recorded t (given t sets) limits histories).loops
    (entered_all limits in_memory (steps_in Outside steps) (first_memory (start_of slots scopes sets)) no_deeds)
