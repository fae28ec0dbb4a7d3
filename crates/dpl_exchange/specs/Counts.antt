-- How many elements the foralls of a run read that other locales own.
-- The run's record says which foralls were entered, over which domain, and what each name was then; the text says what a
-- forall writes, and which arrays it reads at its own index moved by numbers.
use Rattle.std.specs.Prelude.{ℕ, ◌%◌, ◌^◌, nat_lt, if◌then◌else◌, List, [], ◌∷◌, length, sum_by, Option, Some, None}
use Rattle.dpl_sets.specs.TextDomains.{values_of}
use Rattle.dpl_sets.specs.declared.subscript.Subscript.{Subscript}
use Rattle.dpl_history.specs.declared.history.Event.{Event}
use Rattle.dpl_map.specs.Maps.{AxisValue, whole_map, locales}
use Rattle.dpl_array.specs.Arrays.{ArrayValue, filled_array, counted}
use Rattle.dpl_halo.specs.Halos.{remote}
use Rattle.dpl_layout.specs.Layouts.{LayoutValue}
use Rattle.dpl_frame.specs.Roots.{map_of_root}
use Rattle.dpl_language.specs.Tree.{ProgramTree}
use Rattle.dpl_language.specs.Values.{Value, ranges_in}
use Rattle.dpl_language.specs.Ranges.{size_in}
use Rattle.dpl_language.specs.Outcome.{LoopRun, Deeds, no_deeds}
use Rattle.dpl_language.specs.Environment.{Limits}
use Rattle.dpl_language.specs.Names.{Text, recording}
use Rattle.dpl_language.specs.Roots.{derived_item}
use Rattle.dpl_language.specs.Statements.{exec_all}
use Rattle.dpl_language.specs.Program.{first_state, deeds_of}
use Rattle.dpl_rules.specs.Types.{Origin, same_origin}
use Rattle.dpl_rules.specs.Bodies.{is_in, written_arrays}
use Rattle.dpl_rules.specs.Foralls.{ForallIn, scope_in, deeds_in, all_foralls}
use Rattle.dpl_rules.specs.Shifts.{shifted_reads}
use Rattle.dpl_rules.specs.Breaches.{same_place, top}

-- ---- what a forall's text reads at its own index moved by numbers
-- the arrays of some reads, each once
abbrev pub arrays_read : List (Origin × List Subscript) → List Origin
arrays_read [] = []
arrays_read (r ∷ rs) = if is_in r.0 (arrays_read rs) then arrays_read rs else r.0 ∷ arrays_read rs

-- the reads of one of them
abbrev pub reads_of : Origin → List (Origin × List Subscript) → List (List Subscript)
reads_of o [] = []
reads_of o (r ∷ rs) = if same_origin o r.0 then r.1 ∷ reads_of o rs else reads_of o rs

-- ---- a forall that was entered
module _ (layout : LayoutValue) (l : LoopRun) where
  -- by which map the domain or array of a name is dealt out
  abbrev pub name_map : Text → List AxisValue
  name_map x = map_of_root layout (l.root x)

  -- Who makes a turn: the owner of its index by the map of the array that the text writes first; where it writes none, by
  -- that of the name from which the loop's domain is derived; else locale 0.
  abbrev pub turns_map : List Origin → Option Text → List AxisValue
  turns_map (o ∷ os) over = name_map o.name
  turns_map [] (Some x) = name_map x
  turns_map [] None = whole_map

  -- an array as it was, whatever its values
  abbrev pub array_named : Text → ArrayValue (Unit {0})
  array_named x = filled_array (values_of (ranges_in (l.value x))) (name_map x) tt

  -- its remote elements, of each locale that makes turns
  abbrev pub array_count : List AxisValue → List (Origin × List Subscript) → Origin → ℕ
  array_count turns reads o =
      sum_by (λ locale. length (remote (array_named o.name) (values_of l.over) turns locale (reads_of o reads)))
      (counted 0 (locales turns))

  abbrev pub forall_count : ForallIn → ℕ
  forall_count f =
      sum_by (array_count (turns_map (written_arrays (scope_in f) (deeds_in f)) (derived_item f.over)) (shifted_reads (scope_in f) (deeds_in f)))
      (arrays_read (shifted_reads (scope_in f) (deeds_in f)))

  -- the forall that stands at the place
  abbrev pub count_among : List ForallIn → ℕ
  count_among [] = 0
  count_among (f ∷ fs) = if same_place l.at f.at then forall_count f else count_among fs

-- ---- a run: a forall past its budget makes no turn, and so it reads nothing
abbrev pub loop_count : LayoutValue → Limits → List ForallIn → LoopRun → ℕ
loop_count layout limits fs l = if nat_lt limits.budget (size_in l.over) then 0 else count_among layout l fs

-- The sum over the foralls that were entered, whether the run then ended or a fault stopped it. Reductions, and assignments
-- to whole arrays, count nothing.
abbrev pub remote_count : LayoutValue → Limits → ProgramTree Text → Deeds → ℕ
remote_count layout limits t done = sum_by (loop_count layout limits (all_foralls top t.stmts)) done.loops % 2 ^ 64

-- all that a program's run does, with a record of its foralls
abbrev pub recorded : ProgramTree Text → List (Text × Value) → Limits → List (List Event) → Deeds
recorded t sets limits histories = deeds_of (exec_all limits recording t.stmts (first_state sets histories) no_deeds)
