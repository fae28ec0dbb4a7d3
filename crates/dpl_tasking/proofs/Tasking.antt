-- A coforall as a walk makes it: its tasks ran together by a history, which is the next of those that were to come.
-- What each task does alone is known for whatever histories are to come to it, so it is known for those that come behind.
use Rattle.std.proofs.Common.{◌≡◌, ℕ, zero, suc, ◌+◌, List, [], ◌∷◌, ◌++◌, length, slice_get, Some, None, Ok, Err, refl, sym, ap, ◌∙◌, subst, append-nil, arith}
use Rattle.dpl_syntax.specs.declared.place.Place.{Place}
use Rattle.dpl_history.specs.declared.cell.CellOp.{CellOp}
use Rattle.dpl_history.specs.declared.cell.CellState.{CellState}
use Rattle.dpl_history.specs.declared.cell.Reply.{Reply}
use Rattle.dpl_history.specs.declared.history.Event.{Event}
use Rattle.dpl_history.specs.Histories.{of_task}
use Rattle.dpl_language.specs.Values.{Index, Fault}
use Rattle.dpl_language.specs.Outcome.{Solo, Entered, Deeds, no_deeds, with_entered, Done, Stop, Run}
use Rattle.dpl_language.specs.Tasks.{solo_of, first_fault, stop_or, solos, tasks_end, tasks_of}
use Rattle.dpl_language.specs.Program.{settled}
use Rattle.dpl_language.specs.Together.{IsTogether}
use Rattle.dpl_memory.specs.Memory.{Variable, Coming, Memory, in_memory, cells_at, with_cells}
use Rattle.dpl_frame.specs.declared.fault.Fault.{Fault as FaultNode}
use Rattle.dpl_frame.specs.Faults.{fault_view}
use Rattle.dpl_loop.specs.declared.stop.RunStop.TheVariants as stop
use Rattle.dpl_cell.specs.Seats.{SeatValue}
use Rattle.dpl_task.specs.declared.end.TaskEnd.{TaskEnd as EndNode}
use Rattle.dpl_task.specs.Ends.{solo, solos_of}
use Rattle.dpl_task.specs.Together.{AllFrom, RanAlone, HaveRunTogether}
use Rattle.dpl_coming.specs.Taken.{with_coming, behind_replies, before, and_then}
use Rattle.dpl_coming.specs.Noting.{Note, noting}
use Rattle.dpl_coming.specs.Walks.{Outside, Known, IsMade, Walks}
use Rattle.dpl_coming.proofs.Taken.{behind_replies-nothing}

-- what the tasks of a coforall are to `dpl_task`: each begins where the coforall stands, and the histories behind its own don't matter
abbrev pub alone_in : (Index → Run Memory) → List Index → Memory → ℕ → List Reply → Solo → Type 0
alone_in turn ts s k rs solo =
    (t : Index) → slice_get ts k ≡ Some t → (hs : List (List Event)) → solo_of (turn t (with_coming (record { replies = Some rs; histories = hs }) s) no_deeds) ≡ solo

module _ (note : Note) (turn : Index → Run Memory) (all : List Index) (s : Memory) (rest : Coming) (h : List Event) where
  abbrev standing : Memory
  standing = with_coming (record { replies = rest.replies; histories = h ∷ rest.histories }) s

  solos-same : (k : ℕ) (ts : List Index) (ends : List EndNode) → length ends ≡ length ts → ((j : ℕ) → slice_get ts j ≡ slice_get all (k + j)) → AllFrom (RanAlone (alone_in turn all s) h) k ends
      → solos (noting note) h turn k ts standing ≡ solos_of h k ends
  solos-same k [] [] same at ran = refl
  solos-same k [] (e ∷ ends) same at ran = absurd (let no : suc (length ends) ≡ zero = same in omega (arith, no))
  solos-same k (t ∷ ts) [] same at ran = absurd (let no : zero ≡ suc (length ts) = same in omega (arith, no))
  solos-same k (t ∷ ts) (e ∷ ends) same at ran =
      let here : k + 0 ≡ k = omega arith in
      let is : slice_get all k ≡ Some t = sym (ap (slice_get all) here) ∙ sym (at 0) in
      let fewer : length ends ≡ length ts = omega (arith, same) in
      ap (λ x. x ∷ solos (noting note) h turn (k + 1) ts standing) (ran.0 t is (h ∷ rest.histories))
      ∙ ap (λ (xs : List Solo). solo (of_task k h) e ∷ xs) (solos-same (k + 1) ts ends fewer (λ j. let next : k + suc j ≡ (k + 1) + j = omega arith in at (suc j) ∙ ap (slice_get all) next) ran.1)

-- the record of a coforall that was entered
abbrev pub entered_as : List CellState → List Event → List EndNode → Entered
entered_as cells h ends = record { cells = cells; tasks = solos_of h 0 ends; history = h }

abbrev pub made_as : Entered → Deeds
made_as e = record no_deeds { entered = e ∷ [] }

module _ (note : Note) (x : Variable) (turn : Index → Run Memory) (ts : List Index) (s : Memory) (tries : ℕ) (ends : List EndNode) (left : List CellState) (count : length ends ≡ length ts)
    (seat : SeatValue) (ran : HaveRunTogether (alone_in turn ts s) tries (cells_at x.cells s) ends seat left) where
  abbrev the_entered : Entered
  the_entered = entered_as (cells_at x.cells s) seat.history ends

  -- the memory behind the coforall
  abbrev pub behind_tasks : Memory
  behind_tasks = record s { cells = with_cells x.cells left s.cells }

  known : (o : Known) → IsMade Outside o (made_as the_entered) o
  known o = (sym (append-nil o.text), (subst (IsTogether the_entered) ran.together.is_legal.1 ran.together, tt), λ more. refl)

  with-made : (done : Deeds) → with_entered the_entered done ≡ and_then done (made_as the_entered)
  with-made done =
      ap (λ t. record { text = t; operations = done.operations; entered = done.entered ++ the_entered ∷ []; loops = done.loops }) (sym (append-nil done.text))
      ∙ ap (λ o. record { text = done.text ++ []; operations = o; entered = done.entered ++ the_entered ∷ []; loops = done.loops }) (sym (append-nil done.operations))
      ∙ ap (λ l. record { text = done.text ++ []; operations = done.operations ++ []; entered = done.entered ++ the_entered ∷ []; loops = l }) (sym (append-nil done.loops))

  module _ (rest : Coming) (done : Deeds) where
    abbrev starts : Memory
    starts = with_coming (before (made_as the_entered) rest) s

    -- the coforall takes this history
    taken : tasks_of (noting note) x turn ts starts done ≡ stop_or (first_fault 0 (solos_of seat.history 0 ends)) (λ s done. Done (in_memory.settle x seat.history s) done) starts (with_entered the_entered done)
    taken =
        ap (λ tasks. tasks_end (noting note) x (cells_at x.cells s) seat.history tasks starts done)
        (solos-same note turn ts s (record { replies = behind_replies [] rest.replies; histories = rest.histories }) seat.history 0 ts ends count (λ j. let same : j ≡ 0 + j = omega arith in ap (slice_get ts) same) ran.each)

    -- where all have ended it goes on, with the cells that the history leaves
    goes-on : first_fault 0 (solos_of seat.history 0 ends) ≡ None → tasks_of (noting note) x turn ts starts done ≡ Done (with_coming rest behind_tasks) (and_then done (made_as the_entered))
    goes-on none =
        taken ∙ ap (λ f. stop_or f (λ s done. Done (in_memory.settle x seat.history s) done) starts (with_entered the_entered done)) none
        ∙ ap (λ cs. Done (record s { cells = with_cells x.cells cs s.cells; coming = record { replies = behind_replies [] rest.replies; histories = rest.histories } }) (with_entered the_entered done)) (sym ran.together.is_legal.1)
        ∙ ap (λ rs. Done (record s { cells = with_cells x.cells left s.cells; coming = record { replies = rs; histories = rest.histories } }) (with_entered the_entered done)) (behind_replies-nothing rest.replies)
        ∙ ap (Done (with_coming rest behind_tasks)) (with-made done)

    -- else it stops with the fault of the lowest task that has one
    stops : (f : Fault) → first_fault 0 (solos_of seat.history 0 ends) ≡ Some f → tasks_of (noting note) x turn ts starts done ≡ Stop f (and_then done (made_as the_entered))
    stops f some =
        taken ∙ ap (λ f. stop_or f (λ s done. Done (in_memory.settle x seat.history s) done) starts (with_entered the_entered done)) some ∙ ap (Stop f) (with-made done)

  -- so it is what a walk outside of tasks makes
  pub walks-tasks : (may : Type 0) (waiting : Place → ℕ → CellOp → Type 0) (o : Known) → first_fault 0 (solos_of seat.history 0 ends) ≡ None → Walks may Outside waiting (Ok tt) o o s behind_tasks (tasks_of (noting note) x turn ts)
  walks-tasks may waiting o none = record { made = made_as the_entered; known = λ told. known o; ends = λ rest done is. ap settled (goes-on rest done none) }

  pub walks-tasks-stopped : (may : Type 0) (waiting : Place → ℕ → CellOp → Type 0) (o : Known) (f : FaultNode) (s2 : Memory) → first_fault 0 (solos_of seat.history 0 ends) ≡ Some (fault_view f) → Walks may Outside waiting (Err (stop.Fault f)) o o s s2 (tasks_of (noting note) x turn ts)
  walks-tasks-stopped may waiting o f s2 some = record { made = made_as the_entered; known = λ told. known o; ends = λ rest done is. ap settled (stops rest done (fault_view f) some) }
