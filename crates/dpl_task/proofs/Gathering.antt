-- The tasks that one seat has taken in ran together with its history.
-- The gatherer did nothing itself, so all events are of the tasks; what the seat knows of each task makes its part.
use Rattle.std.proofs.Common.{◌≡◌, ℕ, zero, suc, ◌+◌, ◌<◌, ◌≤◌, List, [], ◌∷◌, ◌++◌, length, drop, All, Bool, cond, refl, sym, ap, ◌∙◌, subst, arith, eq-eqb, ne_eqb}
use Rattle.std.specs.Prelude.{Contains}
use Rattle.std.proofs.lemmas.List.Elements.{All-head, All-tail, All-nil, All-cons, All-contains, All-weaker, Contains-append_right}
use mathlib.Core.Logic.{dite}
use native.Mathlib.Decide.{ℕ_discrete}
use Rattle.dpl_history.specs.declared.cell.CellState.{CellState}
use Rattle.dpl_history.specs.declared.cell.CellOp.{CellOp}
use Rattle.dpl_history.specs.declared.cell.Reply.{Reply}
use Rattle.dpl_history.specs.declared.history.Event.{Event}
use Rattle.dpl_history.specs.declared.history.Miss.{Miss}
use Rattle.dpl_history.specs.Histories.{legal, of_task, AllUpTo}
use Rattle.dpl_history.specs.Looks.{Agrees, miss}
use Rattle.dpl_language.specs.Outcome.{Solo}
use Rattle.dpl_language.specs.Together.{HasWaited, HasRun, AllHaveRun}
use Rattle.dpl_cell.specs.Seats.{BoardValue, SeatValue, fresh_seat}
use Rattle.dpl_cell.specs.Calls.{IsMissAt}
use Rattle.dpl_cell.proofs.Numbers.{Has-head}
use Rattle.dpl_task.specs.declared.end.TaskEnd.{TaskEnd as EndNode}
use Rattle.dpl_task.specs.declared.end.TaskEnd.TheVariants as end
use Rattle.dpl_task.specs.Ends.{solo, solos_of}
use Rattle.dpl_task.specs.Together.{AllFrom, RanAlone, IsLateMiss, HasWaitedFor, HasMissed, HaveRunTogether}
use Rattle.dpl_task.specs.Levels.{KnowsMisses, HasWaitedSo, HasEnded, HaveRun}
use Rattle.dpl_task.proofs.Levels.{AllFrom-weaker}

no_cons : (e : Event) (es : List Event) → e ∷ es ≡ [] → ⊥
no_cons e es q = cc

of_task-append : (k : ℕ) (es fs : List Event) → of_task k (es ++ fs) ≡ of_task k es ++ of_task k fs
of_task-append k [] fs = refl
of_task-append k (e ∷ es) fs = dite (ℕ_discrete e.task k)
    (λ q. ap (λ (b : Bool). cond b (e ∷ of_task k (es ++ fs)) (of_task k (es ++ fs))) (eq-eqb e.task k q) ∙ ap (λ l. e ∷ l) (of_task-append k es fs) ∙ ap (λ (b : Bool). cond b (e ∷ of_task k es) (of_task k es) ++ of_task k fs) (sym (eq-eqb e.task k q)))
    (λ ne. ap (λ (b : Bool). cond b (e ∷ of_task k (es ++ fs)) (of_task k (es ++ fs))) (ne_eqb e.task k ne) ∙ of_task-append k es fs ∙ ap (λ (b : Bool). cond b (e ∷ of_task k es) (of_task k es) ++ of_task k fs) (sym (ne_eqb e.task k ne)))

more-none : (xs ys : List Event) → xs ++ ys ≡ xs → ys ≡ []
more-none [] ys q = q
more-none (x ∷ xs) ys q = more-none xs ys (let p : x ∷ (xs ++ ys) ≡ x ∷ xs = q in cc)

none_of-drop : (k p : ℕ) (es : List Event) → of_task k es ≡ [] → of_task k (drop p es) ≡ []
none_of-drop k zero es q = q
none_of-drop k (suc p) [] q = refl
none_of-drop k (suc p) (e ∷ es) q = dite (ℕ_discrete e.task k)
    (λ is. absurd (no_cons e (of_task k es) (sym (ap (λ (b : Bool). cond b (e ∷ of_task k es) (of_task k es)) (eq-eqb e.task k is)) ∙ q)))
    (λ ne. none_of-drop k p es (sym (ap (λ (b : Bool). cond b (e ∷ of_task k es) (of_task k es)) (ne_eqb e.task k ne)) ∙ q))

none-behind : (k p : ℕ) (front rest : List Event) → length front ≤ p → of_task k rest ≡ [] → of_task k (drop p (front ++ rest)) ≡ []
none-behind k p [] rest l q = none_of-drop k p rest q
none-behind k zero (e ∷ front) rest l q = absurd (omega arith)
none-behind k (suc p) (e ∷ front) rest l q = none-behind k p front rest (omega arith) q

-- where a number has no event
others-alone : (n : ℕ) (es : List Event) → All (λ e. e.task ≤ n) es → of_task n es ≡ [] → All (λ e. e.task < n) es
others-alone n [] up q = All-nil (λ (e : Event). e.task < n)
others-alone n (e ∷ es) up q = let low = All-head (λ (e : Event). e.task ≤ n) e es up in dite (ℕ_discrete e.task n)
    (λ is. absurd (no_cons e (of_task n es) (sym (ap (λ (b : Bool). cond b (e ∷ of_task n es) (of_task n es)) (eq-eqb e.task n is)) ∙ q)))
    (λ ne. All-cons (λ (e : Event). e.task < n) e es (omega arith) (others-alone n es (All-tail (λ (e : Event). e.task ≤ n) e es up) (sym (ap (λ (b : Bool). cond b (e ∷ of_task n es) (of_task n es)) (ne_eqb e.task n ne)) ∙ q)))

module _ (u : SeatValue) where
  is_late : (tries k c : ℕ) (op : CellOp) (q : KnowsMisses tries k c op u) (m : Miss) → IsMissAt k c op (length q.front) q.high m → IsLateMiss u.history k c op m
  is_late tries k c op q m a =
      let rest : List Event = q.begins.0 in
      let none : of_task k rest ≡ [] = more-none (of_task k q.front) (of_task k rest) (sym (of_task-append k q.front rest) ∙ ap (of_task k) (sym q.begins.1) ∙ q.quiet) in
      record {
        task = a.task;
        cell = a.cell_is;
        late = ap (λ es. of_task k (drop m.place es)) q.begins.1 ∙ none-behind k m.place q.front rest a.since none;
        unfit = a.unfit;
      }

  waited_for : (tries k c : ℕ) (op : CellOp) → KnowsMisses tries k c op u → HasWaitedFor tries u.misses u.history k c op
  waited_for tries k c op q = record {
    before = q.before;
    late = q.misses;
    behind = q.behind;
    among = q.among;
    count = q.count;
    each = All-weaker (IsMissAt k c op (length q.front) q.high) (IsLateMiss u.history k c op) (is_late tries k c op q) q.misses q.each;
  }

  has_missed : (tries k : ℕ) (e : EndNode) → HasWaitedSo tries u k e → HasMissed tries u.misses u.history k e
  has_missed tries k end.Ended q = tt
  has_missed tries k (end.Faulted f) q = tt
  has_missed tries k (end.Waiting at c op) q = waited_for tries k c op q

module _ (u : SeatValue) (cells : List CellState) (agree : All (Agrees cells u.history) u.misses) where
  -- any of the late looks is one by which the task has waited
  waited-by : (k c : ℕ) (op : CellOp) (before late behind : List Miss) → u.misses ≡ before ++ (late ++ behind) → 0 < length late → All (IsLateMiss u.history k c op) late
      → HasWaited cells u.history k c op
  waited-by k c op before [] behind among some all = absurd (omega arith)
  waited-by k c op before (m ∷ ms) behind among some all =
      let q = All-head (IsLateMiss u.history k c op) m ms all in
      let here : Contains (m ∷ (ms ++ behind)) m = (0, omega arith, refl) in
      let there : Contains u.misses m = subst (λ (l : List Miss). Contains l m) (sym among) (Contains-append_right before (m ∷ (ms ++ behind)) m here) in
      let agrees : Agrees cells u.history m = All-contains (Agrees cells u.history) u.misses m agree there in
      record {
        place = m.place;
        word = m.word;
        after_its_last = q.late;
        agrees = subst (λ (j : ℕ). Agrees cells u.history (miss j m.place c m.word)) q.task (subst (λ (d : ℕ). Agrees cells u.history (miss m.task m.place d m.word)) q.cell agrees);
        unfit = q.unfit;
      }

  has_run : (tries k : ℕ) (e : EndNode) → 0 < tries → HasWaitedSo tries u k e → HasRun cells u.history k (solo (of_task k u.history) e)
  has_run tries k end.Ended some q = record { operations = refl; end = tt }
  has_run tries k (end.Faulted f) some q = record { operations = refl; end = tt }
  has_run tries k (end.Waiting at c op) some q =
      let w : HasWaitedFor tries u.misses u.history k c op = waited_for u tries k c op q in record {
        operations = refl;
        end = waited-by k c op w.before w.late w.behind w.among (let n = w.count in omega arith) w.each;
      }

  all_have_run : (alone : ℕ → List Reply → Solo → Type 0) (tries k : ℕ) (ends : List EndNode) → 0 < tries → AllFrom (HasEnded alone tries u) k ends → AllHaveRun cells u.history k (solos_of u.history k ends)
  all_have_run alone tries k [] some all = tt
  all_have_run alone tries k (e ∷ ends) some all = (has_run tries k e some all.0.1, all_have_run alone tries (k + 1) ends some all.1)

solos_of-count : (h : List Event) (k : ℕ) (ends : List EndNode) → length (solos_of h k ends) ≡ length ends
solos_of-count h k [] = refl
solos_of-count h k (e ∷ ends) = ap (λ (m : ℕ). suc m) (solos_of-count h (k + 1) ends)

pub run_together : (b : BoardValue) (alone : ℕ → List Reply → Solo → Type 0) (tries : ℕ) (u : SeatValue) (ends : List EndNode) (left : List CellState) → 0 < tries
    → HaveRun b alone tries b.tasks (fresh_seat b b.tasks) u ends → legal b.opening u.history left → AllUpTo b.tasks u.history → All (Agrees b.opening u.history) u.misses
    → HaveRunTogether alone tries b.opening ends u left
run_together b alone tries u ends left some h law up agree =
    let n : ℕ = length ends in
    let upto : 0 + length ends ≤ n = omega arith in
    let count : b.tasks ≡ length (solos_of u.history 0 ends) = sym h.count ∙ sym (solos_of-count u.history 0 ends) in
    record {
      together = record {
        is_legal = law;
        of_its_tasks = subst (λ (m : ℕ). All (λ (v : Event). v.task < m) u.history) count (others-alone b.tasks u.history up (h.before b.tasks (Has-head b.tasks [])).1);
        each = all_have_run u b.opening agree alone tries 0 ends some h.each;
      };
      each = AllFrom-weaker (HasEnded alone tries u) (RanAlone alone u.history) 0 n ends upto (λ k e l q. q.0) h.each;
      looks = agree;
      missed = AllFrom-weaker (HasEnded alone tries u) (HasMissed tries u.misses u.history) 0 n ends upto (λ k e l q. has_missed u tries k e q.1) h.each;
    }
