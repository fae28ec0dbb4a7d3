-- Scopes, turns and tasks end alike in environments that agree.
-- What is in sight behind a scope is what was in sight before it, and so a loop's turns may follow one another.
use Rattle.std.proofs.Common.{◌≡◌, ℕ, ◌+◌, pos, List, [], ◌∷◌, refl, sym, ap, ◌∙◌, subst, Ok, None, map}
use Rattle.std.specs.Prelude.{All}
use Rattle.std.proofs.lemmas.List.Elements.{All-head, All-tail}
use Rattle.dpl_history.specs.declared.cell.CellState.{CellState}
use Rattle.dpl_history.specs.declared.history.Event.{Event}
use Rattle.dpl_language.specs.Tree.{Placed, ItemTree, VariablesTree, OneVariable, ManyVariables, StmtTree, Declare, Body, WordBody, BlockBody, Stmts, NoStmts, Then}
use Rattle.dpl_language.specs.Values.{Value, Int, Index}
use Rattle.dpl_language.specs.Ranges.{indices_in, loop_ranges, loop_value}
use Rattle.dpl_language.specs.Outcome.{Solo, no_deeds, with_entered, Done, Run}
use Rattle.dpl_language.specs.Environment.{Plain, Environment, Limits}
use Rattle.dpl_language.specs.Phrases.{parts, first_name}
use Rattle.dpl_language.specs.Declarations.{type_of}
use Rattle.dpl_language.specs.Expressions.{item_of}
use Rattle.dpl_language.specs.Loops.{scoped, declare_each, bound_to, turn_of}
use Rattle.dpl_language.specs.Tasks.{replies_of, solo_of, first_fault, solos, tasks_end, tasks_of}
use Rattle.dpl_agreement.specs.Renamed.{renamed, renamed_variables}
use Rattle.dpl_agreement.specs.Scopes.{Scoping, IsLawful, PlainForm, form_by, add_each, add_variables, inside, fits_each, fits_variables, holds_ints, suits_turns, after, after_all, after_body}
use Rattle.dpl_agreement.specs.Agreement.{Simulates, EndsAlike, RunAlike}
use Rattle.dpl_agreement.proofs.RunsAlike.{All-every, then_do-alike, solo_of-alike, stop_or-alike}
use Rattle.dpl_agreement.proofs.RenamedParts.{parts-mapped}

-- a scope is left as it was entered
module _ {N G : Type 0} (scoping : Scoping N G) (lawful : IsLawful scoping) where
  leave-add_each : (xs : List (Placed N)) (g : G) → scoping.leave (add_each scoping xs g) ≡ scoping.leave g
  leave-add_each [] g = refl
  leave-add_each (x ∷ xs) g = leave-add_each xs (scoping.add x.name PlainForm g) ∙ lawful.leave-add x.name PlainForm g

  leave-add_variables : (xs : VariablesTree N) (g : G) → scoping.leave (add_variables scoping xs g) ≡ scoping.leave g
  leave-add_variables (OneVariable x) g = lawful.leave-add x.name PlainForm g
  leave-add_variables (ManyVariables from xs upto) g = leave-add_each (parts xs) g

  pub leave-after : (t : StmtTree N) (g : G) → scoping.leave (after scoping t g) ≡ scoping.leave g
  leave-after (Declare d) g = lawful.leave-add d.name.name (form_by (type_of d.typed)) g
  leave-after _ g = refl

  leave-after_all : (ts : Stmts N) (g : G) → scoping.leave (after_all scoping ts g) ≡ scoping.leave g
  leave-after_all NoStmts g = refl
  leave-after_all (Then t rest) g = leave-after_all rest (after scoping t g) ∙ leave-after t g

  leave-after_body : (b : Body N) (g : G) → scoping.leave (after_body scoping b g) ≡ scoping.leave g
  leave-after_body (WordBody at t) g = leave-after t g
  leave-after_body (BlockBody from ts upto) g = leave-after_all ts g

  pub leave-after_stmt_in : (t : StmtTree N) (g : G) → scoping.leave (after scoping t (scoping.enter g)) ≡ g
  leave-after_stmt_in t g = leave-after t (scoping.enter g) ∙ lawful.leave-enter g

  pub leave-after_all_in : (ts : Stmts N) (g : G) → scoping.leave (after_all scoping ts (scoping.enter g)) ≡ g
  leave-after_all_in ts g = leave-after_all ts (scoping.enter g) ∙ lawful.leave-enter g

  pub leave-after_body_in : (b : Body N) (g : G) → scoping.leave (after_body scoping b (scoping.enter g)) ≡ g
  leave-after_body_in b g = leave-after_body b (scoping.enter g) ∙ lawful.leave-enter g

  pub leave-variables_in : (xs : VariablesTree N) (g : G) → scoping.leave (add_variables scoping xs (scoping.enter g)) ≡ g
  leave-variables_in xs g = leave-add_variables xs (scoping.enter g) ∙ lawful.leave-enter g

-- a loop's variables may hold what a turn gives them
abbrev pub HoldsTurn : {N G : Type 0} → Scoping N G → VariablesTree N → Value → Index → Type 0
HoldsTurn scoping (OneVariable x) over t = scoping.holds x.name (Plain (loop_value over t))
HoldsTurn scoping (ManyVariables from xs upto) over t = holds_ints scoping (parts xs)

module _ {M N G S1 S2 : Type 0} (limits : Limits) (name : N → M) (scoping : Scoping N G) (first : Environment M S1) (second : Environment N S2) (R : G → S1 → S2 → Type 0) (sim : Simulates limits name scoping first second R) where
  -- a run in a scope of its own
  pub scoped-alike : (g h : G) (a : Run S1) (b : Run S2) → scoping.leave h ≡ g → RunAlike (R (scoping.enter g)) (R h) a b → RunAlike (R g) (R g) (scoped first a) (scoped second b)
  scoped-alike g h a b e p s1 s2 done r =
      then_do-alike (R h) (R g) (a (first.enter s1) done) (b (second.enter s2) done) (λ s done. Done (first.leave s) done) (λ s done. Done (second.leave s) done)
      (p (first.enter s1) (second.enter s2) done (sim.enters g s1 s2 r))
      (λ u1 u2 done q. (second.leave u2, sim.leaves g h s1 s2 u1 u2 r e q, refl))

  declare_each-alike : (xs : List (Placed N)) (t : Index) (g : G) (s1 : S1) (s2 : S2) → R g s1 s2 → fits_each scoping xs g → holds_ints scoping xs
      → R (add_each scoping xs g) (declare_each first (map (renamed name) xs) t s1) (declare_each second xs t s2)
  declare_each-alike [] t g s1 s2 r f h = r
  declare_each-alike (x ∷ xs) [] g s1 s2 r f h =
      declare_each-alike xs [] (scoping.add x.name PlainForm g) _ _ (sim.declares x.name (Plain (Int (pos 0))) g s1 s2 r f.0 (h.0 (pos 0))) f.1 h.1
  declare_each-alike (x ∷ xs) (i ∷ t) g s1 s2 r f h =
      declare_each-alike xs t (scoping.add x.name PlainForm g) _ _ (sim.declares x.name (Plain (Int i)) g s1 s2 r f.0 (h.0 i)) f.1 h.1

  bound_to-alike : (xs : VariablesTree N) (over : Value) (t : Index) (g : G) (s1 : S1) (s2 : S2) → R g s1 s2 → fits_variables scoping xs g → HoldsTurn scoping xs over t
      → R (add_variables scoping xs g) (bound_to first (renamed_variables name xs) over t s1) (bound_to second xs over t s2)
  bound_to-alike (OneVariable x) over t g s1 s2 r f h = sim.declares x.name (Plain (loop_value over t)) g s1 s2 r f h
  bound_to-alike (ManyVariables from xs upto) over t g s1 s2 r f h =
      subst (λ ys. R (add_each scoping (parts xs) g) (declare_each first ys t s1) (declare_each second (parts xs) t s2)) (sym (parts-mapped (renamed name) xs))
      (declare_each-alike (parts xs) t g s1 s2 r f h)

  pub turns-held : (xs : VariablesTree N) (item : ItemTree N) (over : Value) (g : G) (s1 : S1) (s2 : S2) → R g s1 s2 → suits_turns scoping xs item g
      → item_of limits second item None s2 ≡ Ok over → All (λ t. HoldsTurn scoping xs over t) (indices_in (loop_ranges limits.locales over))
  turns-held (OneVariable x) item over g s1 s2 r f e = sim.turned x.name item over g s1 s2 r f e
  turns-held (ManyVariables from xs upto) item over g s1 s2 r f e =
      All-every (λ t. holds_ints scoping (parts xs)) (λ t. f) (indices_in (loop_ranges limits.locales over))

  -- a turn
  pub turn_of-alike : (xs : VariablesTree N) (over : Value) (g h : G) (a : Run S1) (b : Run S2) → fits_variables scoping xs (scoping.enter g)
      → scoping.leave h ≡ add_variables scoping xs (scoping.enter g) → RunAlike (R (inside scoping xs g)) (R h) a b
      → (t : Index) → HoldsTurn scoping xs over t → RunAlike (R g) (R g) (turn_of first (renamed_variables name xs) over a t) (turn_of second xs over b t)
  turn_of-alike xs over g h a b f e p t held =
      scoped-alike g (add_variables scoping xs (scoping.enter g)) _ _ (leave-variables_in scoping sim.lawful xs g)
      (λ s1 s2 done r. scoped-alike (add_variables scoping xs (scoping.enter g)) h a b e p
      (bound_to first (renamed_variables name xs) over t s1) (bound_to second xs over t s2) done (bound_to-alike xs over t (scoping.enter g) s1 s2 r f held))

  -- each task by itself does the same, so the same fault or none comes of them all
  solos-alike : (x : N) (h : List Event) (g k : G) (a : Index → Run S1) (b : Index → Run S2) (n : ℕ) (ts : List Index) (s1 : S1) (s2 : S2) → R g s1 s2 → scoping.coforalls x g
      → All (λ t. RunAlike (R (scoping.begin g)) (R k) (a t) (b t)) ts → solos first h a n ts s1 ≡ solos second h b n ts s2
  solos-alike x h g k a b n [] s1 s2 r c p = refl
  solos-alike x h g k a b n (t ∷ ts) s1 s2 r c p =
      ap (λ (x : Solo). x ∷ solos first h a (n + 1) ts s1)
      (solo_of-alike (R k) (a t (first.begin (replies_of n h) s1) no_deeds) (b t (second.begin (replies_of n h) s2) no_deeds)
      (All-head (λ t. RunAlike (R (scoping.begin g)) (R k) (a t) (b t)) t ts p (first.begin (replies_of n h) s1) (second.begin (replies_of n h) s2) no_deeds (sim.begins x (replies_of n h) g s1 s2 r c)))
      ∙ ap (λ xs. solo_of (b t (second.begin (replies_of n h) s2) no_deeds) ∷ xs)
      (solos-alike x h g k a b (n + 1) ts s1 s2 r c (All-tail (λ t. RunAlike (R (scoping.begin g)) (R k) (a t) (b t)) t ts p))

  tasks_end-alike : (x : N) (cs : List CellState) (h : List Event) (tasks : List Solo) (g : G) → scoping.coforalls x g → RunAlike (R g) (R g) (tasks_end first (name x) cs h tasks) (tasks_end second x cs h tasks)
  tasks_end-alike x cs h tasks g c s1 s2 done r =
      stop_or-alike (first_fault 0 tasks) (R g) (R g) (λ s done. Done (first.settle (name x) h s) done) (λ s done. Done (second.settle x h s) done)
      (λ s1 s2 done r. (second.settle x h s2, sim.settles x h g s1 s2 r c, refl)) s1 s2 (with_entered (record { cells = cs; tasks = tasks; history = h }) done) r

  tasks_of-alike : (x : N) (g k : G) (a : Index → Run S1) (b : Index → Run S2) (ts : List Index) → scoping.coforalls x g → All (λ t. RunAlike (R (scoping.begin g)) (R k) (a t) (b t)) ts
      → RunAlike (R g) (R g) (tasks_of first (name x) a ts) (tasks_of second x b ts)
  tasks_of-alike x g k a b ts c p s1 s2 done r =
      subst (λ o. EndsAlike (R g) (tasks_of first (name x) a ts s1 done) o)
      (ap (λ cs. tasks_end second x cs (first.history s1) (solos first (first.history s1) a 0 ts s1) s2 done) (sim.cells x g s1 s2 r c)
      ∙ ap (λ tasks. tasks_end second x (second.cells x s2) (first.history s1) tasks s2 done) (solos-alike x (first.history s1) g k a b 0 ts s1 s2 r c p)
      ∙ ap (λ h. tasks_end second x (second.cells x s2) h (solos second h b 0 ts s2) s2 done) (sim.histories x g s1 s2 r c))
      (tasks_end-alike x (first.cells (name x) s1) (first.history s1) (solos first (first.history s1) a 0 ts s1) g c s1 s2 done r)

  -- the same by the first of a loop's variables
  pub coforall-alike : (xs : VariablesTree N) (g k : G) (a : Index → Run S1) (b : Index → Run S2) (ts : List Index) → scoping.coforalls (first_name xs) g
      → All (λ t. RunAlike (R (scoping.begin g)) (R k) (a t) (b t)) ts → RunAlike (R g) (R g) (tasks_of first (first_name (renamed_variables name xs)) a ts) (tasks_of second (first_name xs) b ts)
  coforall-alike (OneVariable x) g k a b ts c p = tasks_of-alike x.name g k a b ts c p
  coforall-alike (ManyVariables from xs upto) g k a b ts c p = tasks_of-alike xs.first.name g k a b ts c p
