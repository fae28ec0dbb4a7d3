-- Walks of the forms of statements, whatever is noted and to come: those that hold no other, and loops by their turns.
-- A run by the limits of now is one by those that were at the start.
use Rattle.std.proofs.Common.{◌≡◌, ℕ, zero, suc, ◌-◌, ◌<◌, ℤ, pos, true, List, [], ◌∷◌, None, Result, Ok, Err, refl, sym, ap, ◌∙◌}
use Rattle.std.specs.Prelude.{IfOk}
use Rattle.dpl_syntax.specs.declared.place.Place.{Place}
use Rattle.dpl_history.specs.declared.cell.CellOp.{CellOp}
use Rattle.dpl_language.specs.Tree.{Placed, ExprTree, ItemTree, VariablesTree, OneVariable, ManyVariables, Stmts}
use Rattle.dpl_language.specs.Values.{Value, Int, Truth, truth, Domain, Index, Fault}
use Rattle.dpl_language.specs.Outcome.{Deeds, Outcome, Done, Stop, Waits, Run, with_ok, then_do, in_order, repeated}
use Rattle.dpl_language.specs.Environment.{Limits, Plain}
use Rattle.dpl_language.specs.Phrases.{parts}
use Rattle.dpl_language.specs.Expressions.{value_of}
use Rattle.dpl_language.specs.Ranges.{loop_value}
use Rattle.dpl_language.specs.Loops.{declare_each, bound_to}
use Rattle.dpl_language.specs.Statements.{holds, exec, exec_all}
use Rattle.dpl_words.specs.Words.{IntLeaf}
use Rattle.dpl_memory.specs.Memory.{PlainKind, Variable, Coming, Memory, with_value_in, in_memory}
use Rattle.dpl_standing.specs.Standing.{Standing}
use Rattle.dpl_nodes.specs.declared.step.Names.{Names}
use Rattle.dpl_nodes.specs.declared.step.Step.{Step}
use Rattle.dpl_nodes.specs.Steps.{names_view}
use Rattle.dpl_loop.specs.declared.stop.RunStop.{RunStop}
use Rattle.dpl_loop.specs.Runs.{RunsTo}
use Rattle.dpl_loop.specs.Values.{Gives}
use Rattle.dpl_loop.proofs.Ends.{ends-alike, ends-where}
use Rattle.dpl_readings.specs.Readings.{step_in, steps_in}
use Rattle.dpl_coming.specs.Calm.{AreCalm}
use Rattle.dpl_coming.specs.Noting.{Note, noting}
use Rattle.dpl_coming.specs.Walks.{Site, Outside, InTurn, InTask, Known, with_rest, end_with_rest, Walks, Goes}
use Rattle.dpl_coming.proofs.CalmSteps.{HoldsNone}
use Rattle.dpl_coming.proofs.Unseen.{declare-unseen, value-unseen, item-unseen, exec_all-calm, end_with_rest-done}
use Rattle.dpl_coming.proofs.Walking.{goes-over, goes-then, goes-done, walks-goes, walks-over, walks-halts, walks-calm, walks-same}
use Rattle.dpl_elements.specs.Turns.{in_turn, turn_in_memory, index_turn, bound_at, within, looped_over}
use Rattle.dpl_elements.proofs.Changing.{gives-halts}
use Rattle.dpl_elements.proofs.Branching.{holds-value}
use Rattle.dpl_steps.specs.Noted.{turn_noted, index_noted}
use Rattle.dpl_steps.proofs.CalmForms.{form-calm}
use Rattle.dpl_steps.proofs.Looping.{repeated-step}

-- A STATEMENT of a form that holds no other, where more may be refused
pub walks-form : (note : Note) (may more : Type 0) (site : Site) (waiting : Place → ℕ → CellOp → Type 0) (w : Standing) (limits : Limits) (step form : Step) (r : Result (Unit {0}) RunStop) (o : Known) (s1 s2 : Memory) → (may → more) → step ≡ form
    → HoldsNone form → ((done : Deeds) → RunsTo may r s2 done (exec limits in_memory (step_in w form) s1 done)) → Walks more site waiting r o o s1 s2 (exec limits (noting note) (step_in w step))
walks-form note may more site waiting w limits step form r o s1 s2 go is none ends =
    walks-calm site more waiting limits (step_in w step) r o s1 s2
    (λ done. ends-alike more r s2 done _ _ (ap (λ s. exec limits in_memory (step_in w s) s1 done) is) (ends-where may more r s2 done _ go (ends done)))
    note (form-calm w step form is none)

-- one by the run that it is, in whatever memory
pub walks-as : (may : Type 0) (site : Site) (waiting : Place → ℕ → CellOp → Type 0) (r : Result (Unit {0}) RunStop) (o1 o2 : Known) (s1 s2 : Memory) (a b : Run Memory) → ((m : Memory) (done : Deeds) → a m done ≡ b m done)
    → Walks may site waiting r o1 o2 s1 s2 b → Walks may site waiting r o1 o2 s1 s2 a
walks-as may site waiting r o1 o2 s1 s2 a b same = walks-same site may waiting r o1 o2 s1 s2 a b (λ rest done. same (with_rest site rest s1) done)

-- and one that begins in another memory
pub walks-from : (may : Type 0) (site : Site) (waiting : Place → ℕ → CellOp → Type 0) (r : Result (Unit {0}) RunStop) (o1 o2 : Known) (s1 m1 s2 : Memory) (a b : Run Memory)
    → ((rest : Coming) (done : Deeds) → a (with_rest site rest s1) done ≡ b (with_rest site rest m1) done) → Walks may site waiting r o1 o2 m1 s2 b → Walks may site waiting r o1 o2 s1 s2 a
walks-from may site waiting r o1 o2 s1 m1 s2 a b same k = walks-goes site may waiting r o1 o1 o2 s1 m1 s2 a b (goes-over site o1 s1 m1 a b same) k

-- WHAT IS TO COME is not seen where variables of loops are bound, nor in heads
module _ (site : Site) (rest : Coming) where
  set-unseen : (slot : ℕ) (i : ℤ) (s : Memory) → with_value_in (PlainKind IntLeaf) slot (Int i) (with_rest site rest s) ≡ with_rest site rest (with_value_in (PlainKind IntLeaf) slot (Int i) s)
  set-unseen slot i s = by-site site
    where
      by-site : (site : Site) → with_value_in (PlainKind IntLeaf) slot (Int i) (with_rest site rest s) ≡ with_rest site rest (with_value_in (PlainKind IntLeaf) slot (Int i) s)
      by-site Outside = refl
      by-site InTurn = refl
      by-site InTask = refl

  declare_each-unseen : (xs : List (Placed Variable)) (t : Index) (s : Memory) → declare_each in_memory xs t (with_rest site rest s) ≡ with_rest site rest (declare_each in_memory xs t s)
  declare_each-unseen [] t s = refl
  declare_each-unseen (x ∷ xs) [] s =
      ap (declare_each in_memory xs []) (declare-unseen site rest x.name (Plain (Int (pos 0))) s) ∙ declare_each-unseen xs [] (in_memory.declare x.name (Plain (Int (pos 0))) s)
  declare_each-unseen (x ∷ xs) (i ∷ t) s =
      ap (declare_each in_memory xs t) (declare-unseen site rest x.name (Plain (Int i)) s) ∙ declare_each-unseen xs t (in_memory.declare x.name (Plain (Int i)) s)

  bound_to-unseen : (xs : VariablesTree Variable) (v : Value) (t : Index) (s : Memory) → bound_to in_memory xs v t (with_rest site rest s) ≡ with_rest site rest (bound_to in_memory xs v t s)
  bound_to-unseen (OneVariable x) v t s = declare-unseen site rest x.name (Plain (loop_value v t)) s
  bound_to-unseen (ManyVariables from xs upto) v t s = declare_each-unseen (parts xs) t s

  module _ (limits : Limits) where
    pub looped_over-unseen : (at : Place) (i : ItemTree Variable) (s : Memory) → looped_over limits at i (with_rest site rest s) ≡ looped_over limits at i s
    looped_over-unseen at i s = ap (λ v. with_ok v (within limits at)) (item-unseen limits site rest i None s)

    pub holds-unseen : (e : ExprTree Variable) (s : Memory) → holds limits in_memory e (with_rest site rest s) ≡ holds limits in_memory e s
    holds-unseen e s = ap (λ v. with_ok v (λ v. Ok (truth v))) (value-unseen limits site rest e None s)

    -- a turn begins in the memory in which its variables hold what they do
    module _ (note : Note) (body : Stmts Variable) where
      pub turn-begun : (slot : ℕ) (i : ℤ) (s : Memory) (done : Deeds)
          → turn_noted limits note slot body i (with_rest site rest s) done ≡ exec_all limits (noting note) body (with_rest site rest (with_value_in (PlainKind IntLeaf) slot (Int i) s)) done
      turn-begun slot i s done = ap (λ m. exec_all limits (noting note) body m done) (set-unseen slot i s)

      pub index-begun : (names : Names) (t : Index) (s : Memory) (done : Deeds)
          → index_noted limits note names body t (with_rest site rest s) done ≡ exec_all limits (noting note) body (with_rest site rest (bound_at names t s)) done
      index-begun names t s done = ap (λ m. exec_all limits (noting note) body m done) (bound_to-unseen (names_view names) (Domain []) t s)

  -- TURNS of a calm body
  then_do-unseen : (o : Outcome Memory) (f g : Run Memory) → ((s : Memory) (done : Deeds) → f (with_rest site rest s) done ≡ end_with_rest site rest (g s done)) → then_do (end_with_rest site rest o) f ≡ end_with_rest site rest (then_do o g)
  then_do-unseen o f g same = by-site site o same
    where
      by-site : (site : Site) (o : Outcome Memory) → ((s : Memory) (done : Deeds) → f (with_rest site rest s) done ≡ end_with_rest site rest (g s done)) → then_do (end_with_rest site rest o) f ≡ end_with_rest site rest (then_do o g)
      by-site Outside (Done s done) same = same s done
      by-site InTurn (Done s done) same = same s done
      by-site InTask (Done s done) same = same s done
      by-site Outside (Stop h done) same = refl
      by-site InTurn (Stop h done) same = refl
      by-site InTask (Stop h done) same = refl
      by-site Outside (Waits at c op done) same = refl
      by-site InTurn (Waits at c op done) same = refl
      by-site InTask (Waits at c op done) same = refl

  module _ (limits : Limits) (note : Note) (body : Stmts Variable) (calm : AreCalm body) where
    in_turn-unseen : (slot : ℕ) (is : List ℤ) (s : Memory) (done : Deeds) → in_turn (turn_noted limits note slot body) is (with_rest site rest s) done ≡ end_with_rest site rest (in_turn (turn_in_memory limits slot body) is s done)
    in_turn-unseen slot [] s done = sym (end_with_rest-done site rest s done)
    in_turn-unseen slot (i ∷ is) s done =
        ap (λ o. then_do o (in_turn (turn_noted limits note slot body) is)) (turn-begun limits note body slot i s done ∙ exec_all-calm limits site rest note body _ done calm)
        ∙ then_do-unseen (turn_in_memory limits slot body i s done) _ _ (λ s done. in_turn-unseen slot is s done)

    in_order-unseen : (names : Names) (ts : List Index) (s : Memory) (done : Deeds) → in_order (index_noted limits note names body) ts (with_rest site rest s) done ≡ end_with_rest site rest (in_order (index_turn limits names body) ts s done)
    in_order-unseen names [] s done = sym (end_with_rest-done site rest s done)
    in_order-unseen names (t ∷ ts) s done =
        ap (λ o. then_do o (in_order (index_noted limits note names body) ts)) (index-begun limits note body names t s done ∙ exec_all-calm limits site rest note body _ done calm)
        ∙ then_do-unseen (index_turn limits names body t s done) _ _ (λ s done. in_order-unseen names ts s done)

-- that are made at once, whatever was done by then
pub ok-every : {A B D : Type 0} {P : D → A → Type 0} {Q : A → Type 0} (r : Result A B) → ((d : D) → IfOk r (P d)) → ((x : A) → ((d : D) → P d x) → Q x) → IfOk r Q
ok-every (Ok x) each all = all x each
ok-every (Err e) each all = tt

module _ (limits : Limits) (note : Note) (site : Site) (o : Known) (body : Stmts Variable) (s1 s2 : Memory) (calm : AreCalm body) where
  pub goes-rows : (slot : ℕ) (is js : List ℤ) → ((done : Deeds) → in_turn (turn_in_memory limits slot body) js s2 done ≡ in_turn (turn_in_memory limits slot body) is s1 done)
      → Goes site o o s1 s2 (in_turn (turn_noted limits note slot body) is) (in_turn (turn_noted limits note slot body) js)
  goes-rows slot is js same =
      goes-over site o s1 s2 _ _
      (λ rest done. in_turn-unseen site rest limits note body calm slot is s1 done ∙ ap (end_with_rest site rest) (sym (same done)) ∙ sym (in_turn-unseen site rest limits note body calm slot js s2 done))

  pub goes-domain_rows : (names : Names) (ts us : List Index) → ((done : Deeds) → in_order (index_turn limits names body) us s2 done ≡ in_order (index_turn limits names body) ts s1 done)
      → Goes site o o s1 s2 (in_order (index_noted limits note names body) ts) (in_order (index_noted limits note names body) us)
  goes-domain_rows names ts us same =
      goes-over site o s1 s2 _ _
      (λ rest done. in_order-unseen site rest limits note body calm names ts s1 done ∙ ap (end_with_rest site rest) (sym (same done)) ∙ sym (in_order-unseen site rest limits note body calm names us s2 done))

-- HEADS that stop: of a value that wasn't found
pub walks-unfound : {A B : Type 0} (may more : Type 0) (value : A → B) (site : Site) (waiting : Place → ℕ → CellOp → Type 0) (h : RunStop) (v : Memory → Result B Fault) (o : Known) (s1 s2 : Memory) (a : Run Memory) → (may → more)
    → ((rest : Coming) → v (with_rest site rest s1) ≡ v s1) → ((m : Memory) (done : Deeds) (f : Fault) → v m ≡ Err f → a m done ≡ Stop f done)
    → Gives may value (Err h) (v s1) → Walks more site waiting (Err h) o o s1 s2 a
walks-unfound may more value site waiting h v o s1 s2 a go same faults gives =
    walks-over site more waiting (Err h) o s1 s2 a
    (λ rest done. gives-halts may more value h (v s1) (with_rest site rest s2) done (a (with_rest site rest s1) done) go (λ f is. faults (with_rest site rest s1) done f (same rest ∙ is)) gives)

-- ONE MORE on the way: what a walk by the limits of now has done of what was left
module _ (note : Note) (may : Type 0) (site : Site) (waiting : Place → ℕ → CellOp → Type 0) (limits now : Limits) (same : now ≡ limits) (o0 o1 o2 : Known) (s0 s1 s2 : Memory) (whole : Run Memory) where
  -- a run before what is left
  module _ (run left : Run Memory) (over : Goes site o0 o1 s0 s1 whole (λ m done. then_do (run m done) left)) where
    goes-on : (v : Unit {0}) → Walks may site waiting (Ok v) o1 o2 s1 s2 run → Goes site o0 o2 s0 s2 whole left
    goes-on v k = goes-then site o0 o1 o2 s0 s1 s2 whole _ left over (goes-done site may waiting v o1 o2 s1 s2 run left k)

    halts-there : (h : RunStop) → Walks may site waiting (Err h) o1 o2 s1 s2 run → Walks may site waiting (Err h) o0 o2 s0 s2 whole
    halts-there h k = walks-goes site may waiting (Err h) o0 o1 o2 s0 s1 s2 whole _ over (walks-halts site may waiting h o1 o2 s1 s2 run left k)

  -- a statement of several
  module _ (w : Standing) (ss us : List Step) (s : Step) (at : ss ≡ s ∷ us) (to_here : Goes site o0 o1 s0 s1 whole (exec_all limits (noting note) (steps_in w ss))) where
    over_step : Goes site o0 o1 s0 s1 whole (λ m done. then_do (exec now (noting note) (step_in w s) m done) (exec_all limits (noting note) (steps_in w us)))
    over_step = goes-then site o0 o1 o1 s0 s1 s1 whole _ _ to_here (goes-over site o1 s1 s1 _ _ (λ rest done.
        ap (λ ss. exec_all limits (noting note) (steps_in w ss) (with_rest site rest s1) done) at
        ∙ ap (λ l. then_do (exec l (noting note) (step_in w s) (with_rest site rest s1) done) (exec_all limits (noting note) (steps_in w us))) (sym same)))

    pub goes-next : (v : Unit {0}) → Walks may site waiting (Ok v) o1 o2 s1 s2 (exec now (noting note) (step_in w s)) → Goes site o0 o2 s0 s2 whole (exec_all limits (noting note) (steps_in w us))
    goes-next v k = goes-on _ _ over_step v k

    pub walks-next-halts : (h : RunStop) → Walks may site waiting (Err h) o1 o2 s1 s2 (exec now (noting note) (step_in w s)) → Walks may site waiting (Err h) o0 o2 s0 s2 whole
    walks-next-halts h k = halts-there _ _ over_step h k

  -- a turn of a `while`
  module _ (at : Place) (e : ExprTree Variable) (body : Stmts Variable) (n : ℕ) (some : 0 < n) (holding : value_of now in_memory e None s1 ≡ Ok (Truth true))
      (to_here : Goes site o0 o1 s0 s1 whole (repeated n at (holds limits in_memory e) (exec_all limits (noting note) body))) where
    over_turn : Goes site o0 o1 s0 s1 whole (λ m done. then_do (exec_all now (noting note) body m done) (repeated (n - 1) at (holds limits in_memory e) (exec_all limits (noting note) body)))
    over_turn = goes-then site o0 o1 o1 s0 s1 s1 whole _ _ to_here (goes-over site o1 s1 s1 _ _ (λ rest done.
        repeated-step at (holds limits in_memory e) (exec_all limits (noting note) body) n (with_rest site rest s1) done some
        (holds-unseen site rest limits e s1 ∙ holds-value limits e s1 true (ap (λ l. value_of l in_memory e None s1) (sym same) ∙ holding))
        ∙ ap (λ l. then_do (exec_all l (noting note) body (with_rest site rest s1) done) (repeated (n - 1) at (holds limits in_memory e) (exec_all limits (noting note) body))) (sym same)))

    pub goes-while : (v : Unit {0}) → Walks may site waiting (Ok v) o1 o2 s1 s2 (exec_all now (noting note) body) → Goes site o0 o2 s0 s2 whole (repeated (n - 1) at (holds limits in_memory e) (exec_all limits (noting note) body))
    goes-while v k = goes-on _ _ over_turn v k

    pub walks-while-halts : (h : RunStop) → Walks may site waiting (Err h) o1 o2 s1 s2 (exec_all now (noting note) body) → Walks may site waiting (Err h) o0 o2 s0 s2 whole
    walks-while-halts h k = halts-there _ _ over_turn h k

  -- a turn of a range
  module _ (slot : ℕ) (body : Stmts Variable) (is js : List ℤ) (i : ℤ) (at : is ≡ i ∷ js) (to_here : Goes site o0 o1 s0 s1 whole (in_turn (turn_noted limits note slot body) is)) where
    over_member : Goes site o0 o1 s0 s1 whole (λ m done. then_do (turn_noted now note slot body i m done) (in_turn (turn_noted limits note slot body) js))
    over_member = goes-then site o0 o1 o1 s0 s1 s1 whole _ _ to_here (goes-over site o1 s1 s1 _ _ (λ rest done.
        ap (λ is. in_turn (turn_noted limits note slot body) is (with_rest site rest s1) done) at
        ∙ ap (λ l. then_do (turn_noted l note slot body i (with_rest site rest s1) done) (in_turn (turn_noted limits note slot body) js)) (sym same)))

    pub goes-turn : (v : Unit {0}) → Walks may site waiting (Ok v) o1 o2 s1 s2 (turn_noted now note slot body i) → Goes site o0 o2 s0 s2 whole (in_turn (turn_noted limits note slot body) js)
    goes-turn v k = goes-on _ _ over_member v k

    pub walks-turn-halts : (h : RunStop) → Walks may site waiting (Err h) o1 o2 s1 s2 (turn_noted now note slot body i) → Walks may site waiting (Err h) o0 o2 s0 s2 whole
    walks-turn-halts h k = halts-there _ _ over_member h k

  -- a turn of a domain
  module _ (names : Names) (body : Stmts Variable) (ts us : List Index) (t : Index) (at : ts ≡ t ∷ us) (to_here : Goes site o0 o1 s0 s1 whole (in_order (index_noted limits note names body) ts)) where
    over_index : Goes site o0 o1 s0 s1 whole (λ m done. then_do (index_noted now note names body t m done) (in_order (index_noted limits note names body) us))
    over_index = goes-then site o0 o1 o1 s0 s1 s1 whole _ _ to_here (goes-over site o1 s1 s1 _ _ (λ rest done.
        ap (λ ts. in_order (index_noted limits note names body) ts (with_rest site rest s1) done) at
        ∙ ap (λ l. then_do (index_noted l note names body t (with_rest site rest s1) done) (in_order (index_noted limits note names body) us)) (sym same)))

    pub goes-index : (v : Unit {0}) → Walks may site waiting (Ok v) o1 o2 s1 s2 (index_noted now note names body t) → Goes site o0 o2 s0 s2 whole (in_order (index_noted limits note names body) us)
    goes-index v k = goes-on _ _ over_index v k

    pub walks-index-halts : (h : RunStop) → Walks may site waiting (Err h) o1 o2 s1 s2 (index_noted now note names body t) → Walks may site waiting (Err h) o0 o2 s0 s2 whole
    walks-index-halts h k = halts-there _ _ over_index h k
