-- What a declaration and an assignment do, by the memory that they leave.
-- Each lemma has the meaning of the plain statement on its left side.
use Rattle.std.proofs.Common.{◌≡◌, ℕ, Option, Some, None, Result, Ok, Err, refl, sym, ap, ◌∙◌}
use Rattle.dpl_syntax.specs.declared.place.Place.{Place}
use Rattle.dpl_language.specs.Tree.{Assign, Set, SetAdd, SetSubtract, SetMultiply, SetDivide, SetRemainder, SetReduce, ItemTree, InitialTree}
use Rattle.dpl_language.specs.Values.{Value, Fault, is_domain}
use Rattle.dpl_language.specs.Arithmetic.{assign_divides, tested_divisor}
use Rattle.dpl_language.specs.Outcome.{Deeds, Outcome, Done, Stop, Waits, Run, with_ok, with_value, then_do}
use Rattle.dpl_language.specs.Environment.{Limits, Plain}
use Rattle.dpl_language.specs.Phrases.{item_read}
use Rattle.dpl_language.specs.Expressions.{item_of}
use Rattle.dpl_language.specs.Assignments.{read_or, evaluated, assign_name}
use Rattle.dpl_language.specs.Declarations.{given_or, declare_typed}
use Rattle.dpl_language.specs.Roots.{deal_domain}
use Rattle.dpl_language.specs.Statements.{exec}
use Rattle.dpl_lowered.specs.Shapes.{nowhere}
use Rattle.dpl_lowered.specs.LoweredStatements.{written_initial}
use Rattle.dpl_words.specs.Words.{LeafKind, IntLeaf, TruthLeaf, value_at}
use Rattle.dpl_memory.specs.Memory.{PlainKind, Variable, Memory, variable, int_leaf, in_memory}
use Rattle.dpl_memory.proofs.Known.{memory-known}
use Rattle.dpl_nodes.specs.declared.step.IntDeed.{IntDeed}
use Rattle.dpl_nodes.specs.declared.step.IntDeed.TheVariants as deeds
use Rattle.dpl_nodes.specs.declared.step.TruthDeed.{TruthDeed}
use Rattle.dpl_nodes.specs.declared.step.TruthDeed.TheVariants as deed
use Rattle.dpl_nodes.specs.Steps.{unplaced_leaf, declared_as, assigned_to, int_changed, truth_changed}
use Rattle.dpl_loop.specs.declared.stop.RunStop.{RunStop}
use Rattle.dpl_loop.specs.declared.stop.RunStop.TheVariants as stop
use Rattle.dpl_frame.specs.Faults.{fault_view}
use Rattle.dpl_loop.specs.Runs.{RunsTo}
use Rattle.dpl_loop.specs.Values.{Gives}
use Rattle.dpl_loop.specs.Tells.{IsFault, TellsSame}
use Rattle.dpl_elements.specs.Changes.{declared_memory, given_memory, assigned_memory, int_changed_by, int_memory, truth_memory, memory_after, ends_as}

-- what is evaluated ends the run early: by its fault, as the meaning does, or where an entry was refused
pub gives-halts : {A B : Type 0} (may more : Type 0) (value : A → B) (h : RunStop) (v : Result B Fault) (s : Memory) (done : Deeds) (o : Outcome Memory)
    → (may → more) → ((f : Fault) → v ≡ Err f → o ≡ Stop f done) → Gives may value (Err h) v → RunsTo more (Err h) s done o
gives-halts may more value (stop.Fault f) v s done o go faults gives = faults (fault_view f) gives
gives-halts may more value stop.Memory v s done o go faults gives = tt
gives-halts may more value stop.Thread v s done o go faults gives = tt
gives-halts may more value stop.Gate v s done o go faults gives = go gives

-- a fault that is told
pub fault-gives : {A B : Type 0} (may : Type 0) (value : A → B) (f : Fault) (h : RunStop) (v : Result B Fault) → IsFault f h → v ≡ Err f → Gives may value (Err h) v
fault-gives may value f (stop.Fault g) v is e = e ∙ ap Err (sym is)
fault-gives may value f stop.Memory v is e = absurd is
fault-gives may value f stop.Thread v is e = absurd is
fault-gives may value f stop.Gate v is e = absurd is

-- a change ends the run as the memory after it does
pub gives-ends : (may : Type 0) (r : Result (Unit {0}) RunStop) (s : Memory) (done : Deeds) (m : Result Memory Fault) (o : Outcome Memory) → o ≡ ends_as m done → Gives may (λ v. s) r m → RunsTo may r s done o
gives-ends may (Ok v) s done m o e gives = e ∙ ap (λ m. ends_as m done) gives
gives-ends may (Err (stop.Fault f)) s done m o e gives = e ∙ ap (λ m. ends_as m done) gives
gives-ends may (Err stop.Memory) s done m o e gives = tt
gives-ends may (Err stop.Thread) s done m o e gives = tt
gives-ends may (Err stop.Gate) s done m o e gives = gives

-- a change that is told ends the run as the memory after it does
pub told-ends : (may : Type 0) (r : Result (Unit {0}) Fault) (h : Result (Unit {0}) RunStop) (s : Memory) (done : Deeds) (o : Outcome Memory) → TellsSame r h → o ≡ ends_as (memory_after r s) done → RunsTo may h s done o
told-ends may (Ok v) (Ok w) s done o t e = e
told-ends may (Ok v) (Err h) s done o t e = absurd t
told-ends may (Err f) (Err (stop.Fault g)) s done o t e = e ∙ ap (λ f. Stop f done) (sym t)
told-ends may (Err f) _ s done o t e = absurd t

module _ (limits : Limits) where
  pub evaluated-item : (item : ItemTree Variable) (go : Value → Run Memory) (s : Memory) (done : Deeds) → item_read item ≡ None
      → evaluated limits in_memory item go s done ≡ with_value (item_of limits in_memory item None s) go s done
  evaluated-item item go s done e = ap (λ o. read_or limits in_memory o item go s done) e

  declared-value : (x : Variable) (s : Memory) (done : Deeds) (r : Result Value Fault)
      → with_value r (λ v s done. Done (in_memory.declare x (Plain v) s) done) s done ≡ ends_as (with_ok r (λ v. Ok (in_memory.declare x (Plain v) s))) done
  declared-value x s done (Ok v) = refl
  declared-value x s done (Err f) = refl

  declared-item : (x : Variable) (item : ItemTree Variable) (s : Memory) (done : Deeds) → item_read item ≡ None
      → declare_typed limits in_memory (unplaced_leaf x) None (Some (written_initial nowhere item)) s done ≡ ends_as (declared_memory limits x item s) done
  declared-item x item s done e =
      evaluated-item item (λ v s done. Done (in_memory.declare x (Plain v) s) done) s done e ∙ declared-value x s done (item_of limits in_memory item None s)

  -- a plain variable gets no root
  plain-undealt : (k : LeafKind) (slot : ℕ) (i : Option (InitialTree Variable)) (s after : Memory)
      → deal_domain limits in_memory None i (variable (PlainKind k) slot) (value_at k slot after.words) s after ≡ after
  plain-undealt IntLeaf slot i s after = refl
  plain-undealt _ slot i s after = refl

  then-undealt : (k : LeafKind) (slot : ℕ) (i : Option (InitialTree Variable)) (s : Memory) (o : Outcome Memory)
      → then_do o (λ after done. Done (deal_domain limits in_memory None i (variable (PlainKind k) slot) (value_at k slot after.words) s after) done) ≡ o
  then-undealt k slot i s (Done after done) = ap (λ (m : Memory). Done m done) (plain-undealt k slot i s after)
  then-undealt k slot i s (Stop f done) = refl
  then-undealt k slot i s (Waits at c op done) = refl

  pub exec-declared : (k : LeafKind) (slot : ℕ) (item : ItemTree Variable) (s : Memory) (done : Deeds) → item_read item ≡ None
      → exec limits in_memory (declared_as None (variable (PlainKind k) slot) item) s done ≡ ends_as (declared_memory limits (variable (PlainKind k) slot) item s) done
  exec-declared k slot item s done e =
      let x = variable (PlainKind k) slot in
      let i : Option (InitialTree Variable) = Some (written_initial nowhere item) in
      then-undealt k slot i s (declare_typed limits in_memory (unplaced_leaf x) None i s done) ∙ declared-item x item s done e

  given-memory : (x : Variable) (item : ItemTree Variable) (s : Memory) (done : Deeds) (given : Option Value) → item_read item ≡ None
      → given_or limits in_memory (unplaced_leaf x) given (declare_typed limits in_memory (unplaced_leaf x) None (Some (written_initial nowhere item))) s done
      ≡ ends_as (given_memory limits x item given s) done
  given-memory x item s done None e = declared-item x item s done e
  given-memory x item s done (Some v) e = refl

  exec-config : (k : LeafKind) (slot : ℕ) (item : ItemTree Variable) (s : Memory) (done : Deeds) → item_read item ≡ None
      → exec limits in_memory (declared_as (Some nowhere) (variable (PlainKind k) slot) item) s done
      ≡ ends_as (given_memory limits (variable (PlainKind k) slot) item (in_memory.given (variable (PlainKind k) slot) s) s) done
  exec-config k slot item s done e =
      let x = variable (PlainKind k) slot in
      let i : Option (InitialTree Variable) = Some (written_initial nowhere item) in
      then-undealt k slot i s (given_or limits in_memory (unplaced_leaf x) (in_memory.given x s) (declare_typed limits in_memory (unplaced_leaf x) None i) s done)
      ∙ given-memory x item s done (in_memory.given x s) e

  tested-value : (x : Variable) (op : Assign) (s : Memory) (done : Deeds) (r : Result Value Fault)
      → with_value r (λ w s done. Done (in_memory.update x op w s) done) s done ≡ ends_as (with_ok r (λ w. Ok (in_memory.update x op w s))) done
  tested-value x op s done (Ok v) = refl
  tested-value x op s done (Err f) = refl

  assigned-value : (x : Variable) (op : Assign) (at : Place) (s : Memory) (done : Deeds) (r : Result Value Fault)
      → with_value r (λ v. with_value (tested_divisor (assign_divides op) at v) (λ w s done. Done (in_memory.update x op w s) done)) s done
      ≡ ends_as (with_ok r (λ v. with_ok (tested_divisor (assign_divides op) at v) (λ w. Ok (in_memory.update x op w s)))) done
  assigned-value x op at s done (Ok v) = tested-value x op s done (tested_divisor (assign_divides op) at v)
  assigned-value x op at s done (Err f) = refl

  -- of a plain variable
  pub exec-assigned : (k : LeafKind) (slot : ℕ) (op : Assign) (at : Place) (item : ItemTree Variable) (s : Memory) (done : Deeds) → item_read item ≡ None
      → exec limits in_memory (assigned_to (variable (PlainKind k) slot) op at item) s done ≡ ends_as (assigned_memory limits (variable (PlainKind k) slot) op at item s) done
  exec-assigned k slot op at item s done e =
      let x = variable (PlainKind k) slot in
      ap (λ o. assign_name limits in_memory (unplaced_leaf x) (record { at = at; op = op; last = nowhere }) item o (is_domain (in_memory.get x s)) s done) (memory-known x s).0
      ∙ ap (λ b. assign_name limits in_memory (unplaced_leaf x) (record { at = at; op = op; last = nowhere }) item None b s done) (memory-known x s).1
      ∙ evaluated-item item (λ v. with_value (tested_divisor (assign_divides op) at v) (λ w s done. Done (in_memory.update x op w s) done)) s done e
      ∙ assigned-value x op at s done (item_of limits in_memory item None s)

  given-int : (slot : ℕ) (item : ItemTree Variable) (s : Memory) (given : Option Value) → given_memory limits (int_leaf slot) item given s ≡ int_changed_by limits given deeds.Config slot item s
  given-int slot item s None = refl
  given-int slot item s (Some v) = refl

  -- what is done to an int
  pub exec-int : (d : IntDeed) (slot : ℕ) (item : ItemTree Variable) (s : Memory) (done : Deeds) → item_read item ≡ None
      → exec limits in_memory (int_changed d slot item) s done ≡ ends_as (int_memory limits d slot item s) done
  exec-int deeds.Declare slot item s done e = exec-declared IntLeaf slot item s done e
  exec-int deeds.Config slot item s done e = exec-config IntLeaf slot item s done e ∙ ap (λ r. ends_as r done) (given-int slot item s (in_memory.given (int_leaf slot) s))
  exec-int deeds.Set slot item s done e = exec-assigned IntLeaf slot Set nowhere item s done e
  exec-int deeds.Add slot item s done e = exec-assigned IntLeaf slot SetAdd nowhere item s done e
  exec-int deeds.Subtract slot item s done e = exec-assigned IntLeaf slot SetSubtract nowhere item s done e
  exec-int deeds.Multiply slot item s done e = exec-assigned IntLeaf slot SetMultiply nowhere item s done e
  exec-int (deeds.Divide at) slot item s done e = exec-assigned IntLeaf slot SetDivide at.now item s done e
  exec-int (deeds.Remainder at) slot item s done e = exec-assigned IntLeaf slot SetRemainder at.now item s done e
  exec-int deeds.Reduce slot item s done e = exec-assigned IntLeaf slot SetReduce nowhere item s done e

  -- what is done to a truth value
  pub exec-truth : (d : TruthDeed) (slot : ℕ) (item : ItemTree Variable) (s : Memory) (done : Deeds) → item_read item ≡ None
      → exec limits in_memory (truth_changed d slot item) s done ≡ ends_as (truth_memory limits d slot item s) done
  exec-truth deed.Declare slot item s done e = exec-declared TruthLeaf slot item s done e
  exec-truth deed.Config slot item s done e = exec-config TruthLeaf slot item s done e
  exec-truth deed.Set slot item s done e = exec-assigned TruthLeaf slot Set nowhere item s done e
  exec-truth deed.Reduce slot item s done e = exec-assigned TruthLeaf slot SetReduce nowhere item s done e
