-- What a walk in a task makes is the task's run by itself, where its operations get the replies that they got, and no more.
use Rattle.std.proofs.Common.{◌≡◌, inl, inr, ℕ, List, [], ◌∷◌, ◌++◌, map, Some, Result, Ok, Err, refl, sym, ap, ◌∙◌, subst, append-nil}
use Rattle.dpl_syntax.specs.declared.place.Place.{Place}
use Rattle.dpl_history.specs.declared.cell.CellOp.{CellOp}
use Rattle.dpl_history.specs.declared.cell.Reply.{Reply}
use Rattle.dpl_history.specs.declared.history.Event.{Event}
use Rattle.dpl_language.specs.Outcome.{Operation, TaskEnd, Ended, Faulted, Waiting, Deeds, no_deeds, Outcome, Run}
use Rattle.dpl_language.specs.Tasks.{solo_of}
use Rattle.dpl_language.specs.Together.{operation_of}
use Rattle.dpl_memory.specs.Memory.{Coming, Memory}
use Rattle.dpl_frame.specs.Faults.{fault_view}
use Rattle.dpl_loop.specs.declared.stop.RunStop.{RunStop}
use Rattle.dpl_loop.specs.declared.stop.RunStop.TheVariants as stop
use Rattle.dpl_coming.specs.Taken.{with_coming, replies_in, before, and_then}
use Rattle.dpl_coming.specs.Walks.{InTask, Known, IsTold, EndsSo, Walks}

-- what is known of a task's deeds by the events that its seat has
abbrev pub known_by : List Event → Known
known_by es = record { text = []; operations = map {A = Event} {B = Operation} operation_of es; counts = λ more. [] }

abbrev pub replies_got : List Event → List Reply
replies_got es = map {A = Event} {B = Reply} (λ e. e.reply) es

replies-same : (es : List Event) → replies_in (map operation_of es) ≡ replies_got es
replies-same [] = refl
replies-same (e ∷ es) = ap (λ rs. e.reply ∷ rs) (replies-same es)

-- how a walk without a gate of its own tells a task's end
abbrev pub EndsTask : (Place → ℕ → CellOp → Type 0) → Result (Unit {0}) RunStop → TaskEnd → Type 0
EndsTask waiting (Ok v) e = e ≡ Ended
EndsTask waiting (Err (stop.Fault f)) e = e ≡ Faulted (fault_view f)
EndsTask waiting (Err stop.Memory) e = ⊥
EndsTask waiting (Err stop.Thread) e = ⊥
EndsTask waiting (Err stop.Gate) e = (at : Place) (c : ℕ) (op : CellOp) → waiting at c op → e ≡ Waiting at c op

-- such an end is told
told-so : (waiting : Place → ℕ → CellOp → Type 0) (r : Result (Unit {0}) RunStop) (e : TaskEnd) → EndsTask waiting r e → IsTold InTask r
told-so waiting (Ok v) e told = tt
told-so waiting (Err (stop.Fault f)) e told = tt
told-so waiting (Err stop.Memory) e told = told
told-so waiting (Err stop.Thread) e told = told
told-so waiting (Err stop.Gate) e told = tt

module _ (waiting : Place → ℕ → CellOp → Type 0) (es : List Event) (s s2 : Memory) (turn : Run Memory) (hs : List (List Event)) where
  abbrev rest : Coming
  rest = record { replies = Some []; histories = hs }

  -- by the end of the run in the memory with just these replies
  end-told : (r : Result (Unit {0}) RunStop) (e : TaskEnd) (os : List Operation) (o : Outcome Memory) → EndsTask waiting r e → EndsSo ⊥ InTask waiting r rest s2 (record no_deeds { operations = os }) o → solo_of o ≡ record { operations = os; end = e }
  end-told (Ok v) e os o told ends = ap solo_of ends ∙ ap (λ e. record { operations = os; end = e }) (sym told)
  end-told (Err (stop.Fault f)) e os o told ends = ap solo_of ends ∙ ap (λ e. record { operations = os; end = e }) (sym told)
  end-told (Err stop.Memory) e os o told ends = absurd told
  end-told (Err stop.Thread) e os o told ends = absurd told
  end-told (Err stop.Gate) e os o told (inl m) = absurd m
  end-told (Err stop.Gate) e os o told (inr k) = ap solo_of (k.4 tt) ∙ ap (λ e. record { operations = os; end = e }) (sym (told k.0 k.1 k.2 k.3))

  -- the memory from which the walk's clause speaks is the one with just these replies
  starts : (ops : List Operation) → map operation_of es ≡ ops → with_coming (record { replies = Some (replies_in ops ++ []); histories = hs }) s ≡ with_coming (record { replies = Some (replies_got es); histories = hs }) s
  starts ops same = ap (λ rs. with_coming (record { replies = Some rs; histories = hs }) s) (append-nil (replies_in ops) ∙ sym (ap replies_in same) ∙ replies-same es)

  from_made : (r : Result (Unit {0}) RunStop) (e : TaskEnd) (made : Deeds) → EndsTask waiting r e → map operation_of es ≡ made.operations → made.text ≡ [] → made.entered ≡ [] → made.loops ≡ []
      → EndsSo ⊥ InTask waiting r rest s2 (and_then no_deeds made) (turn (with_coming (before made rest) s) no_deeds)
      → solo_of (turn (with_coming (record { replies = Some (replies_got es); histories = hs }) s) no_deeds) ≡ record { operations = map operation_of es; end = e }
  from_made r e made told ops text entered loops ends =
      let deeds : and_then no_deeds made ≡ record no_deeds { operations = made.operations } =
      ap (λ t. record { text = t; operations = made.operations; entered = made.entered; loops = made.loops }) text
      ∙ ap (λ en. record { text = []; operations = made.operations; entered = en; loops = made.loops }) entered
      ∙ ap (λ l. record { text = []; operations = made.operations; entered = []; loops = l }) loops in
      let from : with_coming (before made rest) s ≡ with_coming (record { replies = Some (replies_got es); histories = hs }) s =
      ap (λ en. with_coming (before (record made { entered = en }) rest) s) entered ∙ starts made.operations ops in
      ap (λ m. solo_of (turn m no_deeds)) (sym from)
      ∙ end-told r e made.operations (turn (with_coming (before made rest) s) no_deeds) told (subst (λ d. EndsSo ⊥ InTask waiting r rest s2 d (turn (with_coming (before made rest) s) no_deeds)) deeds ends)
      ∙ ap (λ os. record { operations = os; end = e }) (sym ops)

  pub ran-alone : (r : Result (Unit {0}) RunStop) (e : TaskEnd) → EndsTask waiting r e → Walks ⊥ InTask waiting r (known_by []) (known_by es) s s2 turn
      → solo_of (turn (with_coming (record { replies = Some (replies_got es); histories = hs }) s) no_deeds) ≡ record { operations = map operation_of es; end = e }
  ran-alone r e told k = from_made r e k.made told (k.known (told-so waiting r e told)).0 (k.known (told-so waiting r e told)).1 (k.known (told-so waiting r e told)).2 (k.known (told-so waiting r e told)).3 (k.ends rest no_deeds ([], refl))
