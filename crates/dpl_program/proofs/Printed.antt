-- A print is a walk: it prints a text, or stops, and so whatever was done before and is to come.
-- What its arguments are hangs on the memory alone.
use Rattle.std.proofs.Common.{◌≡◌, ◌⊎◌, inl, inr, ⊎_elim, Bool, List, [], ◌∷◌, ◌++◌, Option, Some, None, Result, Ok, Err, refl, sym, ap, ◌∙◌, subst, append-nil}
use Rattle.dpl_syntax.specs.declared.place.Place.{Place}
use Rattle.std.specs.Prelude.{ℕ}
use Rattle.dpl_history.specs.declared.cell.CellOp.{CellOp}
use Rattle.dpl_language.specs.Tree.{One, ArgumentTree, TextArgument, ExprArgument, StmtTree}
use Rattle.dpl_language.specs.Values.{Value, Fault}
use Rattle.dpl_language.specs.Phrases.{ReadTree, bare_name, cell_read}
use Rattle.dpl_language.specs.Outcome.{Deeds, no_deeds, Outcome, Done, Stop, Run, with_text, with_value}
use Rattle.dpl_language.specs.Environment.{Limits}
use Rattle.dpl_language.specs.Expressions.{item_of}
use Rattle.dpl_language.specs.Assignments.{read_or}
use Rattle.dpl_language.specs.Writing.{line_end, shown, arguments_then, arguments_of}
use Rattle.dpl_language.specs.Statements.{exec}
use Rattle.dpl_language.specs.Program.{settled, deeds_of}
use Rattle.dpl_memory.specs.Memory.{Variable, Coming, Memory, in_memory}
use Rattle.dpl_nodes.specs.declared.step.Argument.{Argument}
use Rattle.dpl_nodes.specs.Steps.{arguments_view, written_as}
use Rattle.dpl_frame.specs.Faults.{fault_view}
use Rattle.dpl_loop.specs.declared.stop.RunStop.{RunStop}
use Rattle.dpl_loop.specs.declared.stop.RunStop.TheVariants as stop
use Rattle.dpl_loop.specs.Runs.{RunsTo, having_printed}
use Rattle.dpl_coming.specs.Taken.{with_coming, ends_with, and_then}
use Rattle.dpl_coming.specs.Calm.{IsCalm}
use Rattle.dpl_coming.specs.Walks.{Outside, IsTold, EndsSo, Walks}
use Rattle.dpl_coming.proofs.CalmTrees.{AreUnread, unread-calm}
use Rattle.dpl_coming.proofs.CalmSteps.{written-unread}
use Rattle.dpl_coming.proofs.Unseen.{exec-unseen}
use Rattle.dpl_coming.proofs.Taken.{before-nothing}
use Rattle.dpl_coming.proofs.Walking.{walks-unseen}
use Rattle.dpl_program.specs.Printed.{by_text}

-- a run that prints a text, or stops, whatever was done before
abbrev Prints : Run Memory → Memory → Type 0
Prints a s = ((t : List ℕ) × ((done : Deeds) → a s done ≡ Done s (with_text t done))) ⊎ ((f : Fault) × ((done : Deeds) → a s done ≡ Stop f done))

module _ (limits : Limits) (s : Memory) where
  -- behind a value that is found, or not
  value-prints : (v : Result Value Fault) (go : Value → Run Memory) → ((w : Value) → Prints (go w) s) → Prints (with_value v go) s
  value-prints (Ok w) go each = each w
  value-prints (Err f) go each = inr (f, λ done. refl)

  unread-prints : (o : Option (ReadTree Variable)) (e : _) (go : Value → Run Memory) → o ≡ None → ((w : Value) → Prints (go w) s) → Prints (read_or limits in_memory o (One e) go) s
  unread-prints o e go none each =
      subst (λ o. Prints (read_or limits in_memory o (One e) go) s) (sym none) (value-prints (item_of limits in_memory (One e) None s) go each)

  arguments-print : (xs : List (ArgumentTree Variable)) → AreUnread xs → (text : List ℕ) (end : List ℕ) → Prints (arguments_then limits in_memory xs text (λ text s done. Done s (with_text (text ++ end) done))) s
  arguments-print [] none text end = inl (text ++ end, λ done. refl)
  arguments-print (TextArgument at cs ∷ rest) none text end = arguments-print rest none (text ++ cs) end
  arguments-print (ExprArgument e ∷ rest) none text end =
      unread-prints (cell_read e) e
      (λ v s done. arguments_then limits in_memory rest (text ++ shown limits in_memory (bare_name e) v s) (λ text s done. Done s (with_text (text ++ end) done)) s done) none.0
      (λ v. arguments-print rest none.1 (text ++ shown limits in_memory (bare_name e) v s) end)

  written-prints : (ends_line : Bool) (xs : List Argument) → Prints (exec limits in_memory (written_as ends_line xs)) s
  written-prints ends_line xs = arguments-print (arguments_of (arguments_view xs)) (written-unread ends_line xs) [] (line_end ends_line)

-- WHAT IS KNOWN of a print by how it ends
abbrev stopped_with : Fault → Outcome Memory → Fault
stopped_with other (Stop f done) = f
stopped_with other _ = other

with_text-made : (t : List ℕ) (done : Deeds) → with_text t done ≡ and_then done (record no_deeds { text = t })
with_text-made t done =
    let made = with_text t done in
    ap (λ os. record made { operations = os }) (sym (append-nil done.operations))
    ∙ ap (λ es. record made { operations = done.operations ++ []; entered = es }) (sym (append-nil done.entered))
    ∙ ap (λ ls. record made { operations = done.operations ++ []; entered = done.entered ++ []; loops = ls }) (sym (append-nil done.loops))

module _ (may : Type 0) (waiting : Place → ℕ → CellOp → Type 0) (limits : Limits) (t : StmtTree Variable) (calm : IsCalm t) (s : Memory) (old new : List ℕ) where
  abbrev run : Run Memory
  run = exec limits in_memory t

  abbrev Ends : Result (Unit {0}) RunStop → Type 0
  Ends r = (done : Deeds) → RunsTo may r s (having_printed new done) (run s (having_printed old done))

  -- nothing is told where it was refused
  refused : (r : Result (Unit {0}) RunStop) → (IsTold Outside r → ⊥) → ((rest : Coming) (done : Deeds) (o : Outcome Memory) → EndsSo may Outside waiting r rest s done o) → Walks may Outside waiting r (by_text old) (by_text new) s s run
  refused r untold ends = record { made = no_deeds; known = λ told. absurd (untold told); ends = λ rest done is. ends rest (and_then done no_deeds) _ }

  by-prints : (r : Result (Unit {0}) RunStop) → Prints run s → Ends r → Walks may Outside waiting r (by_text old) (by_text new) s s run
  by-prints (Ok v) (inl (text, does)) ends = record {
    made = record no_deeds { text = text };
    known = λ told. (sym (ap (λ (o : Outcome Memory). (deeds_of o).text) (sym (does (having_printed old no_deeds)) ∙ ends no_deeds)), tt, λ more. refl);
    ends = λ rest done is. ap settled
        (ap (λ c. run (with_coming c s) done) (before-nothing rest) ∙ exec-unseen limits Outside rest ⊥ t s done calm ∙ ap (ends_with rest) (does done)
        ∙ ap (Done (with_coming rest s)) (with_text-made text done));
  }
  by-prints (Ok v) (inr (f, does)) ends = absurd (let no : Done s (having_printed new no_deeds) ≡ Stop f (having_printed old no_deeds) = sym (ends no_deeds) ∙ does (having_printed old no_deeds) in cc)
  by-prints (Err (stop.Fault g)) (inl (text, does)) ends =
      absurd (let no : Done s (with_text text (having_printed old no_deeds)) ≡ Stop (fault_view g) (having_printed new no_deeds) = sym (does (having_printed old no_deeds)) ∙ ends no_deeds in cc)
  by-prints (Err (stop.Fault g)) (inr (f, does)) ends =
      let both = sym (does (having_printed old no_deeds)) ∙ ends no_deeds in
      subst (λ new. Walks may Outside waiting (Err (stop.Fault g)) (by_text old) (by_text new) s s run) (ap (λ (o : Outcome Memory). (deeds_of o).text) both)
      (walks-unseen Outside may waiting limits t (Err (stop.Fault g)) (by_text old) s s (λ done. does done ∙ ap (λ f. Stop f done) (ap (stopped_with f) both)) ⊥ calm)
  by-prints (Err stop.Memory) prints ends = refused (Err stop.Memory) (λ told. told) (λ rest done o. tt)
  by-prints (Err stop.Thread) prints ends = refused (Err stop.Thread) (λ told. told) (λ rest done o. tt)
  by-prints (Err stop.Gate) prints ends = refused (Err stop.Gate) (λ told. told) (λ rest done o. inl (ends no_deeds))

pub walks-written : (may : Type 0) (waiting : Place → ℕ → CellOp → Type 0) (limits : Limits) (ends_line : Bool) (xs : List Argument) (s : Memory) (old new : List ℕ) (r : Result (Unit {0}) RunStop)
    → ((done : Deeds) → RunsTo may r s (having_printed new done) (exec limits in_memory (written_as ends_line xs) s (having_printed old done)))
    → Walks may Outside waiting r (by_text old) (by_text new) s s (exec limits in_memory (written_as ends_line xs))
walks-written may waiting limits ends_line xs s old new r ends =
    by-prints may waiting limits (written_as ends_line xs) (unread-calm ⊥ (written_as ends_line xs) (written-unread ends_line xs)) s old new r (written-prints limits s ends_line xs) ends
