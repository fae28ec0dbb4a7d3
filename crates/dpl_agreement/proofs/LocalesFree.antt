-- What a program without the words of tasks means doesn't hang on the number of locales.
-- Variables kept by their names hold no `Locales`, unless the command line gives one.
use Rattle.std.proofs.Common.{◌≡◌, ◌≢◌, ℕ, List, [], ◌∷◌, refl, ap, Some, None, Option}
use Rattle.std.specs.Prelude.{All, bytes_eq, IfSome}
use Rattle.std.proofs.lemmas.List.Elements.{All-head, All-tail}
use Rattle.dpl_history.specs.declared.cell.CellState.{CellState}
use Rattle.dpl_history.specs.declared.cell.CellOp.{CellOp}
use Rattle.dpl_history.specs.declared.cell.Reply.{Reply}
use Rattle.dpl_history.specs.declared.history.Event.{Event}
use Rattle.dpl_history.specs.Cells.{effect}
use Rattle.dpl_language.specs.Tree.{ProgramTree}
use Rattle.dpl_language.specs.Values.{Value, AllLocales}
use Rattle.dpl_language.specs.Outcome.{no_deeds}
use Rattle.dpl_language.specs.Names.{Text, State, paired, look_up, update_in, put_in, set_cell, state_in, effect_on, call_in, by_name}
use Rattle.dpl_language.specs.Program.{settled, first_state, meaning}
use Rattle.dpl_agreement.specs.Untasked.{UntaskedStmts}
use Rattle.dpl_agreement.proofs.UntaskedValues.{NotLocales, HoldsBehind, HoldsNoLocales}
use Rattle.dpl_agreement.proofs.UntaskedRuns.{run-same}
use Rattle.dpl_agreement.proofs.ContentsFree.{if-holds, value_in-free, update_in-free, element_in-free, put_in-free, set_cell-free}
use Rattle.dpl_agreement.proofs.StoresFree.{FreeStore, first-free, entered-free, look_up-free, change_in-free, declared-free, without_innermost-free, redomain_in-free}

-- THE STATE: in its store, and in what the command line gives, there is no `Locales`
abbrev GivesNoLocales : List (Text × Value) → Type 0
GivesNoLocales sets = All (λ (p : Text × Value). p.1 ≢ AllLocales) sets

abbrev FreeState : State → Type 0
FreeState s = FreeStore s.store × GivesNoLocales s.sets

other-free : (v : Value) → v ≢ AllLocales → NotLocales v
other-free AllLocales h = h refl
other-free _ h = tt

paired-free : (x : Text) (ps : List (Text × Value)) → GivesNoLocales ps → IfSome (paired x ps) NotLocales
paired-free x [] h = tt
paired-free x (p ∷ ps) h =
    if-holds (λ o. IfSome o NotLocales) (bytes_eq x p.0) (Some p.1) (paired x ps) (other-free p.1 (All-head (λ (p : Text × Value). p.1 ≢ AllLocales) p ps h))
    (paired-free x ps (All-tail (λ (p : Text × Value). p.1 ≢ AllLocales) p ps h))

effect_on-free : (x : Text) (s : State) (o : Option (CellState × Reply)) → FreeState s → HoldsBehind FreeState (effect_on x s o)
effect_on-free x s None h = tt
effect_on-free x s (Some a) h = (change_in-free x (set_cell (a.0 ∷ [])) (set_cell-free a.0) s.store h.0, h.1)

call_in-free : (x : Text) (op : CellOp) (s : State) (o : Option (List Reply)) → FreeState s → HoldsBehind FreeState (call_in x op s o)
call_in-free x op s None h = effect_on-free x s (effect op (state_in (look_up x s.store))) h
call_in-free x op s (Some []) h = tt
call_in-free x op s (Some (r ∷ rs)) h = h

by_name-free : HoldsNoLocales by_name FreeState
by_name-free = record {
  gets = λ x s h. value_in-free (look_up x s.store) (look_up-free x s.store h.0);
  elements = λ x t s h. element_in-free t (look_up x s.store) (look_up-free x s.store h.0);
  gives = λ x s h. paired-free x s.sets h.1;
  updates = λ x op v s h e. (change_in-free x (update_in op (paired x s.intents) v) (update_in-free op (paired x s.intents) v e) s.store h.0, h.1);
  puts = λ x t v s h e. (change_in-free x (put_in t v) (put_in-free t v e) s.store h.0, h.1);
  declares = λ x c s h e. (declared-free x c s.store h.0 e, h.1);
  deals = λ x root s h. h;
  redomains = λ x rs s h. (redomain_in-free x rs s.store h.0, h.1);
  enters = λ s h. (entered-free s.store h.0, h.1);
  leaves = λ s h. (without_innermost-free s.store h.0, h.1);
  intends = λ is s h. h;
  calls = λ x op s h. call_in-free x op s s.replies h;
}

-- THE THEOREM
pub locales-free : (t : ProgramTree Text) → UntaskedStmts t.stmts → (sets : List (Text × Value)) → All (λ (p : Text × Value). p.1 ≢ AllLocales) sets → (budget l m : ℕ) (histories : List (List Event))
    → meaning t sets (record { budget = budget; locales = l }) histories ≡ meaning t sets (record { budget = budget; locales = m }) histories
locales-free t u sets h budget l m histories = ap settled (run-same budget l m by_name FreeState by_name-free t.stmts (first_state sets histories) no_deeds u (first-free, h))
