-- Giving a cell back keeps the rule: its state word becomes what the operation leaves, and the log has one event more.
-- This is the one step that adds an event.
use Rattle.std.proofs.Common.{◌≡◌, ◌≢◌, ℕ, ◌+◌, ◌<◌, List, [], ◌∷◌, ◌++◌, length, set, eqb, Some, None, sym, refl, ap, ◌∙◌, subst, inl, inr, ⊎_elim, arith, length-append, length-set, get_or-set_other, get_or-set_same, eq-eqb}
use Rattle.std.proofs.lemmas.List.Elements.{All-weaker}
use mathlib.Core.Option.{some, some-injective}
use mathlib.Core.Logic.{dite}
use native.Mathlib.Decide.{ℕ_discrete}
use lib.ListN.{get_elem?}
use prog.Atomic.{either}
use Rattle.atomic_table.specs.Table.{step, keeps, stepped, Allows}
use Rattle.dpl_history.specs.declared.cell.CellState.{CellState}
use Rattle.dpl_history.specs.declared.cell.CellOp.{CellOp}
use Rattle.dpl_history.specs.declared.cell.Reply.{Reply}
use Rattle.dpl_history.specs.declared.history.Event.{Event}
use Rattle.dpl_history.specs.declared.history.Miss.{Miss}
use Rattle.dpl_cell.specs.declared.view.Hold.{Hold}
use Rattle.dpl_cell.specs.declared.view.View.{View}
use Rattle.dpl_history.specs.Cells.{effect}
use Rattle.dpl_history.specs.Histories.{cell_at, after, Legal, of_task, event, AllUpTo}
use Rattle.dpl_cell.specs.Rule.{cell_of, IsPending, IsTrueMiss, Knows, IsKept}
use Rattle.dpl_cell.specs.Steps.{TokenState, Adds, published}
use Rattle.dpl_history.proofs.Histories.{StartsWith-same, StartsWith-append, Legal-push, cell_at-push_same, cell_at-push_other, of_task-push_other, AllUpTo-push, Agrees-append, Agrees-push}
use Rattle.dpl_cell.proofs.Views.{each_set, no_hold, holds_other, HeldBy-set_other}
use Rattle.dpl_cell.proofs.Looking.{Rule, word_at}

-- A seat holds the cell of h for the operation, which leaves y and replies r, and y is what w and the value word stand for.
module _ (cells : List CellState) (tasks : ℕ) (h : Hold) (op : CellOp) (y : CellState) (r : Reply) (w : ℕ) (low : w < 2) (does : effect op h.before ≡ Some (y, r)) (right : y ≡ cell_of w h.value) where
  abbrev event_of : View → Event
  event_of v = event v.number h.cell op r

  abbrev log_with : List Event → View → List Event
  log_with log v = log ++ event_of v ∷ []

  abbrev freed : List Event → View → View
  freed log v = record v { held = None; history = log_with log v }

  IsTrueMiss-freed : (ws : List ℕ) (log : List Event) (v : View) (m : Miss) → IsTrueMiss cells tasks ws log m → IsTrueMiss cells tasks (set ws h.cell w) (log_with log v) m
  IsTrueMiss-freed ws log v m t = ⊎_elim (λ a. inl (Agrees-append cells log (event_of v ∷ []) m a))
      (λ (z : IsPending cells tasks ws log m). dite (ℕ_discrete m.cell h.cell)
      (λ e. inl (Agrees-push cells log (event_of v) m z.word z.place (sym e)))
      (λ ne. inr record {
        word = z.word;
        place = (let old = z.place in omega (arith, length-append log (event_of v ∷ [])));
        inside = z.inside;
        busy = get_or-set_other ws h.cell m.cell w 0 ne ∙ z.busy;
      }))
      t

  IsKept-freed : (ws : List ℕ) (vs : List View) (k : IsKept cells tasks ws vs) (id : ℕ) (v : View) → get_elem? vs id ≡ some v → v.held ≡ Some h
      → IsKept cells tasks (set ws h.cell w) (set vs id (freed k.log v))
  IsKept-freed ws vs k id v at is =
      let e = k.each id v at in let mine = e.holds h is in let wide = k.wide in let inside = mine.inside in let n : ℕ = length cells in
      let c : ℕ = h.cell in let log : List Event = k.log in let new_log : List Event = log_with log v in let u : View = freed log v in
      let new : List ℕ = set ws c w in
      let there : c < length ws = omega arith in
      let number = e.numbered v.number (e.acts h is) in
      let here : word_at new c ≡ w = get_or-set_same ws c w 0 there in
      let value : (d : ℕ) → word_at new (n + d) ≡ word_at ws (n + d) = λ d. get_or-set_other ws c (n + d) w 0 (λ (q : n + d ≡ c). omega arith) in
      let K = Knows cells tasks new new_log k.holder k.seat_of in record {
        log = new_log;
        holder = k.holder;
        seat_of = k.seat_of;
        wide = length-set ws c w ∙ wide;
        legal = Legal-push cells log v.number c op h.before y r k.legal inside mine.before does;
        ours = AllUpTo-push tasks v.number log c op r k.ours number.ours;
        free = λ d l not. dite (ℕ_discrete d c)
            (λ q. let now : word_at new d ≡ w = ap (word_at new) q ∙ here in record {
              small = subst (λ (z : ℕ). z < 2) (sym now) low;
              is = ap (cell_at (after cells new_log)) q ∙ (cell_at-push_same cells log v.number c op h.before y r inside mine.before does ∙ (right ∙ (λ i. cell_of (sym now i) ((sym mine.value ∙ (sym (value c) ∙ ap (λ (z : ℕ). word_at new (n + z)) (sym q))) i))));
            })
            (λ ne. let same = get_or-set_other ws c d w 0 ne in let o = k.free d l (λ q. not (same ∙ q)) in record {
              small = subst (λ (z : ℕ). z < 2) (sym same) o.small;
              is = cell_at-push_other cells log v.number c op h.before y r d ne ∙ (o.is ∙ (λ i. cell_of (sym same i) (sym (value d) i)));
            });
        busy = λ d l q. dite (ℕ_discrete d c)
            (λ z. let now : word_at new d ≡ w = ap (word_at new) z ∙ here in absurd (omega arith))
            (λ ne. HeldBy-set_other vs id (k.holder d) d v u at (holds_other v h d is ne) (k.busy d l (sym (get_or-set_other ws c d w 0 ne) ∙ q)));
        each = each_set K vs id u
            record {
              numbered = λ q z. let t = e.numbered q z in record { by = t.by; ours = t.ours; events = refl; opening = t.opening; tasks_is = t.tasks_is };
              begins = StartsWith-same new_log;
              missed = All-weaker _ _ (IsTrueMiss-freed ws log v) v.misses e.missed;
              grew = e.grew;
              holds = λ o q. absurd (no_hold o q);
              acts = λ o q. absurd (no_hold o q);
            }
            (λ j x ne q. let o = k.each j x q in record {
              numbered = λ b z. let t = o.numbered b z in let apart : b ≢ v.number = (λ s. ne (sym t.by ∙ (ap k.seat_of s ∙ number.by))) in record {
                by = t.by;
                ours = t.ours;
                events = t.events ∙ sym (of_task-push_other b v.number log c op r apart);
                opening = t.opening;
                tasks_is = t.tasks_is;
              };
              begins = StartsWith-append log (event_of v ∷ []) x.history o.begins;
              missed = All-weaker _ _ (IsTrueMiss-freed ws log v) x.misses o.missed;
              grew = o.grew;
              holds = λ f z. let t = o.holds f z in let apart : f.cell ≢ c = (λ s. ne (sym t.mine ∙ (ap k.holder s ∙ mine.mine))) in record {
                inside = t.inside;
                mine = t.mine;
                busy = get_or-set_other ws c f.cell w 0 apart ∙ t.busy;
                value = value f.cell ∙ t.value;
                before = cell_at-push_other cells log v.number c op h.before y r f.cell apart ∙ t.before;
              };
              acts = o.acts;
            });
      }

  Adds-log_with : (ws : List ℕ) (vs : List View) (k : IsKept cells tasks ws vs) (id : ℕ) (v : View) → get_elem? vs id ≡ some v → v.held ≡ Some h → Adds v (event_of v) (log_with k.log v)
  Adds-log_with ws vs k id v at is =
      let e = k.each id v at in let mine = e.holds h is in let number = e.numbered v.number (e.acts h is) in let s = e.begins in record {
        between = s.0;
        is = ap (λ l. l ++ event_of v ∷ []) s.1;
        legal = subst (λ (cs : List CellState). Legal cs (log_with k.log v)) (sym number.opening) (Legal-push cells k.log v.number h.cell op h.before y r k.legal mine.inside mine.before does);
        ours = subst (λ (m : ℕ). AllUpTo m (log_with k.log v)) (sym number.tasks_is) (AllUpTo-push tasks v.number k.log h.cell op r k.ours number.ours);
        quiet = λ q z. ap (of_task q) (sym s.1) ∙ sym (e.numbered q z).events;
      }

  pub Allows-publish : (slots id : ℕ) (me : TokenState) (c : ℕ) → me.0.held ≡ Some h → h.cell ≡ c
      → Allows (Rule cells tasks) slots id me c (λ x. either (eqb x 2) w x) (published (step slots c 2 w (some op)) me)
  Allows-publish slots id me c is word s k _ at _ = let v : View = me.0 in let u : View = freed k.log v in
      let busy : word_at s.words c ≡ 2 = ap (word_at s.words) (sym word) ∙ ((k.each id v at).holds h is).busy in (
        u,
        keeps,
        tt,
        subst (λ b. Rule cells tasks (stepped s c (either b w (word_at s.words c)) id me.1 u keeps)) (sym (eq-eqb (word_at s.words c) 2 busy))
            (subst (λ (z : ℕ). Rule cells tasks (stepped s z w id me.1 u keeps)) word (IsKept-freed s.words s.views k id v at is)),
        λ op' said g y' r' q does'.
            let same : h ≡ g = cc in let ops : op ≡ op' = some-injective op op' said in
            let a : CellState × Reply = (y, r) in let b : CellState × Reply = (y', r') in
            let answer : Some a ≡ Some b = sym does ∙ ((λ i. effect (ops i) (same i).before) ∙ does') in
            let pairs : a ≡ b = cc in let replies : r ≡ r' = ap (λ (t : CellState × Reply). t.1) pairs in
            let one : event_of v ≡ event v.number g.cell op' r' = (λ i. event v.number (same i).cell (ops i) (replies i)) in
            record { history = log_with k.log v; adds = subst (λ (z : Event). Adds v z (log_with k.log v)) one (Adds-log_with s.words s.views k id v at is); is = refl },
      )
