-- Taking a cell keeps the rule: its state word becomes busy, and one seat holds it.
-- Where the state does not fit, the step is a look that missed.
use Rattle.std.proofs.Common.{◌≡◌, ◌≢◌, ℕ, ◌+◌, ◌<◌, List, [], ◌∷◌, length, set, eqb, Some, None, sym, refl, ap, ◌∙◌, subst, inl, inr, ⊎_elim, arith, length-set, get_or-set_other, get_or-set_same, eq-eqb, ne_eqb}
use Rattle.std.proofs.lemmas.List.Elements.{All-weaker}
use mathlib.Core.Option.{some, none}
use mathlib.Core.Logic.{dite}
use native.Mathlib.Decide.{ℕ_discrete}
use lib.ListN.{get_elem?}
use prog.Atomic.{either}
use Rattle.atomic_table.specs.Table.{step, keeps, stepped, Allows}
use Rattle.dpl_history.specs.declared.cell.CellState.{CellState}
use Rattle.dpl_history.specs.declared.history.Event.{Event}
use Rattle.dpl_history.specs.declared.history.Miss.{Miss}
use Rattle.dpl_cell.specs.declared.view.Hold.{Hold}
use Rattle.dpl_cell.specs.declared.view.View.{View}
use Rattle.dpl_history.specs.Looks.{miss}
use Rattle.dpl_cell.specs.Seats.{Has}
use Rattle.dpl_cell.specs.Rule.{cell_of, AnswersFor, Holds, HeldBy, IsPending, IsTrueMiss, Knows, IsKept}
use Rattle.dpl_cell.specs.Steps.{TokenState, hold, taken, seized}
use Rattle.dpl_cell.proofs.Views.{get_elem?-set_same, changed_at, changed_at-same, changed_at-other, each_set, holds_nothing, HeldBy-set_other}
use Rattle.dpl_cell.proofs.Looking.{Rule, word_at, seeing, sees, state_word_small, Rule-missed}

abbrev pub holding : View → Hold → View
holding v h = record v { held = Some h }

module _ (cells : List CellState) (tasks : ℕ) where
  pub AnswersFor-holding : (log : List Event) (seat_of : ℕ → ℕ) (id : ℕ) (v : View) (h : Hold) (k : ℕ) → AnswersFor cells tasks log seat_of id v k → AnswersFor cells tasks log seat_of id (holding v h) k
  AnswersFor-holding log seat_of id v h k t = record { by = t.by; ours = t.ours; events = t.events; opening = t.opening; tasks_is = t.tasks_is }

  -- a miss stays true where a cell becomes busy
  IsTrueMiss-busy : (ws : List ℕ) (log : List Event) (c : ℕ) → c < length ws → (m : Miss) → IsTrueMiss cells tasks ws log m → IsTrueMiss cells tasks (set ws c 2) log m
  IsTrueMiss-busy ws log c inside m t = ⊎_elim (λ a. inl a)
      (λ (p : IsPending cells tasks ws log m). inr record {
        word = p.word;
        place = p.place;
        inside = p.inside;
        busy = dite (ℕ_discrete m.cell c) (λ e. ap (word_at (set ws c 2)) e ∙ get_or-set_same ws c 2 0 inside) (λ ne. get_or-set_other ws c m.cell 2 0 ne ∙ p.busy);
      })
      t

  IsKept-holding : (ws : List ℕ) (vs : List View) (k : IsKept cells tasks ws vs) (id : ℕ) (v : View) → get_elem? vs id ≡ some v → v.held ≡ None → Has v.number v.numbers
      → (c : ℕ) → c < length cells → word_at ws c ≢ 2
      → IsKept cells tasks (set ws c 2) (set vs id (holding v (hold c (cell_of (word_at ws c) (word_at ws (length cells + c))) (word_at ws (length cells + c)))))
  IsKept-holding ws vs k id v at idle acts c inside free =
      let e = k.each id v at in let wide = k.wide in let n : ℕ = length cells in
      let x : ℕ = word_at ws c in let y : ℕ = word_at ws (n + c) in
      let h : Hold = hold c (cell_of x y) y in let u : View = holding v h in
      let new : List ℕ = set ws c 2 in
      let there : c < length ws = omega arith in
      let here : word_at new c ≡ 2 = get_or-set_same ws c 2 0 there in
      let value_word : (d : ℕ) → word_at new (n + d) ≡ word_at ws (n + d) = λ d. get_or-set_other ws c (n + d) 2 0 (λ (q : n + d ≡ c). omega arith) in
      let rests = k.free c inside free in
      let f : ℕ → ℕ = changed_at k.holder c id in
      let misses_stay = IsTrueMiss-busy ws k.log c there in record {
        log = k.log;
        holder = f;
        seat_of = k.seat_of;
        wide = length-set ws c 2 ∙ wide;
        legal = k.legal;
        ours = k.ours;
        free = λ d l not. let ne : d ≢ c = (λ q. not (ap (word_at new) q ∙ here)) in let same = get_or-set_other ws c d 2 0 ne in let r = k.free d l (λ q. not (same ∙ q)) in record {
          small = subst (λ (z : ℕ). z < 2) (sym same) r.small;
          is = r.is ∙ (λ i. cell_of (sym same i) (sym (value_word d) i));
        };
        busy = λ d l b. dite (ℕ_discrete d c)
            (λ q. (u, h, subst (λ (j : ℕ). get_elem? (set vs id u) j ≡ some u) (sym (ap f q ∙ changed_at-same k.holder c id)) (get_elem?-set_same vs id v u at), refl, sym q))
            (λ ne. subst (λ (j : ℕ). HeldBy (set vs id u) j d) (sym (changed_at-other k.holder c id d ne))
            (HeldBy-set_other vs id (k.holder d) d v u at (holds_nothing v d idle) (k.busy d l (sym (get_or-set_other ws c d 2 0 ne) ∙ b))));
        each = each_set (Knows cells tasks new k.log f k.seat_of) vs id u
            record {
              numbered = λ q z. AnswersFor-holding k.log k.seat_of id v h q (e.numbered q z);
              begins = e.begins;
              missed = All-weaker _ _ misses_stay v.misses e.missed;
              grew = e.grew;
              holds = λ g q. let same : h ≡ g = cc in subst (λ (z : Hold). Holds cells tasks new k.log f id z) same record {
                inside = inside;
                mine = changed_at-same k.holder c id;
                busy = here;
                value = value_word c;
                before = rests.is;
              };
              acts = λ _ _. acts;
            }
            (λ j w ne p. let o = k.each j w p in record {
              numbered = o.numbered;
              begins = o.begins;
              missed = All-weaker _ _ misses_stay w.misses o.missed;
              grew = o.grew;
              holds = λ g q. let t = o.holds g q in let apart : g.cell ≢ c = (λ z. free (ap (word_at ws) (sym z) ∙ t.busy)) in record {
                inside = t.inside;
                mine = changed_at-other k.holder c id g.cell apart ∙ t.mine;
                busy = get_or-set_other ws c g.cell 2 0 apart ∙ t.busy;
                value = value_word g.cell ∙ t.value;
                before = t.before;
              };
              acts = o.acts;
            });
      }

  pub Allows-take : (slots id : ℕ) (me : TokenState) (c fit : ℕ) → c < length cells → fit < 2 → me.0.held ≡ None → Has me.0.number me.0.numbers
      → Allows (Rule cells tasks) slots id me c (λ x. either (eqb x fit) 2 x) (taken (step slots c fit 2 none) me)
  Allows-take slots id me c fit inside low idle acts s k _ at _ = let x : ℕ = word_at s.words c in let y : ℕ = word_at s.words (length cells + c) in dite (ℕ_discrete x fit)
      (λ hit. let u : View = holding me.0 (hold c (cell_of x y) y) in (
        u,
        keeps,
        tt,
        subst (λ b. Rule cells tasks (stepped s c (either b 2 x) id me.1 u keeps)) (sym (eq-eqb x fit hit)) (IsKept-holding s.words s.views k id me.0 at idle acts c inside (λ (q : x ≡ 2). omega arith)),
        (refl, (λ _. record { value = y; is = refl }), λ not. absurd (not hit)),
      ))
      (λ not. let u : View = seeing me.0 k.log (miss me.0.number (length k.log) c x ∷ []) in (
        u,
        keeps,
        tt,
        subst (λ b. Rule cells tasks (stepped s c (either b 2 x) id me.1 u keeps)) (sym (ne_eqb x fit not)) (Rule-missed cells tasks s k id me at c inside),
        (refl, (λ hit. absurd (not hit)), λ _. record { small = state_word_small cells tasks s.words s.views k c inside; log = k.log; sees = sees cells tasks s.words s.views k id me.0 at acts; is = refl }),
      ))

  pub Allows-seize : (slots id : ℕ) (me : TokenState) (c : ℕ) → c < length cells → me.0.held ≡ None → Has me.0.number me.0.numbers
      → Allows (Rule cells tasks) slots id me c (λ _. 2) (seized (step slots c 2 0 none) me)
  Allows-seize slots id me c inside idle acts s k _ at _ = let x : ℕ = word_at s.words c in let y : ℕ = word_at s.words (length cells + c) in dite (ℕ_discrete x 2)
      (λ hit. let u : View = seeing me.0 k.log (miss me.0.number (length k.log) c x ∷ []) in (
        u,
        keeps,
        tt,
        subst (λ (z : ℕ). Rule cells tasks (stepped s c z id me.1 u keeps)) hit (Rule-missed cells tasks s k id me at c inside),
        (refl, state_word_small cells tasks s.words s.views k c inside, (λ not. absurd (not hit)), λ _. record { small = state_word_small cells tasks s.words s.views k c inside; log = k.log; sees = sees cells tasks s.words s.views k id me.0 at acts; is = refl }),
      ))
      (λ not. (
        holding me.0 (hold c (cell_of x y) y),
        keeps,
        tt,
        IsKept-holding s.words s.views k id me.0 at idle acts c inside not,
        (refl, state_word_small cells tasks s.words s.views k c inside, (λ _. record { value = y; is = refl }), λ hit. absurd (not hit)),
      ))
