-- Joining two seats keeps the rule, and the step after it tells what the rule says of the seat.
-- Of two histories that seats know, both beginnings of the log, one begins with the other.
use Rattle.std.proofs.Common.{◌≡◌, ◌≢◌, ℕ, ◌≤◌, List, [], ◌∷◌, length, set, Bool, true, false, cond, eqb, nat_le, if◌then◌else◌, None, sym, refl, ap, ◌∙◌, subst, ⊎_elim, arith, eq-eqb, ne_eqb}
use Rattle.std.proofs.lemmas.Bool.Decides.{nat_tests}
use Rattle.std.proofs.lemmas.List.Elements.{All-append, All-nil, All-cons}
use mathlib.Core.Option.{some, none}
use lib.ListN.{get_elem?}
use Rattle.atomic_table.specs.Table.{step, keeps, Allows, Joins}
use Rattle.atomic_table.proofs.Lists.{at_set, set_else}
use Rattle.dpl_history.specs.declared.cell.CellState.{CellState}
use Rattle.dpl_history.specs.declared.history.Event.{Event}
use Rattle.dpl_cell.specs.declared.view.View.{View}
use Rattle.dpl_history.specs.Histories.{Legal, of_task, AllUpTo, StartsWith}
use Rattle.dpl_cell.specs.Seats.{Has}
use Rattle.dpl_cell.specs.Calls.{longer}
use Rattle.dpl_cell.specs.Rule.{Grows, IsTrueMiss, Knows}
use Rattle.dpl_cell.specs.Steps.{TokenState, growth, gathered, spent, vouched}
use Rattle.dpl_history.proofs.Histories.{StartsWith-same, StartsWith-between, of_task-between, Legal-append_left, All-append_left}
use Rattle.dpl_cell.proofs.Numbers.{Has-nil, Has-append_cases}
use Rattle.dpl_cell.proofs.Views.{each_set, no_hold, holds_nothing, HeldBy-set_other}
use Rattle.dpl_cell.proofs.Looking.{Rule, Rule-same}

-- of two beginnings of the log, the longer: it begins with both
record IsLonger (log xs ys es : List Event) : Type 0 where
  begins : StartsWith log es
  left : StartsWith es xs
  right : StartsWith es ys

IsLonger-if : (log xs ys : List Event) → StartsWith log xs → StartsWith log ys → (b : Bool) → nat_le (length ys) (length xs) ≡ b → IsLonger log xs ys (if b then xs else ys)
IsLonger-if log xs ys a b true is = record { begins = a; left = StartsWith-same xs; right = StartsWith-between log ys xs b a (grind (arith, nat_tests)) }
IsLonger-if log xs ys a b false is = record { begins = b; left = StartsWith-between log xs ys a b (grind (arith, nat_tests)); right = StartsWith-same ys }

IsLonger-longer : (log xs ys : List Event) → StartsWith log xs → StartsWith log ys → IsLonger log xs ys (longer xs ys)
IsLonger-longer log xs ys a b = IsLonger-if log xs ys a b (nat_le (length ys) (length xs)) refl

-- a function on numbers, whose value `from` becomes `to`
abbrev moved_to : (ℕ → ℕ) → ℕ → ℕ → ℕ → ℕ
moved_to f from to q = cond (eqb (f q) from) to (f q)

moved_to-same : (f : ℕ → ℕ) (from to q : ℕ) → f q ≡ from → moved_to f from to q ≡ to
moved_to-same f from to q e = ap (λ (b : Bool). cond b to (f q)) (eq-eqb (f q) from e)

moved_to-other : (f : ℕ → ℕ) (from to q : ℕ) → f q ≢ from → moved_to f from to q ≡ f q
moved_to-other f from to q ne = ap (λ (b : Bool). cond b to (f q)) (ne_eqb (f q) from ne)

module _ (cells : List CellState) (tasks : ℕ) where
  pub Joins-gathered : (id : ℕ) (v : View) (other : ℕ) (w : View) → v.held ≡ None → w.held ≡ None → Has v.number v.numbers → Joins (Rule cells tasks) id v other w (gathered v w) spent
  Joins-gathered id v other w idle idle' acts s k at apart there =
      let at' : get_elem? s.views other ≡ some w = sym (set_else s.views id other (gathered v w) apart) ∙ there in
      let e = k.each id v at in let d = k.each other w at' in
      let u : View = gathered v w in let vs : List View = set s.views id u in let es : List Event = longer v.history w.history in
      let g : ℕ → ℕ = moved_to k.seat_of other id in
      let K = Knows cells tasks s.words k.log k.holder g in
      let l = IsLonger-longer k.log v.history w.history e.begins d.begins in
      let here = e.numbered v.number acts in
      let mine : (q : ℕ) → Has q v.numbers → of_task q es ≡ of_task q k.log = λ q h. of_task-between q v.history es k.log l.left l.begins (e.numbered q h).events in
      let theirs : (q : ℕ) → Has q w.numbers → of_task q es ≡ of_task q k.log = λ q h. of_task-between q w.history es k.log l.right l.begins (d.numbered q h).events in
      let first : Grows (growth v.numbers v.history es) = (l.left, λ q h. mine q h ∙ sym (e.numbered q h).events) in
      let second : Grows (growth w.numbers w.history es) = (l.right, λ q h. theirs q h ∙ sym (d.numbered q h).events) in
      let both : K id u = record {
        numbered = λ q h. ⊎_elim
            (λ p. let t = e.numbered q p in record {
              by = moved_to-other k.seat_of other id q (λ z. apart (sym z ∙ t.by)) ∙ t.by;
              ours = t.ours;
              events = mine q p;
              opening = t.opening;
              tasks_is = t.tasks_is;
            })
            (λ p. let t = d.numbered q p in record {
              by = moved_to-same k.seat_of other id q t.by;
              ours = t.ours;
              events = theirs q p;
              opening = here.opening;
              tasks_is = here.tasks_is;
            })
            (Has-append_cases q v.numbers w.numbers h);
        begins = l.begins;
        missed = All-append (IsTrueMiss cells tasks s.words k.log) v.misses w.misses e.missed d.missed;
        grew = All-cons Grows (growth v.numbers v.history es) (growth w.numbers w.history es ∷ []) first (All-cons Grows (growth w.numbers w.history es) [] second (All-nil Grows));
        holds = λ h q. absurd (holds_nothing v h.cell idle h q refl);
        acts = λ h q. absurd (holds_nothing v h.cell idle h q refl);
      } in
      let others : (j : ℕ) (x : View) → j ≢ other → get_elem? vs j ≡ some x → K j x = λ j x ne p. ⊎_elim
      (λ (t : (j ≡ id) × (u ≡ x)). subst (λ (z : ℕ × View). K z.0 z.1) (λ i. (sym t.0 i, t.1 i)) both)
      (λ (t : (j ≢ id) × (get_elem? s.views j ≡ some x)). let o = k.each j x t.1 in record {
        numbered = λ q h. let z = o.numbered q h in record {
          by = moved_to-other k.seat_of other id q (λ y. ne (sym z.by ∙ y)) ∙ z.by;
          ours = z.ours;
          events = z.events;
          opening = z.opening;
          tasks_is = z.tasks_is;
        };
        begins = o.begins;
        missed = o.missed;
        grew = o.grew;
        holds = o.holds;
        acts = o.acts;
      })
      (at_set s.views id j u x p) in record {
        log = k.log;
        holder = k.holder;
        seat_of = g;
        wide = k.wide;
        legal = k.legal;
        ours = k.ours;
        free = k.free;
        busy = λ c low b. HeldBy-set_other vs other (k.holder c) c w spent there (holds_nothing w c idle')
            (HeldBy-set_other s.views id (k.holder c) c v u at (holds_nothing v c idle) (k.busy c low b));
        each = each_set K vs other spent
            record {
              numbered = λ q h. absurd (Has-nil q h);
              begins = (k.log, refl);
              missed = All-nil (IsTrueMiss cells tasks s.words k.log);
              grew = All-nil Grows;
              holds = λ h q. absurd (no_hold h q);
              acts = λ h q. absurd (no_hold h q);
            }
            others;
      }

  pub Allows-vouch : (slots id : ℕ) (me : TokenState) (i : ℕ) → Has me.0.number me.0.numbers → Allows (Rule cells tasks) slots id me i (λ x. x) (vouched (step slots i 0 0 none) me)
  Allows-vouch slots id me i acts s k _ at _ = let v : View = me.0 in let e = k.each id v at in let mine = e.numbered v.number acts in let b = e.begins in (
    v,
    keeps,
    tt,
    Rule-same cells tasks s i id me at k,
    (
      refl,
      subst (λ (cs : List CellState). Legal cs v.history) (sym mine.opening) (Legal-append_left cells v.history b.0 (subst (λ (es : List Event). Legal cells es) b.1 k.legal)),
      subst (λ (m : ℕ). AllUpTo m v.history) (sym mine.tasks_is) (All-append_left (λ (x : Event). x.task ≤ tasks) v.history b.0 (subst (λ (es : List Event). AllUpTo tasks es) b.1 k.ours)),
      e.grew,
    ),
  )
