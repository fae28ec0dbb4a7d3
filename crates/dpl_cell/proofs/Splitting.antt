-- Cutting a seat off keeps the rule: the first of a seat's numbers goes to a new seat.
-- The new seat knows the same history and no misses.
use Rattle.std.proofs.Common.{◌≡◌, ◌≢◌, ℕ, List, [], ◌∷◌, length, set, None, sym, refl, ap, ◌∙◌, subst, ⊎_elim}
use Rattle.std.proofs.lemmas.List.Elements.{All-nil}
use mathlib.Core.Option.{some}
use lib.ListN.{get_elem?}
use Rattle.atomic_table.specs.Table.{Splits}
use Rattle.atomic_table.proofs.Lists.{at_longer}
use Rattle.dpl_history.specs.declared.cell.CellState.{CellState}
use Rattle.dpl_cell.specs.declared.view.View.{View}
use Rattle.dpl_cell.specs.Seats.{Has}
use Rattle.dpl_cell.specs.Rule.{Grows, IsTrueMiss, Knows}
use Rattle.dpl_cell.specs.Steps.{first_of, rest_of, without_first, with_first}
use Rattle.dpl_cell.proofs.Numbers.{Has-head, Has-tail, Has-one}
use Rattle.dpl_cell.proofs.Views.{get_elem?-push, changed_at, changed_at-same, changed_at-other, each_set, no_hold, holds_nothing, HeldBy-set_same}
use Rattle.dpl_cell.proofs.Looking.{Rule}

module _ (cells : List CellState) (tasks : ℕ) where
  pub Splits-first : (id : ℕ) (v : View) (first : ℕ) (rest : List ℕ) → v.numbers ≡ first ∷ rest → ((k : ℕ) → Has k rest → k ≢ first) → v.held ≡ None
      → Splits (Rule cells tasks) id v (without_first v) (with_first v)
  Splits-first id v first rest is apart idle s k at =
      let e = k.each id v at in let left : View = without_first v in let right : View = with_first v in
      let vs : List View = set s.views id left in let m : ℕ = length vs in
      let g : ℕ → ℕ = changed_at k.seat_of first m in
      let has_first : Has first v.numbers = subst (λ ns. Has first ns) (sym is) (Has-head first rest) in
      let mine = e.numbered first has_first in
      let K = Knows cells tasks s.words k.log k.holder g in
      let has_rest : (q : ℕ) → Has q left.numbers → Has q rest = λ q h. subst (λ ns. Has q (rest_of ns)) is h in
      let all_left : (j : ℕ) (u : View) → get_elem? vs j ≡ some u → K j u = each_set K s.views id left
      record {
        numbered = λ q h. let r = has_rest q h in let t = e.numbered q (subst (λ ns. Has q ns) (sym is) (Has-tail q first rest r)) in record {
          by = changed_at-other k.seat_of first m q (apart q r) ∙ t.by;
          ours = t.ours;
          events = t.events;
          opening = t.opening;
          tasks_is = t.tasks_is;
        };
        begins = e.begins;
        missed = e.missed;
        grew = e.grew;
        holds = λ h q. absurd (holds_nothing v h.cell idle h q refl);
        acts = λ h q. absurd (holds_nothing v h.cell idle h q refl);
      }
      (λ j u ne p. let o = k.each j u p in record {
        numbered = λ q h. let t = o.numbered q h in record {
          by = changed_at-other k.seat_of first m q (λ z. ne (sym t.by ∙ (ap k.seat_of z ∙ mine.by))) ∙ t.by;
          ours = t.ours;
          events = t.events;
          opening = t.opening;
          tasks_is = t.tasks_is;
        };
        begins = o.begins;
        missed = o.missed;
        grew = o.grew;
        holds = o.holds;
        acts = o.acts;
      }) in
      let knows_right : K m right = record {
        numbered = λ q h. let one : first ≡ q = ap (λ ns. first_of ns) (sym is) ∙ Has-one q (first_of v.numbers) h in
            let t = e.numbered q (subst (λ x. Has x v.numbers) one has_first) in record {
              by = ap g (sym one) ∙ changed_at-same k.seat_of first m;
              ours = t.ours;
              events = t.events;
              opening = t.opening;
              tasks_is = t.tasks_is;
            };
        begins = e.begins;
        missed = All-nil (IsTrueMiss cells tasks s.words k.log);
        grew = All-nil Grows;
        holds = λ h q. absurd (no_hold h q);
        acts = λ h q. absurd (no_hold h q);
      } in record {
        log = k.log;
        holder = k.holder;
        seat_of = g;
        wide = k.wide;
        legal = k.legal;
        ours = k.ours;
        free = k.free;
        busy = λ c l b. let h = HeldBy-set_same s.views id (k.holder c) c v left at refl (k.busy c l b) in (h.0, h.1, at_longer vs (right ∷ []) (k.holder c) h.0 h.2, h.3, h.4);
        each = λ j u p. ⊎_elim (λ q. all_left j u q)
            (λ (t : (j ≡ m) × (right ≡ u)). subst (λ (x : ℕ × View). K x.0 x.1) (λ i. (sym t.0 i, t.1 i)) knows_right)
            (get_elem?-push vs right u j p);
      }
