-- Reading and writing the value word of a held cell keep the rule.
-- The cell stays busy, so no other seat looks at that word.
use Rattle.std.proofs.Common.{◌≡◌, ◌≢◌, ℕ, ◌+◌, ◌<◌, List, length, set, Some, sym, refl, ap, ◌∙◌, subst, inl, inr, ⊎_elim, arith, length-set, get_or-set_other, get_or-set_same}
use Rattle.std.proofs.lemmas.List.Elements.{All-weaker}
use mathlib.Core.Option.{some, none}
use mathlib.Core.Logic.{dite}
use native.Mathlib.Decide.{ℕ_discrete}
use lib.ListN.{get_elem?}
use Rattle.atomic_table.specs.Table.{step, keeps, stepped, Allows}
use Rattle.dpl_history.specs.declared.cell.CellState.{CellState}
use Rattle.dpl_history.specs.declared.history.Miss.{Miss}
use Rattle.dpl_cell.specs.declared.view.Hold.{Hold}
use Rattle.dpl_cell.specs.declared.view.View.{View}
use Rattle.dpl_cell.specs.Rule.{cell_of, Holds, IsPending, IsTrueMiss, Knows, IsKept}
use Rattle.dpl_cell.specs.Steps.{TokenState, was_read, was_written}
use Rattle.dpl_cell.proofs.Views.{get_elem?-set_same, each_set, holds_other, HeldBy-set_other}
use Rattle.dpl_cell.proofs.Looking.{Rule, word_at, Rule-same}
use Rattle.dpl_cell.proofs.Taking.{holding, AnswersFor-holding}

module _ (cells : List CellState) (tasks : ℕ) where
  pub Allows-read : (slots id : ℕ) (me : TokenState) (i : ℕ) (h : Hold) → me.0.held ≡ Some h → i ≡ length cells + h.cell
      → Allows (Rule cells tasks) slots id me i (λ x. x) (was_read (step slots i 0 0 none) me)
  Allows-read slots id me i h is word s k _ at _ = (
    me.0,
    keeps,
    tt,
    Rule-same cells tasks s i id me at k,
    (
      refl,
      λ g q. let same : h ≡ g = cc in ap (word_at s.words) (word ∙ ap (λ (z : Hold). length cells + z.cell) same) ∙ ((k.each id me.0 at).holds g q).value,
    ),
  )

  IsKept-written : (ws : List ℕ) (vs : List View) (k : IsKept cells tasks ws vs) (id : ℕ) (v : View) → get_elem? vs id ≡ some v → (h : Hold) → v.held ≡ Some h → (b : ℕ)
      → IsKept cells tasks (set ws (length cells + h.cell) b) (set vs id (holding v (record h { value = b })))
  IsKept-written ws vs k id v at h is b =
      let e = k.each id v at in let mine = e.holds h is in let wide = k.wide in let low = mine.inside in let n : ℕ = length cells in
      let p : ℕ = n + h.cell in let g : Hold = record h { value = b } in let u : View = holding v g in
      let new : List ℕ = set ws p b in
      let there : p < length ws = omega arith in
      let state : (d : ℕ) → d < n → word_at new d ≡ word_at ws d = λ d l. get_or-set_other ws p d b 0 (λ (q : d ≡ p). omega arith) in
      let other_value : (d : ℕ) → d ≢ h.cell → word_at new (n + d) ≡ word_at ws (n + d) = λ d ne. get_or-set_other ws p (n + d) b 0 (λ (q : n + d ≡ p). ne (omega arith)) in
      let K = Knows cells tasks new k.log k.holder k.seat_of in
      let misses_stay : (m : Miss) → IsTrueMiss cells tasks ws k.log m → IsTrueMiss cells tasks new k.log m = λ m t. ⊎_elim (λ a. inl a)
      (λ (z : IsPending cells tasks ws k.log m). inr record { word = z.word; place = z.place; inside = z.inside; busy = state m.cell z.inside ∙ z.busy })
      t in record {
        log = k.log;
        holder = k.holder;
        seat_of = k.seat_of;
        wide = length-set ws p b ∙ wide;
        legal = k.legal;
        ours = k.ours;
        free = λ d l not. let r = k.free d l (λ q. not (state d l ∙ q)) in let apart : d ≢ h.cell = (λ q. not (state d l ∙ (ap (word_at ws) q ∙ mine.busy))) in record {
          small = subst (λ (z : ℕ). z < 2) (sym (state d l)) r.small;
          is = r.is ∙ (λ i. cell_of (sym (state d l) i) (sym (other_value d apart) i));
        };
        busy = λ d l q. dite (ℕ_discrete d h.cell)
            (λ z. (u, g, subst (λ (j : ℕ). get_elem? (set vs id u) j ≡ some u) (sym (ap k.holder z ∙ mine.mine)) (get_elem?-set_same vs id v u at), refl, sym z))
            (λ ne. HeldBy-set_other vs id (k.holder d) d v u at (holds_other v h d is ne) (k.busy d l (sym (state d l) ∙ q)));
        each = each_set K vs id u
            record {
              numbered = λ q z. AnswersFor-holding cells tasks k.log k.seat_of id v g q (e.numbered q z);
              begins = e.begins;
              missed = All-weaker _ _ misses_stay v.misses e.missed;
              grew = e.grew;
              holds = λ o q. let same : g ≡ o = cc in subst (λ (z : Hold). Holds cells tasks new k.log k.holder id z) same record {
                inside = low;
                mine = mine.mine;
                busy = state h.cell low ∙ mine.busy;
                value = get_or-set_same ws p b 0 there;
                before = mine.before;
              };
              acts = λ _ _. e.acts h is;
            }
            (λ j w ne q. let o = k.each j w q in record {
              numbered = o.numbered;
              begins = o.begins;
              missed = All-weaker _ _ misses_stay w.misses o.missed;
              grew = o.grew;
              holds = λ f z. let t = o.holds f z in let apart : f.cell ≢ h.cell = (λ y. ne (sym t.mine ∙ (ap k.holder y ∙ mine.mine))) in record {
                inside = t.inside;
                mine = t.mine;
                busy = state f.cell t.inside ∙ t.busy;
                value = other_value f.cell apart ∙ t.value;
                before = t.before;
              };
              acts = o.acts;
            });
      }

  pub Allows-write : (slots id : ℕ) (me : TokenState) (i b : ℕ) (h : Hold) → me.0.held ≡ Some h → i ≡ length cells + h.cell
      → Allows (Rule cells tasks) slots id me i (λ _. b) (λ _. was_written (step slots i b 0 none) me b)
  Allows-write slots id me i b h is word s k _ at _ = let u : View = holding me.0 (record h { value = b }) in (
    u,
    keeps,
    tt,
    subst (λ (z : ℕ). Rule cells tasks (stepped s z b id me.1 u keeps)) (sym word) (IsKept-written s.words s.views k id me.0 at h is b),
    λ g q. let same : h ≡ g = cc in ap (λ (z : Hold). (holding me.0 (record z { value = b }), me.1)) same,
  )
