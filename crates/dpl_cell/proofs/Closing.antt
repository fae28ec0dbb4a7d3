-- A seat that answers for all numbers knows the whole log, and no cell is held.
-- So its history leaves the cells that the words stand for.
use Rattle.std.proofs.Common.{◌≡◌, ◌≢◌, ℕ, zero, suc, ◌+◌, ◌<◌, ◌≤◌, List, [], ◌∷◌, length, get_or, set, None, All, sym, ap, ◌∙◌, subst, ⊎_elim, arith, get_or-set_same, get_or-set_other}
use Rattle.std.proofs.lemmas.List.{ext_get_or}
use Rattle.std.proofs.lemmas.List.Elements.{All-weaker}
use mathlib.Core.Option.{some, some-injective, some-ne-none}
use mathlib.Core.Logic.{dite}
use native.Mathlib.Decide.{ℕ_discrete}
use lib.ListN.{get_elem?}
use Rattle.atomic_table.specs.Table.{Final, Seen}
use Rattle.dpl_history.specs.declared.cell.CellState.{CellState}
use Rattle.dpl_history.specs.declared.cell.CellState.TheVariants.{Empty}
use Rattle.dpl_history.specs.declared.cell.CellOp.{CellOp}
use Rattle.dpl_history.specs.declared.history.Event.{Event}
use Rattle.dpl_history.specs.declared.history.Miss.{Miss}
use Rattle.dpl_cell.specs.declared.view.View.{View}
use Rattle.dpl_history.specs.Histories.{cell_at, after, Legal, AllUpTo}
use Rattle.dpl_history.specs.Looks.{Agrees}
use Rattle.dpl_cell.specs.Seats.{Has}
use Rattle.dpl_cell.specs.Rule.{cell_of, IsPending, IsTrueMiss, IsKept}
use Rattle.dpl_history.proofs.Histories.{whole, length-after}
use Rattle.dpl_cell.proofs.Views.{holds_nothing}
use Rattle.dpl_cell.proofs.Looking.{Rule, word_at}

-- what the words of n cells and the view of a seat that answers for all say at the end
pub record Closes (n : ℕ) (v : View) (ws : List ℕ) : Type 0 where
  pub wide : length v.opening ≡ n
  pub legal : Legal v.opening v.history
  pub ours : AllUpTo v.tasks v.history
  pub misses : All (Agrees v.opening v.history) v.misses
  pub cells : (c : ℕ) → c < n → cell_at (after v.opening v.history) c ≡ cell_of (word_at ws c) (word_at ws (n + c))

module _ (cells : List CellState) (tasks : ℕ) where
  Closes-kept : (ws : List ℕ) (vs : List View) (k : IsKept cells tasks ws vs) (id : ℕ) (v : View) → get_elem? vs id ≡ some v → v.held ≡ None → v.opening ≡ cells → v.tasks ≡ tasks
      → ((q : ℕ) → q ≤ tasks → Has q v.numbers) → Closes (length cells) v ws
  Closes-kept ws vs k id v at idle same_cells same_tasks all =
      let e = k.each id v at in
      let is : k.log ≡ v.history = whole tasks v.history k.log e.begins k.ours (λ q h. (e.numbered q (all q h)).events) in
      let not_busy : (c : ℕ) → c < length cells → word_at ws c ≢ 2 = λ c l b.
      let h = k.busy c l b in let o = k.each (k.holder c) h.0 h.2 in let t = o.numbered h.0.number (o.acts h.1 h.3) in
      let mine = e.numbered h.0.number (all h.0.number t.ours) in
      let seat : k.holder c ≡ id = sym t.by ∙ mine.by in
      holds_nothing v c idle h.1 (ap (λ (w : View). w.held) (some-injective v h.0 (sym at ∙ subst (λ (i : ℕ). get_elem? vs i ≡ some h.0) seat h.2)) ∙ h.3) h.4 in
      let agrees : (m : Miss) → IsTrueMiss cells tasks ws k.log m → Agrees v.opening v.history m = λ m t.
      subst (λ (z : List CellState × List Event). Agrees z.0 z.1 m) (λ i. (sym same_cells i, is i)) (⊎_elim (λ a. a) (λ (z : IsPending cells tasks ws k.log m). absurd (not_busy m.cell z.inside z.busy)) t) in record {
        wide = ap (λ (cs : List CellState). length cs) same_cells;
        legal = subst (λ (z : List CellState × List Event). Legal z.0 z.1) (λ i. (sym same_cells i, is i)) k.legal;
        ours = subst (λ (z : ℕ × List Event). AllUpTo z.0 z.1) (λ i. (sym same_tasks i, is i)) k.ours;
        misses = All-weaker (IsTrueMiss cells tasks ws k.log) (Agrees v.opening v.history) agrees v.misses e.missed;
        cells = λ c l. subst (λ (z : List CellState × List Event). cell_at (after z.0 z.1) c ≡ cell_of (word_at ws c) (word_at ws (length cells + c))) (λ i. (sym same_cells i, is i)) (k.free c l (not_busy c l)).is;
      }

  pub Closes-final : (id : ℕ) (v : View) (ws : List ℕ) (xs : List CellOp) → Final (Seen (Rule cells tasks) id v) ws xs → v.held ≡ None → Has v.number v.numbers → ((q : ℕ) → q ≤ v.tasks → Has q v.numbers) → Closes (length cells) v ws
  Closes-final id v ws xs f idle acts all = let s = f.0 in let k = f.1.0 in let t = (k.each id v f.1.1).numbered v.number acts in
      subst (λ (l : List ℕ). Closes (length cells) v l) f.2
      (Closes-kept s.words s.views k id v f.1.1 idle t.opening t.tasks_is (λ q h. all q (subst (λ (m : ℕ). q ≤ m) (sym t.tasks_is) h)))

pub get_or-get_elem? : {A : Type 0} (l : List A) (i : ℕ) (a d : A) → get_elem? l i ≡ some a → get_or l i d ≡ a
get_or-get_elem? [] i a d e = absurd (some-ne-none a (sym e))
get_or-get_elem? (x ∷ xs) zero a d e = some-injective x a e
get_or-get_elem? (x ∷ xs) (suc i) a d e = get_or-get_elem? xs i a d e

-- the cells below i are f of their numbers, and the one at i is written
pub cell_at-set : (xs : List CellState) (i : ℕ) (x : CellState) (f : ℕ → CellState) → i < length xs → ((k : ℕ) → k < i → cell_at xs k ≡ f k) → x ≡ f i
    → (k : ℕ) → k < i + 1 → cell_at (set xs i x) k ≡ f k
cell_at-set xs i x f inside below is k h = dite (ℕ_discrete k i)
    (λ e. ap (λ (z : ℕ). get_or (set xs i x) z Empty) e ∙ (get_or-set_same xs i x Empty inside ∙ (is ∙ ap f (sym e))))
    (λ ne. get_or-set_other xs i k x Empty ne ∙ below k (omega arith))

-- the cells that were filled from the words are those that the history leaves
pub after-filled : (n : ℕ) (v : View) (ws : List ℕ) (xs : List CellState) → Closes n v ws → length xs ≡ n → ((k : ℕ) → k < n → cell_at xs k ≡ cell_of (word_at ws k) (word_at ws (n + k)))
    → xs ≡ after v.opening v.history
after-filled n v ws xs z long each = ext_get_or Empty xs (after v.opening v.history) (long ∙ (sym z.wide ∙ sym (length-after v.opening v.history)))
    (λ k h. let l : k < n = subst (λ (q : ℕ). k < q) long h in each k l ∙ sym (z.cells k l))
