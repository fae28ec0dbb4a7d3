-- The words and the first view of a board keep its rule.
-- The first seat answers for all numbers, and gives them away one by one.
use Rattle.std.proofs.Common.{◌≡◌, ◌≢◌, ℕ, zero, suc, ◌+◌, ◌-◌, ◌<◌, ◌≤◌, List, [], ◌∷◌, length, None, sym, refl, ap, subst, arith}
use Rattle.std.proofs.lemmas.List.Elements.{All-nil}
use mathlib.Core.Option.{some, some-injective, some-ne-none}
use lib.ListN.{get_elem?}
use Rattle.dpl_history.specs.declared.cell.CellState.{CellState}
use Rattle.dpl_history.specs.declared.history.Event.{Event}
use Rattle.dpl_cell.specs.declared.view.View.{View}
use Rattle.dpl_cell.specs.declared.rule.Plan.{Plan}
use Rattle.dpl_history.specs.Histories.{cell_at}
use Rattle.dpl_cell.specs.Seats.{Has}
use Rattle.dpl_cell.specs.Rule.{cell_of, Grows, IsTrueMiss, Knows, IsKept, numbers_from, first_view, AreOpening}
use Rattle.dpl_cell.specs.Steps.{first_of, rest_of, without_first, with_first}
use Rattle.dpl_cell.proofs.Numbers.{Has-numbers_from}
use Rattle.dpl_cell.proofs.Views.{no_hold}
use Rattle.dpl_cell.proofs.Looking.{word_at}

-- the words of the first i cells are written, and the state words after them are 0
pub record AreOpeningUpTo (cells : List CellState) (ws : List ℕ) (i : ℕ) : Type 0 where
  pub wide : length ws ≡ length cells + length cells + 1
  pub small : (c : ℕ) → c < i → word_at ws c < 2
  pub are : (c : ℕ) → c < i → cell_at cells c ≡ cell_of (word_at ws c) (word_at ws (length cells + c))
  pub rest : (c : ℕ) → i ≤ c → c < length cells → word_at ws c ≡ 0

pub IsKept-first_view : (p : Plan) (ws : List ℕ) → AreOpening p.cells.items ws → IsKept p.cells.items p.tasks ws (first_view p ∷ [])
IsKept-first_view p ws a = record {
  log = [];
  holder = λ _. 0;
  seat_of = λ _. 0;
  wide = a.wide;
  legal = tt;
  ours = All-nil (λ (e : Event). e.task ≤ p.tasks);
  free = λ c l _. record { small = a.small c l; is = a.are c l };
  busy = λ c l b. let small = a.small c l in absurd (omega arith);
  each = each;
}
  where
    first : Knows p.cells.items p.tasks ws [] (λ _. 0) (λ _. 0) 0 (first_view p)
    first = record {
      numbered = λ k h. let t = (Has-numbers_from k 0 (p.tasks + 1) h).1 in record { by = refl; ours = omega arith; events = refl; opening = refl; tasks_is = refl };
      begins = ([], refl);
      missed = All-nil (IsTrueMiss p.cells.items p.tasks ws []);
      grew = All-nil Grows;
      holds = λ h q. absurd (no_hold h q);
      acts = λ h q. absurd (no_hold h q);
    }

    each : (j : ℕ) (v : View) → get_elem? (first_view p ∷ []) j ≡ some v → Knows p.cells.items p.tasks ws [] (λ _. 0) (λ _. 0) j v
    each zero v e = subst (Knows p.cells.items p.tasks ws [] (λ _. 0) (λ _. 0) 0) (some-injective (first_view p) v e) first
    each (suc j) v e = absurd (some-ne-none v (sym e))

-- the numbers after the first are other ones
pub Has-numbers_after : (k n q : ℕ) → Has q (numbers_from (k + 1) n) → q ≢ k
Has-numbers_after k n q h e = let t = (Has-numbers_from q (k + 1) n h).0 in omega arith

-- the first view, once the numbers below i are given away
abbrev pub first_view_from : Plan → ℕ → View
first_view_from p i = record (first_view p) { numbers = numbers_from i ((p.tasks + 1) - i) }

pub numbers_from-suc : (t i : ℕ) → i < t → numbers_from i ((t + 1) - i) ≡ i ∷ numbers_from (i + 1) ((t + 1) - (i + 1))
numbers_from-suc t i h = let e : (t + 1) - i ≡ suc ((t + 1) - (i + 1)) = omega arith in ap (numbers_from i) e

pub without_first-first_view_from : (p : Plan) (i : ℕ) → i < p.tasks → without_first (first_view_from p i) ≡ first_view_from p (i + 1)
without_first-first_view_from p i h = ap (λ ns. record (first_view p) { numbers = rest_of ns }) (numbers_from-suc p.tasks i h)

pub first_of-numbers_from : (t i : ℕ) → i < t → first_of (numbers_from i ((t + 1) - i)) ≡ i
first_of-numbers_from t i h = ap first_of (numbers_from-suc t i h)

-- what a new board hands out as the seat k
abbrev pub fresh_view : Plan → ℕ → View
fresh_view p k = record { opening = p.cells.items; tasks = p.tasks; number = k; numbers = k ∷ []; history = []; misses = []; held = None; joins = [] }

pub with_first-first_view_from : (p : Plan) (i : ℕ) → i < p.tasks → with_first (first_view_from p i) ≡ fresh_view p i
with_first-first_view_from p i h = ap (fresh_view p) (first_of-numbers_from p.tasks i h)

pub first_view_from-last : (p : Plan) → first_view_from p p.tasks ≡ fresh_view p p.tasks
first_view_from-last p = let e : (p.tasks + 1) - p.tasks ≡ 1 = omega arith in ap (λ (m : ℕ). record (first_view p) { numbers = numbers_from p.tasks m }) e
