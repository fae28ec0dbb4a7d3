-- A loop over the indices that a locale owns is that over all indices, in which the others do nothing.
use Rattle.std.proofs.Common.{◌≡◌, ℕ, ◌==◌, ◌<◌, ◌≤◌, arith, Bool, true, false, cond, List, [], ◌∷◌, refl, ap, ◌∙◌}
use Rattle.std.specs.Prelude.{if◌then◌else◌}
use Rattle.std.specs.List.{filter}
use Rattle.dpl_array.specs.Elements.{Row, behind}
use Rattle.dpl_language.specs.Values.{Index}
use Rattle.dpl_language.specs.Outcome.{Deeds, Done, Run, then_do, in_order, naming}
use Rattle.dpl_language.specs.Loops.{named_turn}
use Rattle.dpl_memory.specs.Memory.{Memory}
use Rattle.dpl_workers.specs.Owned.{owned_turn}
use Rattle.dpl_loop.specs.Runs.{AreDone}

module _ (owns : Index → ℕ) (l : ℕ) (turn : Index → Run Memory) where
  pub owned-order : (ts : List Index) (s : Memory) (done : Deeds) → in_order (named_turn (owned_turn owns l turn)) ts s done ≡ in_order (named_turn turn) (filter (λ t. owns t == l) ts) s done
  owned-order [] s done = refl
  owned-order (t ∷ ts) s done = by (λ s done. owned-order ts s done) (owns t == l) where
    by : ((s : Memory) (done : Deeds) → in_order (named_turn (owned_turn owns l turn)) ts s done ≡ in_order (named_turn turn) (filter (λ t. owns t == l) ts) s done)
        → (c : Bool) → then_do (naming t (if c then turn t s done else Done s done)) (in_order (named_turn (owned_turn owns l turn)) ts)
        ≡ in_order (named_turn turn) (cond c (t ∷ filter (λ t. owns t == l) ts) (filter (λ t. owns t == l) ts)) s done
    by rest true = ap (then_do (naming t (turn t s done))) (λ i s done. rest s done i)
    by rest false = rest s done

  -- the turns of a row, of which all are the locale's, or none is
  module _ (row : Row) (first size : ℕ) (same : (k : ℕ) → k < size → owns (behind k row) ≡ first) where
    pub own-done : (made : ℕ) (before after : Memory) → (first == l) ≡ true → made ≤ size → AreDone turn row made before after → AreDone (owned_turn owns l turn) row made before after
    own-done made before after is most are = record {
      between = are.between;
      begins = are.begins;
      ends = are.ends;
      each = λ k below done.
          ap (λ c. if c then turn (behind k row) (are.between k) done else Done (are.between k) done) (ap (λ n. n == l) (same k (omega (arith, below, most))) ∙ is)
          ∙ are.each k below done;
    }

    pub others-done : (before : Memory) → (first == l) ≡ false → AreDone (owned_turn owns l turn) row size before before
    others-done before other = record {
      between = λ k. before;
      begins = refl;
      ends = refl;
      each = λ k below done.
          ap (λ c. if c then turn (behind k row) before done else Done before done) (ap (λ n. n == l) (same k below) ∙ other);
    }
