-- The turns of a loop from a place on, by the turn at that place.
use Rattle.std.proofs.Common.{◌≡◌, ℕ, zero, suc, ◌+◌, ◌≤◌, ◌<◌, arith, List, drop, length, slice_get, Some, Result, Ok, Err, sym, ap, ◌∙◌}
use Rattle.std.specs.Prelude.{IfOk}
use Rattle.std.proofs.lemmas.Option.{slice_get_within}
use Rattle.dpl_range.proofs.Lists.{drop-slice_get}
use Rattle.dpl_array.specs.Elements.{Row, behind}
use Rattle.dpl_language.specs.Values.{Index}
use Rattle.dpl_language.specs.Outcome.{Deeds, Done, Run, then_do, in_order, naming}
use Rattle.dpl_language.specs.Loops.{named_turn}
use Rattle.dpl_memory.specs.Memory.{Memory}
use Rattle.dpl_loop.specs.declared.stop.RunStop.{RunStop}
use Rattle.dpl_loop.specs.Runs.{AreDone, RunsTo}
use Rattle.dpl_loop.proofs.Ends.{then_do-halts, halts-alike}

-- what follows of a value, where there is one
pub ok-then : {A E : Type 0} {P Q : A → Type 0} (r : Result A E) → IfOk r P → ((x : A) → P x → Q x) → IfOk r Q
ok-then (Ok x) p go = go x p
ok-then (Err e) p go = tt

module _ {A E : Type 0} {P Q R : A → Type 0} where
  pub ok-both : (r : Result A E) → IfOk r P → IfOk r Q → ((x : A) → P x → Q x → R x) → IfOk r R
  ok-both (Ok x) p q go = go x p q
  ok-both (Err e) p q go = tt

module _ (turn : Index → Run Memory) (ts : List Index) (k : ℕ) (t : Index) (s next : Memory) (done after : Deeds) (at : slice_get ts k ≡ Some t) where
  order-at : in_order turn (drop k ts) s done ≡ then_do (turn t s done) (in_order turn (drop (k + 1) ts))
  order-at = ap (λ ts. in_order turn ts s done) (drop-slice_get ts k t at)

  pub order-done : turn t s done ≡ Done next after → in_order turn (drop (k + 1) ts) next after ≡ in_order turn (drop k ts) s done
  order-done e = sym (order-at ∙ ap (λ o. then_do o (in_order turn (drop (k + 1) ts))) e)

  pub order-halts : (may : Type 0) (h : RunStop) → RunsTo may (Err h) next after (turn t s done) → RunsTo may (Err h) next after (in_order turn (drop k ts) s done)
  order-halts may h e =
      halts-alike may h next next after (then_do (turn t s done) (in_order turn (drop (k + 1) ts))) (in_order turn (drop k ts) s done) order-at
      (then_do-halts may h next next after (turn t s done) (in_order turn (drop (k + 1) ts)) e)

-- places that all have an index end where the list does, at the latest
pub run-within : (ts : List Index) (place size : ℕ) → ((k : ℕ) → k < size → (t : Index) × (slice_get ts (place + k) ≡ Some t)) → place < length ts → place + size ≤ length ts
run-within ts place zero run within = omega (arith, within)
run-within ts place (suc k) run within = let last = run k (omega arith) in let below = slice_get_within ts (place + k) last.0 last.1 in omega (arith, below)

-- the turns of a row, which are done
module _ (turn : Index → Run Memory) (ts : List Index) (place : ℕ) (t : Row) (size : ℕ) (s next : Memory) (done : Deeds) (are : AreDone turn t size s next) (row : (k : ℕ) → k < size → slice_get ts (place + k) ≡ Some (behind k t)) where
  order-some : (n : ℕ) → n ≤ size → in_order (named_turn turn) (drop (place + n) ts) (are.between n) done ≡ in_order (named_turn turn) (drop place ts) s done
  order-some zero most =
      let same : place + 0 ≡ place = omega arith in
      ap (λ k. in_order (named_turn turn) (drop k ts) (are.between 0) done) same
      ∙ ap (λ m. in_order (named_turn turn) (drop place ts) m done) are.begins
  order-some (suc n) most =
      let below : n < size = omega (arith, most) in
      let next_place : place + suc n ≡ (place + n) + 1 = omega arith in
      let next_one : suc n ≡ n + 1 = omega arith in
      ap (λ k. in_order (named_turn turn) (drop k ts) (are.between (suc n)) done) next_place
      ∙ ap (λ k. in_order (named_turn turn) (drop ((place + n) + 1) ts) (are.between k) done) next_one
      ∙ order-done (named_turn turn) ts (place + n) (behind n t) (are.between n) (are.between (n + 1)) done done (row n below) (ap (naming (behind n t)) (are.each n below done))
      ∙ order-some n (omega (arith, most))

  pub order-row : in_order (named_turn turn) (drop (place + size) ts) next done ≡ in_order (named_turn turn) (drop place ts) s done
  order-row = ap (λ m. in_order (named_turn turn) (drop (place + size) ts) m done) (sym are.ends) ∙ order-some size (omega arith)
