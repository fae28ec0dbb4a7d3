-- A reduction is what the folds of its parts come to, each begun with the operator's value over nothing.
use Rattle.std.proofs.Common.{◌≡◌, ℕ, zero, suc, ◌<◌, true, List, [], ◌∷◌, Some, slice_get, arith, Result, Ok, Err, refl, ap, ◌∙◌}
use Rattle.std.specs.List.{All, AllByRecursion}
use Rattle.std.specs.Result.{IfOk}
use Rattle.dpl_language.specs.Tree.{Op}
use Rattle.dpl_language.specs.Values.{Value, Index, Fault}
use Rattle.dpl_language.specs.Arithmetic.{combined, unit_of}
use Rattle.dpl_language.specs.Outcome.{with_ok, naming_value}
use Rattle.dpl_language.specs.Expressions.{folded}
use Rattle.dpl_apart.specs.Operands.{IsOperand}
use Rattle.dpl_apart.specs.Rows.{Ran, Finished, goes_on, with_row, onto, run, part_of, is_owned, merged, AreOnce, IsRising, Adds, AllAdd}
use Rattle.dpl_apart.specs.Folds.{adding, fold_loop, no_rows, fold_of}
use Rattle.dpl_apart.specs.Apart.{named, named_loop}
use Rattle.dpl_apart.proofs.Operators.{operators}
use Rattle.dpl_apart.proofs.Split.{all-add, adds-leaves, adds-fails}
use Rattle.dpl_apart.proofs.Parts.{run-whole, run-merged}

module _ (op : Op) (value : Index → Result Value Fault) (place : Index → ℕ) where
  pub folded-run : (ts : List Index) (a : Value) → folded op value ts a ≡ fold_of (run (fold_loop op value place) ts no_rows a)
  folded-run [] a = refl
  folded-run (t ∷ ts) a =
      elim (value t) as (λ r. with_ok r (λ v. folded op value ts (combined op a v)) ≡ fold_of (goes_on (adding r) (place t) (λ row v. run (fold_loop op value place) ts (with_row t row no_rows) (combined op a v)))) [
        | Ok v ↦ folded-run ts (combined op a v)
        | Err f ↦ refl
      ]

  -- where each value is an operand, what is added may be put together
  adding-operand : (r : Result Value Fault) → IfOk r (IsOperand op) → Adds (IsOperand op) (adding r)
  adding-operand (Ok v) h = h
  adding-operand (Err f) h = tt

  pub fold-adds : ((t : Index) → IfOk (value t) (IsOperand op)) → (ts : List Index) → AllAdd (IsOperand op) (fold_loop op value place) ts no_rows
  fold-adds operands ts = all-add (IsOperand op) (fold_loop op value place) (λ t row. adding-operand (value t) (operands t)) ts no_rows

  -- so it does where the values before some place are operands, and at that place there is a fault or no index
  pub fold-adds-upto : (ts : List Index) (i : ℕ) → ((k : ℕ) (t : Index) → k < i → slice_get ts k ≡ Some t → IfOk (value t) (IsOperand op))
      → ((t : Index) → slice_get ts i ≡ Some t → (f : Fault) × (value t ≡ Err f)) → AllAdd (IsOperand op) (fold_loop op value place) ts no_rows
  fold-adds-upto [] i each stop = tt
  fold-adds-upto (t ∷ ts) zero each stop = let fault = stop t refl in adds-fails (IsOperand op) (fold_loop op value place) t ts no_rows fault.0 (ap adding fault.1)
  fold-adds-upto (t ∷ ts) (suc i) each stop =
      let here : IfOk (value t) (IsOperand op) = each 0 t (omega arith) refl in
      let behind : AllAdd (IsOperand op) (fold_loop op value place) ts no_rows = fold-adds-upto ts i (λ k x below. each (suc k) x (omega (arith, below))) stop in
      elim (value t) as (λ r. value t ≡ r → IfOk r (IsOperand op) → AllAdd (IsOperand op) (fold_loop op value place) (t ∷ ts) no_rows) [
        | Ok v ↦ λ e operand. adds-leaves (IsOperand op) (fold_loop op value place) t ts no_rows tt v (ap adding e) operand behind
        | Err f ↦ λ e none. adds-fails (IsOperand op) (fold_loop op value place) t ts no_rows f (ap adding e)
      ] refl here

  module _ (owner : Index → ℕ) (ts : List Index) (rising : IsRising place ts) (ls : List ℕ) (apart : AreOnce ls) (owned : All (λ t. is_owned owner ls t ≡ true) ts) where
    -- what the part of a locale comes to by itself
    abbrev pub fold_ran : ℕ → Ran (Unit {0}) Value
    fold_ran l = run (fold_loop op value place) (part_of owner l ts) no_rows (unit_of op)

    abbrev pub PartFolds : ℕ → Type 0
    PartFolds l = AllAdd (IsOperand op) (fold_loop op value place) (part_of owner l ts) no_rows

    -- a reduction begins with the operator's value over nothing, and so does each part
    pub reduced-merged : AllByRecursion PartFolds ls → folded op value ts (unit_of op) ≡ fold_of (merged (combined op) owner fold_ran (Finished no_rows (unit_of op)) ls)
    reduced-merged add = folded-run ts (unit_of op) ∙ ap fold_of (run-whole (fold_loop op value place) (operators op) owner (λ l. no_rows) ts rising ls apart add owned)

    -- a value from before is counted once, and not in each part
    pub folded-merged : AllByRecursion PartFolds ls → (a : Value) → IsOperand op a
        → folded op value ts a ≡ fold_of (onto (combined op) a (merged (combined op) owner fold_ran (Finished no_rows (unit_of op)) ls))
    folded-merged add a ha = folded-run ts a ∙ ap fold_of (run-merged (fold_loop op value place) (operators op) owner (λ l. no_rows) ts rising ls apart add owned a ha)

-- ---- folds whose faults name their turns
adding-named : (t : Index) (r : Result Value Fault) → adding (naming_value t r) ≡ named t (adding r)
adding-named t (Ok v) = refl
adding-named t (Err f) = refl

pub fold-named : (op : Op) (value : Index → Result Value Fault) (place : Index → ℕ) → fold_loop op (λ t. naming_value t (value t)) place ≡ named_loop (fold_loop op value place)
fold-named op value place = λ i. record { turn = λ t row. adding-named t (value t) i; join = combined op; place = place }
