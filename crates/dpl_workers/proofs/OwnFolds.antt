-- A fold over the indices that a locale owns is that over all indices, in which nothing is put to the others.
use Rattle.std.proofs.Common.{◌≡◌, ◌<◌, ℕ, zero, suc, ◌==◌, ℤ, pos, Bool, true, false, cond, List, [], ◌∷◌, get_or, replicate, Result, Ok, Err, refl, sym, ap, ◌∙◌, arith}
use Rattle.std.specs.List.{filter}
use Rattle.std.specs.Prelude.{if◌then◌else◌}
use Rattle.dpl_language.specs.Tree.{Op}
use Rattle.dpl_language.specs.Values.{Value, Index, Fault}
use Rattle.dpl_language.specs.Arithmetic.{combined, unit_of}
use Rattle.dpl_language.specs.Outcome.{with_ok, naming_value}
use Rattle.dpl_language.specs.Expressions.{folded}
use Rattle.dpl_frame.specs.declared.fault.Turn.{Turn}
use Rattle.dpl_frame.specs.Faults.{Halt, Faulted, Refused, OutOfMemory}
use Rattle.dpl_apart.specs.Operands.{IsOperand}
use Rattle.dpl_apart.proofs.Operators.{operators}
use Rattle.dpl_loop.specs.Folds.{in_turns, OperandThen, AreOperands, FoldEnds}
use Rattle.dpl_workers.specs.Owned.{owned_value}

-- one word everywhere
pub repeated : (n k : ℕ) (w : ℤ) → k < n → get_or (replicate n w) k (pos 0) ≡ w
repeated zero k w below = absurd (omega (arith, below))
repeated (suc n) zero w below = refl
repeated (suc n) (suc k) w below = repeated n k w (omega (arith, below))

module _ (owns : Index → ℕ) (l : ℕ) (op : Op) (meaning : Index → Result Value Fault) where
  abbrev all : Index → Result Value Fault
  all = in_turns (owned_value owns l op meaning)

  abbrev own : List Index → List Index
  own ts = filter (λ t. owns t == l) ts

  then-operands : (r : Result Value Fault) (more less : Type 0) → (more → less) → OperandThen op r more → OperandThen op r less
  then-operands (Ok v) more less go h = (h.0, go h.1)
  then-operands (Err f) more less go h = tt

  pub owned-operands : (ts : List Index) → AreOperands op all ts → AreOperands op (in_turns meaning) (own ts)
  owned-operands [] h = tt
  owned-operands (t ∷ ts) h = by (owned-operands ts) (owns t == l) h where
    by : (AreOperands op all ts → AreOperands op (in_turns meaning) (own ts)) → (c : Bool)
        → OperandThen op (naming_value t (if c then meaning t else Ok (unit_of op))) (AreOperands op all ts)
        → AreOperands op (in_turns meaning) (cond c (t ∷ own ts) (own ts))
    by rest true h = then-operands (naming_value t (meaning t)) (AreOperands op all ts) (AreOperands op (in_turns meaning) (own ts)) rest h
    by rest false h = rest h.1

  goes-on : (r : Result Value Fault) (more less : List Index) (v : Value) → IsOperand op v → OperandThen op r (AreOperands op all more)
      → ((w : Value) → IsOperand op w → AreOperands op all more → folded op all more w ≡ folded op (in_turns meaning) less w)
      → with_ok r (λ w. folded op all more (combined op v w)) ≡ with_ok r (λ w. folded op (in_turns meaning) less (combined op v w))
  goes-on (Ok w) more less v one h rest = rest (combined op v w) ((operators op).closed v w one h.0) h.1
  goes-on (Err f) more less v one h rest = refl

  pub owned-folded : (ts : List Index) (v : Value) → IsOperand op v → AreOperands op all ts → folded op all ts v ≡ folded op (in_turns meaning) (own ts) v
  owned-folded [] v one h = refl
  owned-folded (t ∷ ts) v one h = by (λ w. owned-folded ts w) (owns t == l) h where
    by : ((w : Value) → IsOperand op w → AreOperands op all ts → folded op all ts w ≡ folded op (in_turns meaning) (own ts) w) → (c : Bool)
        → OperandThen op (naming_value t (if c then meaning t else Ok (unit_of op))) (AreOperands op all ts)
        → with_ok (naming_value t (if c then meaning t else Ok (unit_of op))) (λ w. folded op all ts (combined op v w)) ≡ folded op (in_turns meaning) (cond c (t ∷ own ts) (own ts)) v
    by rest true h = goes-on (naming_value t (meaning t)) ts (own ts) v one h rest
    by rest false h = ap (folded op all ts) one ∙ rest v one h.1

  -- and how it ends
  pub owned-ends : {A : Type 0} (may more : Type 0) (as_value : A → Value) (ts : List Index) (turn : Turn) (r : Result A Halt) → (may → more)
      → FoldEnds may as_value op all ts turn r → FoldEnds more as_value op (in_turns meaning) (own ts) turn r
  owned-ends may more as_value ts turn (Ok a) go ends = (sym (owned-folded ts (unit_of op) (operators op).one ends.1) ∙ ends.0, owned-operands ts ends.1)
  owned-ends may more as_value ts turn (Err (Faulted f)) go ends = (sym (owned-folded ts (unit_of op) (operators op).one ends.1) ∙ ends.0, owned-operands ts ends.1)
  owned-ends may more as_value ts turn (Err Refused) go ends = go ends
  owned-ends may more as_value ts turn (Err OutOfMemory) go ends = tt
