-- Folds from a place on, by the value at that place; and walks that end early.
use Rattle.std.proofs.Common.{◌≡◌, ℕ, ◌+◌, List, drop, slice_get, Some, Result, Ok, Err, sym, ap, ◌∙◌, subst}
use Rattle.dpl_range.proofs.Lists.{drop-slice_get}
use Rattle.dpl_language.specs.Tree.{Op}
use Rattle.dpl_language.specs.Values.{Value, Index, Fault}
use Rattle.dpl_language.specs.Arithmetic.{combined}
use Rattle.dpl_language.specs.Outcome.{with_ok}
use Rattle.dpl_sets.specs.TextRanges.{TextRange}
use Rattle.dpl_language.specs.Ranges.{indices_in}
use Rattle.dpl_language.specs.Expressions.{folded, fold_over}
use Rattle.dpl_frame.specs.declared.fault.Turn.{Turn}
use Rattle.dpl_frame.specs.Faults.{Halt, Faulted, Refused, OutOfMemory, Tells}
use Rattle.dpl_apart.specs.Operands.{IsOperand}
use Rattle.dpl_loop.specs.Folds.{in_turns, OperandThen, AreOperands, FoldHalts, FoldEnds}

-- what would follow a walk that ended early isn't looked at
pub with_ok-ends : {A B C D : Type 0} (may more : Type 0) (value : A → B) (t : Turn) (h : Halt) (v : Result B Fault) (go : B → Result C Fault) (all : Result C Fault) (given : D → C)
    → (may → more) → all ≡ with_ok v go → Tells may value t (Err h) v → Tells {A = D} more given t (Err h) all
with_ok-ends may more value t (Faulted f) v go all given where_more e tells = e ∙ ap (λ r. with_ok r go) tells
with_ok-ends may more value t Refused v go all given where_more e tells = where_more tells
with_ok-ends may more value t OutOfMemory v go all given where_more e tells = tt

-- a value that equals another, where more may be refused
pub tells-as : {A B : Type 0} (may : Type 0) (value : A → B) (t : Turn) (more : Type 0) (r : Result A Halt) (v all : Result B Fault) → (may → more) → all ≡ v → Tells may value t r v → Tells more value t r all
tells-as may value t more (Ok a) v all go e tells = e ∙ tells
tells-as may value t more (Err (Faulted f)) v all go e tells = e ∙ tells
tells-as may value t more (Err Refused) v all go e tells = go tells
tells-as may value t more (Err OutOfMemory) v all go e tells = tt

module _ (op : Op) (value : Index → Result Value Fault) (ts : List Index) (k : ℕ) (t : Index) (so_far : Value) (at : slice_get ts k ≡ Some t) where
  pub folded-at : folded op value (drop k ts) so_far ≡ with_ok (value t) (λ v. folded op value (drop (k + 1) ts) (combined op so_far v))
  folded-at = ap (λ ts. folded op value ts so_far) (drop-slice_get ts k t at)

  pub folded-next : (v next : Value) → value t ≡ Ok v → next ≡ combined op so_far v → folded op value (drop (k + 1) ts) next ≡ folded op value (drop k ts) so_far
  folded-next v next is e =
      ap (folded op value (drop (k + 1) ts)) e ∙ sym (folded-at ∙ ap (λ r. with_ok r (λ v. folded op value (drop (k + 1) ts) (combined op so_far v))) is)

  -- so it is of operands
  pub operands-next : (v : Value) → value t ≡ Ok v → IsOperand op v → AreOperands op value (drop (k + 1) ts) → AreOperands op value (drop k ts)
  operands-next v is operand rest =
      subst (AreOperands op value) (sym (drop-slice_get ts k t at)) (subst (λ r. OperandThen op r (AreOperands op value (drop (k + 1) ts))) (sym is) (operand, rest))

  -- and where the value at the place has a fault, or is refused
  pub halts-at : {A : Type 0} (may more : Type 0) (as_value : A → Value) (turn : Turn) (h : Halt) → (may → more) → Tells may as_value turn (Err h) (value t) → FoldHalts more op value (drop k ts) so_far turn h
  halts-at may more as_value turn (Faulted f) go tells = (
    folded-at ∙ ap (λ r. with_ok r (λ v. folded op value (drop (k + 1) ts) (combined op so_far v))) tells,
    subst (AreOperands op value) (sym (drop-slice_get ts k t at)) (subst (λ r. OperandThen op r (AreOperands op value (drop (k + 1) ts))) (sym tells) tt),
  )
  halts-at may more as_value turn Refused go tells = go tells
  halts-at may more as_value turn OutOfMemory go tells = tt

-- a fold that ended early on its way, which is that of all
pub halts-all : (may more : Type 0) (op : Op) (value : Index → Result Value Fault) (ts rest : List Index) (before unit : Value) (turn : Turn) (h : Halt)
    → (may → more) → folded op value rest before ≡ folded op value ts unit → (AreOperands op value rest → AreOperands op value ts)
    → FoldHalts may op value rest before turn h → FoldHalts more op value ts unit turn h
halts-all may more op value ts rest before unit turn (Faulted f) go same operands halts = (sym same ∙ halts.0, operands halts.1)
halts-all may more op value ts rest before unit turn Refused go same operands halts = go halts
halts-all may more op value ts rest before unit turn OutOfMemory go same operands halts = tt

-- the fold over all indices of a domain is a reduction
pub fold-tells : {A : Type 0} (may more : Type 0) (as_value : A → Value) (op : Op) (meaning : Index → Result Value Fault) (ts : List Index) (over : List TextRange) (turn : Turn) (r : Result A Halt)
    → (may → more) → ts ≡ indices_in over → FoldEnds may as_value op (in_turns meaning) ts turn r → Tells more as_value turn r (fold_over op meaning over)
fold-tells may more as_value op meaning ts over turn r go same ends = by r (subst (λ ts. FoldEnds may as_value op (in_turns meaning) ts turn r) same ends) where
  by : (r : Result _ Halt) → FoldEnds may as_value op (in_turns meaning) (indices_in over) turn r → Tells more as_value turn r (fold_over op meaning over)
  by (Ok a) ends = ends.0
  by (Err (Faulted f)) ends = ends.0
  by (Err Refused) ends = go ends
  by (Err OutOfMemory) ends = tt

-- where more may be refused
pub ends-weaker : {A : Type 0} (may more : Type 0) (as_value : A → Value) (op : Op) (value : Index → Result Value Fault) (ts : List Index) (turn : Turn) (r : Result A Halt)
    → (may → more) → FoldEnds may as_value op value ts turn r → FoldEnds more as_value op value ts turn r
ends-weaker may more as_value op value ts turn (Ok a) go ends = ends
ends-weaker may more as_value op value ts turn (Err (Faulted f)) go ends = ends
ends-weaker may more as_value op value ts turn (Err Refused) go ends = go ends
ends-weaker may more as_value op value ts turn (Err OutOfMemory) go ends = tt
