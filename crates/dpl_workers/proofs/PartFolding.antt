-- What the parts of a reduction's domain come to is told of the reduction.
use Rattle.std.proofs.Common.{◌≡◌, ℕ, ℤ, List, Some, Result, Ok, Err, refl, sym, ap, ◌∙◌, subst}
use Rattle.dpl_language.specs.Tree.{Op}
use Rattle.dpl_language.specs.Values.{Value, Index, Fault}
use Rattle.dpl_language.specs.Arithmetic.{unit_of}
use Rattle.dpl_sets.specs.TextRanges.{TextRange}
use Rattle.dpl_sets.specs.Ranges.{RangeValue}
use Rattle.dpl_sets.specs.Indices.{indices}
use Rattle.dpl_map.specs.Maps.{AxisValue, owner}
use Rattle.dpl_language.specs.Ranges.{indices_in}
use Rattle.dpl_language.specs.Expressions.{folded, fold_over}
use Rattle.dpl_frame.specs.declared.fault.Turn.{Turn}
use Rattle.dpl_frame.specs.Faults.{Halt, Faulted, Refused, OutOfMemory, Tells}
use Rattle.dpl_loop.specs.Entries.{MayRefuseIn}
use Rattle.dpl_loop.specs.Values.{MayRefuseAmong}
use Rattle.dpl_loop.specs.Folds.{in_turns, FoldEnds}
use Rattle.dpl_loop.proofs.Folding.{tells-as}
use Rattle.dpl_workers.specs.declared.ended.Ended.{Ended}
use Rattle.dpl_workers.specs.declared.parts.Part.{Part}
use Rattle.dpl_workers.specs.Parts.{indices_of}
use Rattle.dpl_workers.specs.PartFolds.{FoldsTell, MayEndRefused}

-- a gate may refuse an entry of a part where it may refuse that of the same index in the whole domain
index-same : (t u : Index) → Some t ≡ Some u → t ≡ u
index-same t u e = cc

pub part-refuses : (may : ℕ → ℕ → Type 0) (axes : List AxisValue) (part whole : List RangeValue) → MayRefuseAmong (MayRefuseIn may part whole) axes (indices part) → MayRefuseAmong may axes (indices whole)
part-refuses may axes part whole h =
    let k = h.3.1 in
    (k, h.3.0, h.3.3, subst (λ (t : Index). may (owner axes t) k) (index-same h.1 h.3.0 (sym h.2 ∙ h.3.2)) h.3.4)

-- a fold of a part, by an answer that is told of it
pub told-or-refused : (value : ℤ → Value) (op : Op) (meaning : Index → Result Value Fault) (whole : List RangeValue) (axes : List AxisValue) (answers : Part → ℕ → Ended → Type 0) → FoldsTell value op meaning whole axes answers
    → (p : Part) (l : ℕ) (e : Ended) → answers p l e → FoldEnds (MayEndRefused answers) value op (in_turns meaning) (indices_of p whole axes l) e.turn e.item
told-or-refused value op meaning whole axes answers tell p l e answer = by e.item refl (tell p l e answer) where
  by : (r : Result ℤ Halt) → e.item ≡ r → FoldEnds (Unit {0}) value op (in_turns meaning) (indices_of p whole axes l) e.turn r → FoldEnds (MayEndRefused answers) value op (in_turns meaning) (indices_of p whole axes l) e.turn r
  by (Ok a) is ends = ends
  by (Err (Faulted f)) is ends = ends
  by (Err Refused) is ends = (p, l, e, answer, is)
  by (Err OutOfMemory) is ends = tt

-- what parts come to together is the reduction; where an answer for one is a refusal, that may be
pub parts-tell : (may more : Type 0) (value : ℤ → Value) (op : Op) (meaning : Index → Result Value Fault) (whole : List RangeValue) (axes : List AxisValue) (answers : Part → ℕ → Ended → Type 0) (ts : List Index) (over : List TextRange) (turn : Turn) (r : Result ℤ Halt)
    → (may → more) → ts ≡ indices_in over → Tells (MayEndRefused answers) value turn r (folded op (in_turns meaning) ts (unit_of op))
    → ((p : Part) (l : ℕ) (e : Ended) → answers p l e → FoldEnds may value op (in_turns meaning) (indices_of p whole axes l) e.turn e.item) → Tells more value turn r (fold_over op meaning over)
parts-tell may more value op meaning whole axes answers ts over turn r go same tells each =
    tells-as _ value turn more r (folded op (in_turns meaning) ts (unit_of op)) (fold_over op meaning over)
    (λ refused. go (subst (λ r. FoldEnds may value op (in_turns meaning) (indices_of refused.0 whole axes refused.1) refused.2.turn r) refused.4 (each refused.0 refused.1 refused.2 refused.3)))
    (ap (λ ts. folded op (in_turns meaning) ts (unit_of op)) (sym same)) tells
