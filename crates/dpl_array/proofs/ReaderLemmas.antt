-- What a piece of an array has, the array has.
use Rattle.std.proofs.Common.{◌≡◌, ◌==◌, ◌<◌, ◌≤◌, ◌+◌, ◌*◌, ◌+ℤ◌, ℕ, ℤ, pos, List, [], ◌∷◌, Option, Some, None, IfSome, filter, length, slice_get, ap, sym, subst, ◌∙◌, arith, eqb-true, ⊎_elim}
use Rattle.std.proofs.lemmas.Option.{slice_get_cases}
use Rattle.dpl_map.specs.Maps.{AxisValue, owner}
use Rattle.dpl_array.specs.Elements.{Elements, value_at, keys_of, owned}
use Rattle.dpl_array.specs.Arrays.{ArrayValue, PieceValue, restriction}
use Rattle.dpl_array.specs.Rows.{StandsIn}
use Rattle.dpl_array.specs.Windows.{IsLineOf, IsPlaneOf}
use Rattle.dpl_array.proofs.ElementLemmas.{value-stands}
use Rattle.dpl_array.proofs.UnionLemmas.{filter-test}
use Rattle.dpl_array.proofs.WalkLemmas.{keys-owned, value-owned}
use Rattle.dpl_array.proofs.WindowLemmas.{plane-below}

pub value-kept : {T : Type 0} (axes : List AxisValue) (l : ℕ) (es : Elements T) (t : List ℤ) (v : T) → value_at t (owned axes l es) ≡ Some v → value_at t es ≡ Some v
value-kept axes l es t v some =
    let at : StandsIn (filter (λ s. owner axes s == l) (keys_of es)) t = subst (λ ks. StandsIn ks t) (keys-owned axes l es) (value-stands (owned axes l es) t v some) in
    let is : owner axes t ≡ l = eqb-true (owner axes t) l (filter-test (λ s. owner axes s == l) (keys_of es) at.0 t at.1) in
    sym (value-owned axes t es) ∙ ap (λ k. value_at t (owned axes k es)) is ∙ some

-- what the remembered piece has
pub remembered-value : {T : Type 0} (a : ArrayValue T) (p : PieceValue T) (t : List ℤ) → (l : ℕ) × (p ≡ restriction a l) → (o : Option T) → IfSome o (λ v. value_at t p.elements ≡ Some v) → IfSome o (λ v. value_at t a.elements ≡ Some v)
remembered-value a p t kept None some = tt
remembered-value a p t kept (Some v) some = value-kept a.map kept.0 a.elements t v (sym (ap (λ q. value_at t q.elements) kept.1) ∙ some)

-- what a line or a plane of the remembered piece has
kept-place : {T : Type 0} (a : ArrayValue T) (p : PieceValue T) (t : List ℤ) (values : List T) (k : ℕ) → (l : ℕ) × (p ≡ restriction a l) → k < length values → value_at t p.elements ≡ slice_get values k → value_at t a.elements ≡ slice_get values k
kept-place a p t values k kept within same =
    ⊎_elim
    (λ some. remembered-value a p t kept (Some some.0) (same ∙ some.2) ∙ sym some.2)
    (λ past. absurd (omega (arith, within, past.0)))
    (slice_get_cases values k).1

pub remembered-line : {T : Type 0} (a : ArrayValue T) (p : PieceValue T) (values : List T) (low : ℤ) (size : ℕ) → (l : ℕ) × (p ≡ restriction a l) → size ≤ length values → IsLineOf p.elements values low size → IsLineOf a.elements values low size
remembered-line a p values low size kept long line k below =
    kept-place a p ((low +ℤ pos k) ∷ []) values k kept (omega (arith, below, long)) (line k below)

pub remembered-plane : {T : Type 0} (a : ArrayValue T) (p : PieceValue T) (values : List T) (top : ℤ) (rows : ℕ) (left : ℤ) (columns : ℕ) → (l : ℕ) × (p ≡ restriction a l) → rows * columns ≤ length values → IsPlaneOf p.elements values top rows left columns → IsPlaneOf a.elements values top rows left columns
remembered-plane a p values top rows left columns kept long plane q r row column =
    kept-place a p ((top +ℤ pos q) ∷ (left +ℤ pos r) ∷ []) values (q * columns + r) kept (plane-below q r rows columns (length values) row column long) (plane q r row column)
