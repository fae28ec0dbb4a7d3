-- What is seen of elements by plain numbers: values in a row, at the integers of one or two spans.
-- Contracts of private functions and the invariant of a reader speak of it.
use Rattle.std.specs.Prelude.{◌≡◌, ◌<◌, ◌+◌, ◌*◌, ◌+ℤ◌, ℕ, ℤ, pos, List, [], ◌∷◌, Some, length, slice_get}
use Rattle.dpl_array.specs.Elements.{Elements, value_at}

-- so many integers from a low one on are all of a list in its order, or none of it
pub record IsSpanOf (members : List ℤ) (low : ℤ) (size : ℕ) : Type 0 where
  pub each : (k : ℕ) → k < size → slice_get members k ≡ Some (low +ℤ pos k)
  pub all : 0 < size → size ≡ length members

-- the integers of a span are the first indices of a row
abbrev pub StandsOnLine : List (List ℤ) → ℤ → ℕ → Type 0
StandsOnLine row low size = (k : ℕ) → k < size → slice_get row k ≡ Some ((low +ℤ pos k) ∷ [])

-- and those of two spans, row by row
abbrev pub StandsOnPlane : List (List ℤ) → ℤ → ℕ → ℤ → ℕ → Type 0
StandsOnPlane row top rows left columns =
    (q r : ℕ) → q < rows → r < columns → slice_get row (q * columns + r) ≡ Some ((top +ℤ pos q) ∷ (left +ℤ pos r) ∷ [])

-- where two integers of two spans stand, row by row
pub record IsPlaceOn (top : ℤ) (rows : ℕ) (left : ℤ) (columns : ℕ) (i j : ℤ) (place : ℕ) : Type 0 where
  pub row : ℕ
  pub column : ℕ
  pub row_below : row < rows
  pub column_below : column < columns
  pub row_at : i ≡ top +ℤ pos row
  pub column_at : j ≡ left +ℤ pos column
  pub place_is : place ≡ row * columns + column

-- elements have the values of a row at the integers of a span
abbrev pub IsLineOf : {T : Type 0} → Elements T → List T → ℤ → ℕ → Type 0
IsLineOf es values low size = (k : ℕ) → k < size → value_at ((low +ℤ pos k) ∷ []) es ≡ slice_get values k

-- elements have the values of a row at the integers of two spans, row by row
abbrev pub IsPlaneOf : {T : Type 0} → Elements T → List T → ℤ → ℕ → ℤ → ℕ → Type 0
IsPlaneOf es values top rows left columns =
    (q r : ℕ) → q < rows → r < columns → value_at ((top +ℤ pos q) ∷ (left +ℤ pos r) ∷ []) es ≡ slice_get values (q * columns + r)

-- a value stands at an integer of a span
pub record IsOnLine {T : Type 0} (values : List T) (low : ℤ) (size : ℕ) (i : ℤ) (v : T) : Type 0 where
  pub place : ℕ
  pub below : place < size
  pub at : i ≡ low +ℤ pos place
  pub value : slice_get values place ≡ Some v

-- a value stands at two integers of two spans
pub record IsOnPlane {T : Type 0} (values : List T) (top : ℤ) (rows : ℕ) (left : ℤ) (columns : ℕ) (i j : ℤ) (v : T) : Type 0 where
  pub place : ℕ
  pub on : IsPlaceOn top rows left columns i j place
  pub value : slice_get values place ≡ Some v
