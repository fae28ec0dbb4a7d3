-- Elements: a finite map from indices to values.
-- It is a list of pairs, so that it can be read in order, with a search by index.
use Rattle.std.specs.Prelude.{◌≡◌, ℕ, zero, suc, ℤ, pos, ◌+ℤ◌, ◌*ℤ◌, List, [], ◌∷◌, Bool, true, false, ◌&&◌, ◌==◌, Option, Some, None, map, filter, slice_get, if◌then◌else◌}
use Rattle.std.specs.Ordering.{int_eq}
use Rattle.dpl_map.specs.Maps.{AxisValue, owner}

-- A finite map from indices to values is the list of its elements: each is an index with the value there.
abbrev pub Elements : Type 0 → Type 0
Elements T = List (List ℤ × T)

-- two indices are the same where their coordinates are
abbrev pub same_index : List ℤ → List ℤ → Bool
same_index [] [] = true
same_index [] (j ∷ js) = false
same_index (i ∷ is) [] = false
same_index (i ∷ is) (j ∷ js) = int_eq i j && same_index is js

-- the index that lies so far from another along the last dimension
abbrev pub along : ℤ → List ℤ → List ℤ
along d [] = []
along d (i ∷ []) = (i +ℤ d) ∷ []
along d (i ∷ j ∷ is) = i ∷ along d (j ∷ is)

-- indices one behind another in the last dimension: the first one, and how far each lies from the one before it
pub record Row : Type 0 where
  pub first : List ℤ
  pub step : ℤ

-- the index of a row that stands so many behind its first
abbrev pub behind : ℕ → Row → List ℤ
behind k row = along (row.step *ℤ pos k) row.first

-- the value at an index, if the map has the index
abbrev pub value_at : {T : Type 0} → List ℤ → Elements T → Option T
value_at t [] = None
value_at t (e ∷ es) = if same_index t e.0 then Some e.1 else value_at t es

-- the map with another value at an index, if the map has the index
abbrev pub with_value : {T : Type 0} → List ℤ → T → Elements T → Elements T
with_value t v es = map (λ e. if same_index t e.0 then (e.0, v) else e) es

-- the indices of the map, in their order
abbrev pub keys_of : {T : Type 0} → Elements T → List (List ℤ)
keys_of es = map (λ e. e.0) es

-- one value at each index of a list
abbrev pub filled : {T : Type 0} → List (List ℤ) → T → Elements T
filled ts v = map (λ t. (t, v)) ts

-- the elements that a locale owns
abbrev pub owned : {T : Type 0} → List AxisValue → ℕ → Elements T → Elements T
owned axes locale es = filter (λ e. owner axes e.0 == locale) es

-- an element in front of others, where there is a value for it
abbrev pub element_before : {T : Type 0} → List ℤ → Option T → Elements T → Elements T
element_before t None es = es
element_before t (Some v) es = (t, v) ∷ es

-- what a function gives of the indices of a list, in their order
abbrev pub tabulated : {T : Type 0} → List (List ℤ) → (List ℤ → Option T) → Elements T
tabulated [] f = []
tabulated (t ∷ ts) f = element_before t (f t) (tabulated ts f)

-- elements over some indices: one for each, in their order, and it is the value at that index
pub record IsOver {T : Type 0} (ts : List (List ℤ)) (es : Elements T) : Type 0 where
  pub keys : keys_of es ≡ ts
  pub values : tabulated ts (λ t. value_at t es) ≡ es

-- values stand at the first indices of a row
abbrev pub IsRunOf : {T : Type 0} → Elements T → Row → List T → Type 0
IsRunOf {T = T} es row values = (k : ℕ) (v : T) → slice_get values k ≡ Some v → value_at (behind k row) es ≡ Some v

-- what putting a value, where there is one, makes of something
abbrev pub put_some : {M T : Type 0} → (List ℤ → T → M → M) → List ℤ → Option T → M → M
put_some put t None m = m
put_some put t (Some v) m = put t v m

-- the first values of a list, so many of them, put one after another, each at its index of a row
abbrev pub put_in_row : {M T : Type 0} → (List ℤ → T → M → M) → Row → List T → ℕ → M → M
put_in_row put row vs zero m = m
put_in_row put row vs (suc k) m = put_some put (behind k row) (slice_get vs k) (put_in_row put row vs k m)
