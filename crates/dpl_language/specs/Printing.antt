-- What is printed of values.
-- An int prints in decimal, a truth value as `true` or `false`; no other value but an array is printed.
use Rattle.std.specs.Prelude.{ℕ, zero, suc, true, false, List, [], ◌∷◌, ◌++◌, codes, map, take, drop}
use Rattle.std.specs.Fmt.{signed_decimal}
use Rattle.dpl_sets.specs.TextRanges.{TextRange}
use Rattle.dpl_language.specs.Values.{Value, Int, Truth}
use Rattle.dpl_language.specs.Ranges.{count_in, size_in}

abbrev pub printed : Value → List ℕ
printed (Int n) = signed_decimal n
printed (Truth true) = codes "true"
printed (Truth false) = codes "false"
printed _ = []

-- texts with another between each two
abbrev pub joined : List ℕ → List (List ℕ) → List ℕ
joined between [] = []
joined between (t ∷ []) = t
joined between (t ∷ u ∷ ts) = t ++ between ++ joined between (u ∷ ts)

-- a list cut into k pieces of n elements
abbrev pub pieces : {A : Type 0} → ℕ → ℕ → List A → List (List A)
pieces zero n xs = []
pieces (suc k) n xs = take n xs ∷ pieces k n (drop n xs)

-- what stands between two parts of an array, by the dimensions of a part: a space between two elements,
-- a newline between two rows, and two newlines, which leave an empty line, between two planes
abbrev pub between : List TextRange → List ℕ
between [] = codes " "
between (r ∷ rs) = map (λ r. 10) (r ∷ rs)

-- the texts of elements in domain order, laid out by the domain's dimensions
abbrev pub laid_out : List TextRange → List (List ℕ) → List ℕ
laid_out [] ts = joined [] ts
laid_out (r ∷ rs) ts = joined (between rs) (map (laid_out rs) (pieces (count_in r) (size_in rs) ts))

-- an array, and nothing where it has no elements, whatever its rank
abbrev pub printed_array : List TextRange → List Value → List ℕ
printed_array rs [] = []
printed_array rs (v ∷ vs) = laid_out rs (map printed (v ∷ vs))
