-- How an index is printed.
use Rattle.std.specs.Prelude.{ℕ, ℤ, List, [], ◌∷◌, ◌++◌, codes}
use Rattle.std.specs.Fmt.{signed_decimal}

-- its coordinates in decimal, with a comma between two of them: `2,1`
abbrev pub index_text : List ℤ → List ℕ
index_text [] = []
index_text (c ∷ []) = signed_decimal c
index_text (b ∷ c ∷ rest) = signed_decimal b ++ codes "," ++ index_text (c ∷ rest)
