-- Arithmetic progressions, and what is left of a walk over the tuples of three.
use Rattle.std.specs.Prelude.{ℕ, zero, suc, List, [], ◌∷◌, ℤ, ◌+ℤ◌, map, flat_map}
use Rattle.dpl_domain.specs.Ranks.{last_of}

-- the first n terms of an arithmetic progression
abbrev pub progression : ℤ → ℤ → ℕ → List ℤ
progression next step zero = []
progression next step (suc n) = next ∷ progression (next +ℤ step) step n

-- the last `rank` of each three numbers, row by row
abbrev pub line_of : ℕ → ℤ → ℤ → List ℤ → List (List ℤ)
line_of rank x y zs = map (λ z. last_of rank x y z) zs

abbrev pub plane_of : ℕ → ℤ → List ℤ → List ℤ → List (List ℤ)
plane_of rank x ys zs = flat_map (λ y. line_of rank x y zs) ys

abbrev pub space_of : ℕ → List ℤ → List ℤ → List ℤ → List (List ℤ)
space_of rank xs ys zs = flat_map (λ x. plane_of rank x ys zs) xs
