-- Fronts of one text.
use Rattle.std.proofs.Common.{◌≡◌, ℕ, List, [], ◌∷◌, ◌++◌, length, refl, sym, ap, ◌∙◌, length-append, arith}

-- fronts of one text that are as long as each other are the same
pub same_split : (u rest v w : List ℕ) → u ++ rest ≡ v ++ w → length u ≡ length v → (u ≡ v) × (rest ≡ w)
same_split [] rest [] w e h = (refl, e)
same_split [] rest (d ∷ v) w e h = absurd (omega arith)
same_split (c ∷ u) rest [] w e h = absurd (omega arith)
same_split (c ∷ u) rest (d ∷ v) w e h =
    let others : u ++ rest ≡ v ++ w = cc in
    let same : c ≡ d = cc in
    let ih = same_split u rest v w others (omega arith) in
    (cc (same, ih.0), ih.1)

-- fronts before the same rest are the same
pub same_front : (u v w : List ℕ) → u ++ w ≡ v ++ w → u ≡ v
same_front u v w e = (same_split u w v w e (omega (arith, ap (length {A = ℕ}) e, length-append u w, length-append v w))).0

-- and so are fronts before rests that are the same
pub same_rest : (u rest v w : List ℕ) → u ++ rest ≡ v ++ w → rest ≡ w → u ≡ v
same_rest u rest v w e h = same_front u v w (ap (λ (l : List ℕ). u ++ l) (sym h) ∙ e)
