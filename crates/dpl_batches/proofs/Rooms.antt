-- Room for the last coordinates of a row's indices, and where they lie.
use Rattle.std.proofs.Common.{◌≡◌, ◌≤◌, ℕ, zero, suc, ℤ, pos, ◌+ℤ◌, ◌*ℤ◌, length, get_or, FitsSigned, w64, to_z, of_z, refl, sym, subst, ap, ◌∙◌, arith}
use Rattle.std.proofs.lemmas.Int.{to_z-of_z, to_z_pos}
use Rattle.std.proofs.Math.IntN.{+ℤ_idl}
use Rattle.dpl_domain.specs.Ranks.{last_of}
use Rattle.dpl_array.specs.Elements.{Row, along, behind}
use Rattle.dpl_array.proofs.Behind.{last-along, on-the-way}
use Rattle.dpl_elements.specs.Turns.{HasRoom}

-- the last coordinate is the index's own
last-same : (n : ℕ) (x y z u v w : ℤ) → 1 ≤ n → n ≤ 3 → last_of n x y z ≡ last_of n u v w → z ≡ w
last-same zero x y z u v w least most same = absurd (omega (arith, least))
last-same (suc zero) x y z u v w least most same = ap (λ is. get_or is 0 (pos 0)) same
last-same (suc (suc zero)) x y z u v w least most same = ap (λ is. get_or is 1 (pos 0)) same
last-same (suc (suc (suc zero))) x y z u v w least most same = ap (λ is. get_or is 2 (pos 0)) same
last-same (suc (suc (suc (suc n)))) x y z u v w least most same = absurd (omega (arith, most))

-- what is left room for by a whole strip is so by each part of it
pub has-room : (row : Row) (x y z : ℤ) → 1 ≤ length row.first → length row.first ≤ 3 → row.first ≡ last_of (length row.first) x y z → FitsSigned w64 z → FitsSigned w64 (row.step *ℤ pos 64) → FitsSigned w64 (z +ℤ row.step *ℤ pos 64)
    → HasRoom row 64
has-room row x y z least most coordinates z_fits far last u v w is k below =
    let same : z ≡ w = last-same (length row.first) x y z u v w least most (sym coordinates ∙ is) in
    let none : FitsSigned w64 (pos 0) = record { sfits = omega arith } in (
      subst (FitsSigned w64) (+ℤ_idl (row.step *ℤ pos k)) (on-the-way (pos 0) row.step k 64 below none (subst (FitsSigned w64) (sym (+ℤ_idl (row.step *ℤ pos 64))) far)),
      subst (λ i. FitsSigned w64 (i +ℤ row.step *ℤ pos k)) same (on-the-way z row.step k 64 below z_fits last),
    )

-- an int as its word
abbrev pub word_of : ℤ → ℤ
word_of n = to_z w64 (of_z w64 n)

module _ (row : Row) (k : ℕ) (x y z s : ℤ) (coordinates : row.first ≡ last_of (length row.first) x y z) (room : HasRoom row 64) (most : k ≤ 64) (is : s ≡ row.step) (z_fits : FitsSigned w64 z) (s_fits : FitsSigned w64 s) where
  product : word_of s *ℤ to_z w64 k ≡ row.step *ℤ pos k
  product = ap (λ n. n *ℤ to_z w64 k) (to_z-of_z w64 s s_fits ∙ is) ∙ ap (λ j. row.step *ℤ j) (to_z_pos w64 k (omega (arith, most)))

  pub product-fits : FitsSigned w64 (word_of s *ℤ to_z w64 k)
  product-fits = subst (FitsSigned w64) (sym product) (room x y z coordinates k most).0

  sum : word_of z +ℤ word_of (word_of s *ℤ to_z w64 k) ≡ z +ℤ row.step *ℤ pos k
  sum = ap (λ n. n +ℤ word_of (word_of s *ℤ to_z w64 k)) (to_z-of_z w64 z z_fits) ∙ ap (λ n. z +ℤ n) (to_z-of_z w64 (word_of s *ℤ to_z w64 k) product-fits ∙ product)

  pub sum-fits : FitsSigned w64 (word_of z +ℤ word_of (word_of s *ℤ to_z w64 k))
  sum-fits = subst (FitsSigned w64) (sym sum) (room x y z coordinates k most).1

  -- the last coordinate of the index so many behind
  pub last-word : word_of (word_of z +ℤ word_of (word_of s *ℤ to_z w64 k)) ≡ z +ℤ row.step *ℤ pos k
  last-word = to_z-of_z w64 (word_of z +ℤ word_of (word_of s *ℤ to_z w64 k)) sum-fits ∙ sum

  -- and the index
  pub behind-is : (n : ℕ) → length row.first ≡ n → last_of n x y (z +ℤ row.step *ℤ pos k) ≡ behind k row
  behind-is n long =
      last-along (row.step *ℤ pos k) n x y (z +ℤ row.step *ℤ pos k) z refl
      ∙ ap (along (row.step *ℤ pos k)) (sym (coordinates ∙ ap (λ n. last_of n x y z) long))
