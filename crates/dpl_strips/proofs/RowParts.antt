-- A row in parts: its first indices, and the rest of it behind them, which is a row too.
use Rattle.std.proofs.Common.{◌≡◌, ◌<◌, ◌≤◌, ◌+◌, ◌-◌, ◌*◌, ⊎_elim, ℕ, suc, ℤ, pos, negsuc, ◌+ℤ◌, ◌*ℤ◌, List, [], ◌∷◌, length, get_or, slice_get, Some, refl, sym, subst, ap, ◌∙◌, mul-add, arith}
use Rattle.std.proofs.lemmas.Bool.{cases_lt}
use Rattle.std.proofs.lemmas.Int.{ints}
use Rattle.std.proofs.Math.IntN.{*ℤ-zero, pos-*ℤ-pos, negsuc-*ℤ-pos}
use Rattle.dpl_domain.specs.Ranks.{last_of}
use Rattle.dpl_array.specs.Elements.{Row, along, behind}
use Rattle.dpl_array.proofs.Behind.{last-along}
use Rattle.dpl_memory.specs.Memory.{Held, held_at}

-- the index so many behind its first, by the coordinates
pub behind-at : (row : Row) (k : ℕ) (x y z : ℤ) (n : ℕ) → row.first ≡ last_of (length row.first) x y z → length row.first ≡ n → last_of n x y (z +ℤ row.step *ℤ pos k) ≡ behind k row
behind-at row k x y z n coordinates long =
    last-along (row.step *ℤ pos k) n x y (z +ℤ row.step *ℤ pos k) z refl
    ∙ ap (along (row.step *ℤ pos k)) (sym (coordinates ∙ ap (λ n. last_of n x y z) long))

-- its first turns, and those of the rest of it behind them
along-none : (d : ℤ) (is : List ℤ) → d ≡ pos 0 → along d is ≡ is
along-none d [] none = refl
along-none d (i ∷ []) none = ap (λ n. n ∷ []) (ap (λ d. i +ℤ d) none ∙ omega (arith, ints))
along-none d (i ∷ j ∷ is) none = ap (λ js. i ∷ js) (along-none d (j ∷ is) none)

times-sum : (s : ℤ) (a j : ℕ) → s *ℤ pos (a + j) ≡ s *ℤ pos a +ℤ s *ℤ pos j
times-sum (pos s) a j =
    let sum : s * (a + j) ≡ s * a + s * j = mul-add s a j in
    omega (arith, ints, sum, pos-*ℤ-pos s (a + j), pos-*ℤ-pos s a, pos-*ℤ-pos s j)
times-sum (negsuc s) a j =
    let sum : suc s * (a + j) ≡ suc s * a + suc s * j = mul-add (suc s) a j in
    omega (arith, ints, sum, negsuc-*ℤ-pos s (a + j), negsuc-*ℤ-pos s a, negsuc-*ℤ-pos s j)

along-again : (d e : ℤ) (is : List ℤ) → along d (along e is) ≡ along (e +ℤ d) is
along-again d e [] = refl
along-again d e (i ∷ []) = ap (λ n. n ∷ []) (omega (arith, ints))
along-again d e (i ∷ j ∷ []) = ap (λ js. i ∷ js) (along-again d e (j ∷ []))
along-again d e (i ∷ j ∷ k ∷ is) = ap (λ js. i ∷ js) (along-again d e (j ∷ k ∷ is))

behind-none : (row : Row) → behind 0 row ≡ row.first
behind-none row = along-none (row.step *ℤ pos 0) row.first (*ℤ-zero row.step)

pub behind-more : (row : Row) (a j : ℕ) → behind j (record { first = behind a row; step = row.step }) ≡ behind (a + j) row
behind-more row a j =
    along-again (row.step *ℤ pos j) (row.step *ℤ pos a) row.first
    ∙ ap (λ d. along d row.first) (sym (times-sum row.step a j))

-- the rest of a row's rest
pub rest-again : (row here rest : Row) (a b : ℕ) → here ≡ record { first = behind a row; step = row.step } → rest ≡ record { first = behind b here; step = here.step }
    → rest ≡ record { first = behind (a + b) row; step = row.step }
rest-again row here rest a b here_is rest_is =
    rest_is
    ∙ ap (λ (t : Row). record { first = behind b t; step = t.step }) here_is
    ∙ ap {A = List ℤ} {B = Row} (λ first. record { first = first; step = row.step }) (behind-more row a b)

pub whole-rest : (row : Row) → row ≡ record { first = behind 0 row; step = row.step }
whole-rest row = ap {A = List ℤ} {B = Row} (λ first. record { first = first; step = row.step }) (sym (behind-none row))

-- words that stand along a row, and behind them those that stand along its rest
module _
    (at rest : Row) (a : Held) (size more : ℕ) (run before after : List ℤ) (is : rest ≡ record { first = behind size at; step = at.step })
    (first : (k : ℕ) → k < size → held_at (behind k at) a ≡ Some (get_or before k (pos 0)))
    (stand : (k : ℕ) (word : ℤ) → slice_get run k ≡ Some word → held_at (behind k rest) a ≡ Some word)
    (same : (k : ℕ) → k < size → get_or after k (pos 0) ≡ get_or before k (pos 0))
    (behind_them : (k : ℕ) → k < more → slice_get run k ≡ Some (get_or after (size + k) (pos 0))) where
  in-first : (k : ℕ) → k < size → held_at (behind k at) a ≡ Some (get_or after k (pos 0))
  in-first k below = first k below ∙ ap Some (sym (same k below))

  in-rest : (j : ℕ) → j < more → held_at (behind (size + j) at) a ≡ Some (get_or after (size + j) (pos 0))
  in-rest j below =
      ap (λ t. held_at t a) (sym (ap (behind j) is ∙ behind-more at size j)) ∙ stand j (get_or after (size + j) (pos 0)) (behind_them j below)

  pub both-stand : (k : ℕ) → k < size + more → held_at (behind k at) a ≡ Some (get_or after k (pos 0))
  both-stand k below =
      ⊎_elim
      (λ (less : k < size). in-first k less)
      (λ (later : size ≤ k).
      let behind_size : size + (k - size) ≡ k = omega (arith, later) in
      subst (λ k. held_at (behind k at) a ≡ Some (get_or after k (pos 0))) behind_size (in-rest (k - size) (omega (arith, later, below))))
      (cases_lt k size)
