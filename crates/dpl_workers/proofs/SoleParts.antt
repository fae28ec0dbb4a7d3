-- What is cut into one piece at most; and a list that becomes longer.
use Rattle.std.proofs.Common.{◌≡◌, ◌<◌, ◌≤◌, ◌==◌, ◌+◌, ℕ, zero, suc, arith, true, get_or, length, List, [], ◌∷◌, refl, ap, ◌∙◌}
use Rattle.std.specs.Prelude.{◌++◌}
use Rattle.std.specs.List.{All, AllByRecursion, filter}
use Rattle.std.proofs.lemmas.List.Elements.{recursion_from_All}
use Rattle.dpl_sets.specs.Ranges.{RangeValue}
use Rattle.dpl_sets.specs.Indices.{indices}
use Rattle.dpl_map.specs.Cuts.{AreCut}
use Rattle.dpl_language.specs.Values.{Index}
use Rattle.dpl_apart.proofs.Split.{each-weaker}
use Rattle.dpl_apart.proofs.Parts.{filter-all}

-- a list that is cut into no piece has nothing
pub no-piece : (ts : List Index) (domains : List (List RangeValue)) → length domains < 1 → AreCut indices ts domains → ts ≡ []
no-piece [] domains few cut = refl
no-piece (t ∷ ts) domains few cut = absurd (let within = cut.numbered 0 t (omega arith) in omega (arith, within, few))

-- and one that is cut into one is that piece
pub sole-piece : (ts : List Index) (domains : List (List RangeValue)) (d : List RangeValue) → 1 ≤ length domains → length domains < 2 → d ≡ get_or domains 0 d → AreCut indices ts domains → indices d ≡ ts
sole-piece ts [] d some few is cut = absurd (omega (arith, some))
sole-piece ts (e ∷ f ∷ more) d some few is cut = absurd (omega (arith, few))
sole-piece ts (e ∷ []) d some few is cut =
    let listed : indices e ≡ filter (λ x. cut.number x == 0) ts = cut.listed 0 in
    ap indices is ∙ listed ∙ filter-all (λ x. cut.number x == 0) ts (numbers ts (λ k x within. cut.numbered k x within))
  where
    numbers : (xs : List Index) → All (λ x. cut.number x < 1) xs → AllByRecursion (λ x. (cut.number x == 0) ≡ true) xs
    numbers xs all = each-weaker _ _ xs (λ x below. let zero_is : cut.number x ≡ 0 = omega (arith, below) in rw zero_is refl) (recursion_from_All (λ x. cut.number x < 1) xs all)

-- one more behind a list
pub one-more : {X : Type 0} (P : ℕ → X → Type 0) (none : X) (xs : List X) (p : X) → ((k : ℕ) → k < length xs → P k (get_or xs k none)) → P (length xs) p
    → (k : ℕ) → k < length (xs ++ p ∷ []) → P k (get_or (xs ++ p ∷ []) k none)
one-more P none [] p each last zero within = last
one-more P none [] p each last (suc k) within = absurd (omega (arith, within))
one-more P none (x ∷ xs) p each last zero within = each 0 (omega arith)
one-more P none (x ∷ xs) p each last (suc k) within = one-more (λ k. P (suc k)) none xs p (λ k below. each (suc k) (omega (arith, below))) last k (omega (arith, within))

pub one-longer : {X : Type 0} (xs : List X) (p : X) → length (xs ++ p ∷ []) ≡ length xs + 1
one-longer [] p = omega arith
one-longer (x ∷ xs) p = let rest = one-longer xs p in omega (arith, rest)
