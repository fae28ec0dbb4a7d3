-- The numbers for which a seat answers, as plain lists.
-- `Has` is an equation of a test, so these lemmas go by the test's cases.
use Rattle.std.proofs.Common.{◌≡◌, ℕ, zero, suc, ◌+◌, ◌<◌, ◌≤◌, ◌⊎◌, List, [], ◌∷◌, ◌++◌, Bool, true, false, eqb, ◌||◌, sym, refl, ap, ◌∙◌, inl, ⊎_elim, inr, arith, eq-eqb, eqb-true}
use Rattle.std.specs.List.{list_any}
use Rattle.std.proofs.Math.Bool.{or-true}
use Rattle.std.proofs.lemmas.List.Folds.{list_any-append}
use Rattle.dpl_cell.specs.Seats.{Has}
use Rattle.dpl_cell.specs.Rule.{numbers_from}

pub no_true : false ≡ true → ⊥
no_true e = cc

or-cases : (a b : Bool) → (a || b) ≡ true → (a ≡ true) ⊎ (b ≡ true)
or-cases true b h = inl refl
or-cases false b h = inr h

pub Has-nil : (k : ℕ) → Has k [] → ⊥
Has-nil k h = no_true h

pub Has-head : (k : ℕ) (xs : List ℕ) → Has k (k ∷ xs)
Has-head k xs = ap (λ b. b || list_any (λ (x : ℕ). eqb x k) xs) (eq-eqb k k refl)

pub Has-tail : (k x : ℕ) (xs : List ℕ) → Has k xs → Has k (x ∷ xs)
Has-tail k x xs h = ap (λ b. eqb x k || b) h ∙ or-true (eqb x k)

pub Has-cons_cases : (k x : ℕ) (xs : List ℕ) → Has k (x ∷ xs) → (x ≡ k) ⊎ Has k xs
Has-cons_cases k x xs h = ⊎_elim (λ e. inl (eqb-true x k e)) (λ t. inr t) (or-cases (eqb x k) (list_any (λ (y : ℕ). eqb y k) xs) h)

pub Has-one : (k x : ℕ) → Has k (x ∷ []) → x ≡ k
Has-one k x h = ⊎_elim (λ e. e) (λ n. absurd (Has-nil k n)) (Has-cons_cases k x [] h)

pub Has-append_cases : (k : ℕ) (xs ys : List ℕ) → Has k (xs ++ ys) → Has k xs ⊎ Has k ys
Has-append_cases k xs ys h = or-cases (list_any (λ (x : ℕ). eqb x k) xs) (list_any (λ (x : ℕ). eqb x k) ys) (sym (list_any-append (λ (x : ℕ). eqb x k) xs ys) ∙ h)

pub Has-append_left : (k : ℕ) (xs ys : List ℕ) → Has k xs → Has k (xs ++ ys)
Has-append_left k xs ys h = list_any-append (λ (x : ℕ). eqb x k) xs ys ∙ ap (λ b. b || list_any (λ (x : ℕ). eqb x k) ys) h

pub Has-append_right : (k : ℕ) (xs ys : List ℕ) → Has k ys → Has k (xs ++ ys)
Has-append_right k xs ys h = list_any-append (λ (x : ℕ). eqb x k) xs ys ∙ (ap (λ b. list_any (λ (x : ℕ). eqb x k) xs || b) h ∙ or-true (list_any (λ (x : ℕ). eqb x k) xs))

pub Has-numbers_from : (k a n : ℕ) → Has k (numbers_from a n) → (a ≤ k) × (k < a + n)
Has-numbers_from k a zero h = absurd (Has-nil k h)
Has-numbers_from k a (suc n) h = ⊎_elim (λ same. (omega arith, omega arith)) (λ r. let t = Has-numbers_from k (a + 1) n r in (omega (arith, t.0), omega (arith, t.1)))
    (Has-cons_cases k a (numbers_from (a + 1) n) h)
