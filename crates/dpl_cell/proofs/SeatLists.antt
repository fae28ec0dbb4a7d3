-- What holds of each element of a list and its place, after a push.
-- For the seats that `new` hands out.
use Rattle.std.proofs.Common.{◌≡◌, ℕ, zero, suc, ◌⊎◌, List, [], ◌∷◌, ◌++◌, length, Some, None, sym, refl, ap, ◌∙◌, subst, inl, inr, ⊎_elim}
use Rattle.std.specs.List.{slice_get}

some_same : {X : Type 0} (a b : X) → Some a ≡ Some b → a ≡ b
some_same a b e = cc

none_some : {X : Type 0} (a : X) → None ≡ Some a → ⊥
none_some a e = cc

slice_get-push : {X : Type 0} (xs : List X) (x s : X) (k : ℕ) → slice_get (xs ++ x ∷ []) k ≡ Some s → (slice_get xs k ≡ Some s) ⊎ ((k ≡ length xs) × (x ≡ s))
slice_get-push [] x s zero e = inr (refl, some_same x s e)
slice_get-push [] x s (suc k) e = absurd (none_some s e)
slice_get-push (y ∷ ys) x s zero e = inl e
slice_get-push (y ∷ ys) x s (suc k) e = ⊎_elim (λ t. inl t) (λ t. inr (ap suc t.0, t.1)) (slice_get-push ys x s k e)

pub each_push : {X : Type 0} (P : ℕ → X → Type 0) (xs : List X) (x : X) (n : ℕ) → length xs ≡ n → ((k : ℕ) (s : X) → slice_get xs k ≡ Some s → P k s) → P n x
    → (k : ℕ) (s : X) → slice_get (xs ++ x ∷ []) k ≡ Some s → P k s
each_push {X} P xs x n long old here k s e = ⊎_elim (λ t. old k s t)
    (λ (t : (k ≡ length xs) × (x ≡ s)). subst (λ (z : ℕ × X). P z.0 z.1) (λ i. (sym (t.0 ∙ long) i, t.1 i)) here)
    (slice_get-push xs x s k e)
