-- Of the faults that parts have, that of the least place is told.
use Rattle.std.proofs.Common.{eqb-true, ◌≡◌, ℕ, ◌<◌, ◌==◌, ◌||◌, Bool, true, false, cond, List, [], ◌∷◌, refl, sym, ap, ◌∙◌, arith}
use Rattle.std.specs.Prelude.{nat_lt}
use Rattle.std.specs.List.{AllByRecursion, list_any}
use Rattle.std.proofs.lemmas.Bool.Decides.{nat_tests}
use Rattle.dpl_language.specs.Values.{Index, Fault}
use Rattle.dpl_apart.specs.Rows.{Ran, Finished, Failed, merge, merged, AreOnce}
use Rattle.dpl_apart.proofs.Split.{less, not_less}

-- turns that have no fault, or have it at a greater place
abbrev pub IsLater : {T V : Type 0} → ℕ → Ran T V → Type 0
IsLater k (Finished rows a) = Unit {0}
IsLater k (Failed j g) = k < j

module _ {T V : Type 0} (join : V → V → V) (p : Index → Bool) (k : ℕ) where
  first-least : (f : Fault) (y : Ran T V) → IsLater k y → merge join p (Failed k f) y ≡ Failed k f
  first-least f (Finished rows a) h = refl
  first-least f (Failed j g) h = rw (less k j h) refl

  second-least : (f : Fault) (x : Ran T V) → IsLater k x → merge join p x (Failed k f) ≡ Failed k f
  second-least f (Finished rows a) h = refl
  second-least f (Failed j g) h = rw (not_less j k h) refl

  merge-later : (x y : Ran T V) → IsLater k x → IsLater k y → IsLater k (merge join p x y)
  merge-later (Finished xs a) (Finished ys b) hx hy = tt
  merge-later (Finished xs a) (Failed j g) hx hy = hy
  merge-later (Failed i f) (Finished ys b) hx hy = hx
  merge-later (Failed i f) (Failed j g) hx hy = elim (nat_lt i j) as (λ b. IsLater {T = T} {V = V} k (cond b (Failed i f) (Failed j g))) [ true ↦ hx | false ↦ hy ]

-- what is so of each locale but one is so of all those among which this one isn't
all-others : (P : ℕ → Type 0) (l : ℕ) (ls : List ℕ) → list_any (λ m. l == m) ls ≡ false → AllByRecursion (λ m. (m ≡ l → ⊥) → P m) ls → AllByRecursion P ls
all-others P l [] none h = tt
all-others P l (m ∷ ms) none h = by (l == m) refl none (all-others P l ms) where
  by : (c : Bool) → (l == m) ≡ c → (c || list_any (λ m. l == m) ms) ≡ false → (list_any (λ m. l == m) ms ≡ false → AllByRecursion (λ m. (m ≡ l → ⊥) → P m) ms → AllByRecursion P ms) → AllByRecursion P (m ∷ ms)
  by true e none rest = absurd cc
  by false e none rest = (h.0 (λ same. let yes : (l == m) ≡ true = grind (arith, nat_tests) in let no : true ≡ false = sym yes ∙ e in cc), rest none h.1)

module _ {T V : Type 0} (join : V → V → V) (unit : V) (owner : Index → ℕ) (each : ℕ → Ran T V) (rows : Index → T) (k : ℕ) where
  merged-later : (ls : List ℕ) → AllByRecursion (λ l. IsLater k (each l)) ls → IsLater k (merged join owner each (Finished rows unit) ls)
  merged-later [] h = tt
  merged-later (l ∷ ls) h = merge-later join (λ t. owner t == l) k (each l) (merged join owner each (Finished rows unit) ls) h.0 (merged-later ls h.1)

  -- Where all others have no fault, or have it at a greater place, the one that has a fault tells it.
  pub merged-least : (f : Fault) (l : ℕ) (ls : List ℕ) → AreOnce ls → list_any (λ m. l == m) ls ≡ true → each l ≡ Failed k f → AllByRecursion (λ m. (m ≡ l → ⊥) → IsLater k (each m)) ls
      → merged join owner each (Finished rows unit) ls ≡ Failed k f
  merged-least f l [] once among fails later = absurd cc
  merged-least f l (m ∷ ms) once among fails later = by (l == m) refl among (λ more. merged-least f l ms once.1 more fails later.1) where
    by : (c : Bool) → (l == m) ≡ c → (c || list_any (λ m. l == m) ms) ≡ true → (list_any (λ m. l == m) ms ≡ true → merged join owner each (Finished rows unit) ms ≡ Failed k f)
        → merge join (λ t. owner t == m) (each m) (merged join owner each (Finished rows unit) ms) ≡ Failed k f
    by true e among behind =
        let same : l ≡ m = eqb-true l m e in
        let none : list_any (λ x. l == x) ms ≡ false = ap (λ n. list_any (λ x. n == x) ms) same ∙ once.0 in
        ap (λ r. merge join (λ t. owner t == m) r (merged join owner each (Finished rows unit) ms)) (sym (ap each same) ∙ fails)
        ∙ first-least join (λ t. owner t == m) k f (merged join owner each (Finished rows unit) ms) (merged-later ms (all-others (λ m. IsLater k (each m)) l ms none later.1))
    by false e among behind =
        let other : m ≡ l → ⊥ = λ same. let yes : (l == m) ≡ true = grind (arith, nat_tests) in let no : true ≡ false = sym yes ∙ e in cc in
        ap (merge join (λ t. owner t == m) (each m)) (behind among) ∙ second-least join (λ t. owner t == m) k f (each m) (later.0 other)
