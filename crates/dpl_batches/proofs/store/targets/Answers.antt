-- Each target stands at the place of its store.
-- These are the answers to the goals of `targets`.
use Rattle.std.proofs.Common.{◌≡◌, ◌≤◌, ℕ, List, [], ◌∷◌, map, take, length, slice_get, Some, refl, ap, ◌∙◌, arith}
use Rattle.dpl_strips.specs.Strips.{Written, written}
use Rattle.dpl_strips.specs.declared.target.Target.{Target}
use Rattle.dpl_batches.specs.Stores.{by_now}
use Rattle.dpl_batches.specs.declared.store.Store.{Store}
use Rattle.dpl_batches.proofs.store.targets.Goals as goal

-- what a target is, if a store stands at its place
abbrev Stands : List Store → ℕ → Target → Type 0
Stands xs k t = (x : Store) → slice_get xs k ≡ Some x → written t ≡ by_now x

all-stand : (xs : List Store) (a b c d : Target) → length xs ≤ 4 → Stands xs 0 a → Stands xs 1 b → Stands xs 2 c → Stands xs 3 d
    → map written (take (length xs) (a ∷ b ∷ c ∷ d ∷ [])) ≡ map by_now xs
all-stand [] a b c d few p q r s = refl
all-stand (x ∷ []) a b c d few p q r s = ap (λ (t : Written). t ∷ []) (p x refl)
all-stand (x ∷ y ∷ []) a b c d few p q r s =
    ap (λ (t : Written). t ∷ written b ∷ []) (p x refl) ∙ ap (λ (t : Written). by_now x ∷ t ∷ []) (q y refl)
all-stand (x ∷ y ∷ z ∷ []) a b c d few p q r s =
    ap (λ (t : Written). t ∷ written b ∷ written c ∷ []) (p x refl)
    ∙ ap (λ (t : Written). by_now x ∷ t ∷ written c ∷ []) (q y refl)
    ∙ ap (λ (t : Written). by_now x ∷ by_now y ∷ t ∷ []) (r z refl)
all-stand (x ∷ y ∷ z ∷ w ∷ []) a b c d few p q r s =
    ap (λ (t : Written). t ∷ written b ∷ written c ∷ written d ∷ []) (p x refl)
    ∙ ap (λ (t : Written). by_now x ∷ t ∷ written c ∷ written d ∷ []) (q y refl)
    ∙ ap (λ (t : Written). by_now x ∷ by_now y ∷ t ∷ written d ∷ []) (r z refl)
    ∙ ap (λ (t : Written). by_now x ∷ by_now y ∷ by_now z ∷ t ∷ []) (s w refl)
all-stand (x ∷ y ∷ z ∷ w ∷ v ∷ vs) a b c d few p q r s = absurd (omega (arith, few))

pub returns : goal.returns
returns c =
    all-stand c.args.stores.now c.target_at.result c.target_at-2.result c.target_at-3.result c.target_at-4.result c.requires
    c.target_at.ensures c.target_at-2.ensures c.target_at-3.ensures c.target_at-4.ensures
