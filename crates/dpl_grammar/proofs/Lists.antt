-- Two ways to cut one list, and lists that end others.
-- They serve the laws of fronts, which are lists that others begin with.
use Rattle.std.proofs.Common.{◌≡◌, ◌⊎◌, inl, inr, ◌≤◌, List, [], ◌∷◌, ◌++◌, length, refl, sym, ap, arith, length-append}
use Rattle.dpl_syntax.specs.declared.token.Token.{Token}

-- a list is cut into u and v, and into a and b: the one front goes on to the other
abbrev pub AreCuts : List Token → List Token → List Token → List Token → Type 0
AreCuts u v a b = ((c : List Token) × (a ≡ u ++ c) × (v ≡ c ++ b)) ⊎ ((c : List Token) × (u ≡ a ++ c) × (b ≡ c ++ v))

pub cuts : (u v a b : List Token) → u ++ v ≡ a ++ b → AreCuts u v a b
cuts [] v a b e = inl (a, refl, e)
cuts (k ∷ u) v [] b e = inr (k ∷ u, refl, sym e)
cuts (k ∷ u) v (j ∷ a) b e =
    let same : k ≡ j = cc in
    let rest : u ++ v ≡ a ++ b = cc in
    elim (cuts u v a b rest) [
      | inl h ↦ inl (h.0, rw (same, h.1) refl, h.2)
      | inr h ↦ inr (h.0, rw (same, h.1) refl, h.2)
    ]

-- a list is no shorter than one that it ends with
pub ends_shorter : (ts u rest : List Token) → ts ≡ u ++ rest → length rest ≤ length ts
ends_shorter ts u rest e = omega (arith, ap length e, length-append u rest)
