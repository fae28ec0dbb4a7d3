-- Tests by facts that agree.
use Rattle.std.proofs.Common.{◌≡◌, ℕ, ◌==◌, eqb-true, eq-eqb}
use Rattle.std.specs.Cmp.{both_ways}

-- a test of two numbers by a fact about them
pub eq-tests : (a b c d : ℕ) → (a ≡ b → c ≡ d) → (c ≡ d → a ≡ b) → (a == b) ≡ (c == d)
eq-tests a b c d to from = both_ways (a == b) (c == d) (λ h. eq-eqb c d (to (eqb-true a b h))) (λ h. eq-eqb a b (from (eqb-true c d h)))
