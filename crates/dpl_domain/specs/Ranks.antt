-- Up to three things as three, the last one last: a lower rank leaves the first ones unused.
use Rattle.std.specs.Prelude.{ℕ, zero, suc, ◌≤◌, ◌≡◌, ◌<◌, List, [], ◌∷◌, pos}
use Rattle.dpl_sets.specs.Ranges.{RangeValue}

-- the last one, two or all three of three things
abbrev pub last_of : {A : Type 0} → ℕ → A → A → A → List A
last_of zero a b c = []
last_of (suc zero) a b c = c ∷ []
last_of (suc (suc zero)) a b c = b ∷ c ∷ []
last_of (suc (suc (suc n))) a b c = a ∷ b ∷ c ∷ []

-- the rank is 0 to 3, and what it leaves unused is as given
pub record IsFilled {A : Type 0} (unused : A) (rank : ℕ) (a b c : A) : Type 0 where
  pub to_three : rank ≤ 3
  pub first : rank < 3 → a ≡ unused
  pub second : rank < 2 → b ≡ unused
  pub third : rank < 1 → c ≡ unused

-- the same of a rank from 1 to 3
pub record IsPadded {A : Type 0} (unused : A) (rank : ℕ) (a b : A) : Type 0 where
  pub from_one : 1 ≤ rank
  pub to_three : rank ≤ 3
  pub first : rank < 3 → a ≡ unused
  pub second : rank < 2 → b ≡ unused

-- the range with the one member 0, which stands where a domain has no range
abbrev pub point : RangeValue
point = record { low = pos 0; high = pos 0; stride = pos 1 }
