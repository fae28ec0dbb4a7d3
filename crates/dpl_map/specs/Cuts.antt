-- What it is for pieces to be cut out of a list.
use Rattle.std.specs.Prelude.{◌≡◌, ◌<◌, ◌==◌, ◌↔◌, ℕ, List, [], ◌∷◌, ◌++◌, filter, length, slice_get, All, Contains, IfSome}

-- Pieces are cut out of a list where each element can be given the number of one of them, and each piece lists the
-- elements that have its number, in their order. So no two have an element in common, and together they have every one.
pub record AreCut {X P : Type 0} (elements : P → List X) (xs : List X) (pieces : List P) : Type 0 where
  pub number : X → ℕ
  pub numbered : All (λ x. number x < length pieces) xs
  pub listed : (k : ℕ) → IfSome (slice_get pieces k) (λ p. elements p ≡ filter (λ x. number x == k) xs)

-- Pieces that are cut out in an order of the elements: a piece stands before another one where its elements come before those
-- of the other. So elements of one piece come neither before nor after each other.
pub record AreSorted {X P : Type 0} (elements : P → List X) (before : X → X → Type 0) (xs : List X) (pieces : List P) : Type 0 where
  pub cut : AreCut elements xs pieces
  pub sorted : (x y : X) → Contains xs x → Contains xs y → (cut.number x < cut.number y) ↔ before x y

-- some pieces, and behind them another one if it has elements
abbrev pub behind : {X P : Type 0} → List X → P → List P → List P
behind [] p pieces = pieces
behind (x ∷ xs) p pieces = pieces ++ p ∷ []
