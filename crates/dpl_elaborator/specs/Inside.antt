-- How far the deeds of a chain's further operands reach that stand in promoted pairs, all up to the last pair that is promoted.
-- Before them stand those that were there, and what the first operand does.
use Rattle.std.specs.Prelude.{◌≡◌, ◌≤◌, ℕ, Bool, true, false, ◌||◌, List, [], ◌++◌, take, drop, length, is_some, Option, Some, None}
use Rattle.dpl_language.specs.Tree.{Links}
use Rattle.dpl_language.specs.Names.{Text}
use Rattle.dpl_rules.specs.Types.{ValueType}
use Rattle.dpl_rules.specs.Sights.{Scopes}
use Rattle.dpl_rules.specs.Deeds.{Deed}
use Rattle.dpl_rules.specs.Expressions.{has_promoted_pair, inner_links}

-- the deeds from a start to an end, if there is one
abbrev pub between : ℕ → Option ℕ → List Deed → List Deed
between start None ds = []
between start (Some upto) ds = drop start (take upto ds)

-- behind all further operands, where what stands before them has this type
abbrev pub Reaches : Scopes → Option ValueType → Links Text → List Deed → List Deed → Option ℕ → Type 0
Reaches scopes t links old new None = has_promoted_pair scopes t links ≡ false
Reaches scopes t links old new (Some upto) = (has_promoted_pair scopes t links ≡ true) × (take upto new ≡ old ++ inner_links scopes t links)

-- the same on the way: of all further operands some are left, before which this type stands and these deeds
pub record ReachesSoFar (scopes : Scopes) (begin : Option ValueType) (all : Links Text) (old : List Deed) (t : Option ValueType) (left : Links Text) (now : List Deed) (upto : Option ℕ) : Type 0 where
  pub some : has_promoted_pair scopes begin all ≡ (is_some upto || has_promoted_pair scopes t left)
  pub more : has_promoted_pair scopes t left ≡ true → now ++ inner_links scopes t left ≡ old ++ inner_links scopes begin all
  pub ended : (n : ℕ) → upto ≡ Some n
      → (n ≤ length now) × (has_promoted_pair scopes t left ≡ false → take n now ≡ old ++ inner_links scopes begin all)
