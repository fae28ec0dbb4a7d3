-- In what order the domains of a part stand.
use Rattle.std.specs.Prelude.{◌≡◌, ◌⊎◌, ◌↔◌, ◌≤◌, ◌<◌, ◌≢◌, ℕ, List, [], ◌∷◌, ℤ, pos, ◌-ℤ◌, ◌<ℤ◌, length, slice_get, Some, All}
use Rattle.std.specs.Int.{int_rem_euclid}
use Rattle.dpl_sets.specs.Ranges.{RangeValue, members_of}
use Rattle.dpl_sets.specs.Indices.{tuples, indices}
use Rattle.dpl_domain.specs.Ranks.{last_of}
use Rattle.dpl_map.specs.Maps.{RuleValue, Block, Cyclic, BlockCyclic, AxisValue}
use Rattle.dpl_map.specs.Axes.{cut_rule}
use Rattle.dpl_map.specs.Counts.{rule_block}
use Rattle.dpl_map.specs.Cuts.{AreSorted}
use Rattle.dpl_map.specs.declared.find.Order.{Order}
use Rattle.dpl_map.specs.declared.find.Order.TheVariants.{Blocks, Offsets}

-- where an index lies in its block by the block-cyclic rule. By the other rules all that a locale has of a range is one range.
abbrev pub rule_offset : RuleValue → ℤ → ℤ
rule_offset (Block low high) i = pos 0
rule_offset (Cyclic start) i = pos 0
rule_offset (BlockCyclic start blocksize) i = int_rem_euclid (i -ℤ start) blocksize

-- the number by which the range of an index stands
abbrev pub rule_key : Order → RuleValue → ℤ → ℤ
rule_key Blocks rule i = rule_block rule i
rule_key Offsets rule i = rule_offset rule i

-- ranges are cut out of a list by rising keys: two members are in one range where they have one key
abbrev pub AreSortedBy : (ℤ → ℤ) → List ℤ → List RangeValue → Type 0
AreSortedBy key is ranges = AreSorted members_of (λ i j. key i <ℤ key j) is ranges

-- what a locale has of a dimension is cut into ranges by rising blocks or by rising offsets
abbrev pub AreListed : RuleValue → List ℤ → List RangeValue → Type 0
AreListed rule is ranges = (order : Order) × AreSortedBy (rule_key order rule) is ranges

-- a tuple comes before another one by the first dimension in which their keys differ
abbrev pub IsBefore : List (ℤ → ℤ) → List ℤ → List ℤ → Type 0
IsBefore (key ∷ keys) (i ∷ is) (j ∷ js) = (key i <ℤ key j) ⊎ ((key i ≡ key j) × IsBefore keys is js)
IsBefore _ _ _ = ⊥

-- three numbers that are keys themselves
abbrev pub three : List (ℤ → ℤ)
three = (λ i. i) ∷ (λ i. i) ∷ (λ i. i) ∷ []

-- the keys of each dimension
abbrev pub keys : List Order → List AxisValue → List (ℤ → ℤ)
keys (order ∷ orders) (axis ∷ axes) = rule_key order (cut_rule axis) ∷ keys orders axes
keys _ _ = []

-- the products of ranges of each dimension are cut out of the product of the dimensions row by row, in the orders of the ranges
abbrev pub AreProducts : ℕ → List RangeValue → List RangeValue → List RangeValue → List (List RangeValue) → Type 0
AreProducts rank outers middles inners domains =
    (f g h : ℤ → ℤ) (xs ys zs : List ℤ) → AreSortedBy f xs outers → AreSortedBy g ys middles → AreSortedBy h zs inners →
    AreSorted indices (IsBefore (last_of rank f g h)) (tuples (last_of rank xs ys zs)) domains

-- the j-th index of the k-th domain is a tuple
abbrev pub IsAt : List (List RangeValue) → ℕ → ℕ → List ℤ → Type 0
IsAt domains k j t = (domain : List RangeValue) × (slice_get domains k ≡ Some domain) × (slice_get (indices domain) j ≡ Some t)

-- a tuple stands in one of the domains alone
abbrev pub StandsInOne : List (List RangeValue) → List ℤ → Type 0
StandsInOne domains t = (k : ℕ) × ((j : ℕ) × IsAt domains k j t) × ((l : ℕ) → (j : ℕ) × IsAt domains l j t → l ≡ k)

-- Domains of a map's rank stand row by row, in an order of each dimension: one stands before another where its indices come
-- before those of the other. Each has an index.
pub record AreRowByRow (orders : List Order) (axes : List AxisValue) (domains : List (List RangeValue)) : Type 0 where
  pub rank : All (λ domain. length domain ≡ length axes) domains
  pub some : All (λ domain. indices domain ≢ []) domains
  pub sorted : (k l i j : ℕ) (s t : List ℤ) → IsAt domains k i s → IsAt domains l j t → (k < l) ↔ IsBefore (keys orders axes) s t

-- the domains of a part are at most one, or stand row by row
abbrev pub ArePart : List AxisValue → List (List RangeValue) → Type 0
ArePart axes domains = (length domains ≤ 1) ⊎ ((orders : List Order) × (length orders ≡ length axes) × AreRowByRow orders axes domains)

-- domains that stand row by row in these orders do not have a tuple
abbrev pub HasNone : List Order → List AxisValue → List (List RangeValue) → List ℤ → Type 0
HasNone orders axes domains t = AreRowByRow orders axes domains → (k j : ℕ) → IsAt domains k j t → ⊥
