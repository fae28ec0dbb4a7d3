-- How many domains a part is cut into at the most.
use Rattle.std.specs.Prelude.{◌≤◌, ◌*◌, ℕ, List, [], ◌∷◌, ℤ, pos, ◌≤ℤ◌, ◌-ℤ◌, map, length, All, Contains}
use Rattle.std.specs.Int.{int_div_euclid}
use Rattle.dpl_map.specs.Maps.{RuleValue, Block, Cyclic, BlockCyclic, AxisValue}
use Rattle.dpl_map.specs.Axes.{cut_rule}

-- A number is no more than a function has values on a list: whatever list has all those values is as long.
abbrev pub IsWithinValues : {X Y : Type 0} → (X → Y) → List X → ℕ → Type 0
IsWithinValues f xs n = (values : List _) → All (λ x. Contains values (f x)) xs → n ≤ length values

-- The block that has an index, counted from the start of the block-cyclic rule. By the other rules all that a
-- coordinate has of a range is one block.
abbrev pub rule_block : RuleValue → ℤ → ℤ
rule_block (Block low high) i = pos 0
rule_block (Cyclic start) i = pos 0
rule_block (BlockCyclic start blocksize) i = int_div_euclid (i -ℤ start) blocksize

-- How many offsets there are in a block of the block-cyclic rule. By the other rules all that a coordinate has of a range is one
-- range.
abbrev pub rule_offsets : RuleValue → ℤ
rule_offsets (Block low high) = pos 1
rule_offsets (Cyclic start) = pos 1
rule_offsets (BlockCyclic start blocksize) = blocksize

-- what a coordinate has of a range is in few ranges: no more than there are offsets in a block, and no more than the
-- blocks that have some of it
abbrev pub AreFewRanges : RuleValue → List ℤ → ℕ → Type 0
AreFewRanges rule is n = (pos n ≤ℤ rule_offsets rule) × IsWithinValues (rule_block rule) is n

-- the first coordinate of a tuple
abbrev pub first_of : List ℤ → ℤ
first_of [] = pos 0
first_of (i ∷ is) = i

-- and those behind it
abbrev pub rest_of : List ℤ → List ℤ
rest_of [] = []
rest_of (i ∷ is) = is

-- what a coordinate has of a domain is in few domains: the products of few ranges of each dimension
abbrev pub AreFew : List AxisValue → List (List ℤ) → ℕ → Type 0
AreFew [] tuples n = n ≤ 1
AreFew (axis ∷ axes) tuples n =
    (ranges : ℕ) × (rest : ℕ) × AreFewRanges (cut_rule axis) (map first_of tuples) ranges × AreFew axes (map rest_of tuples) rest × (n ≤ ranges * rest)
