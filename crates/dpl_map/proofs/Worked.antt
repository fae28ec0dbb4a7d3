-- Worked rows of the definitions, each by computation.
use Rattle.std.proofs.Common.{◌≡◌, ℤ, pos, negsuc, ◌-ℤ◌, List, [], ◌∷◌, Contains, inl, inr, refl, map, arith}
use Rattle.std.specs.Int.{int_div_euclid}
use Rattle.std.proofs.lemmas.Int.{ints}
use Rattle.std.proofs.lemmas.List.Elements.{All-nil, All-from_recursion}
use Rattle.dpl_sets.specs.Members.{members}
use Rattle.dpl_sets.specs.Ranges.{RangeValue}
use Rattle.dpl_sets.specs.Indices.{indices}
use Rattle.dpl_map.specs.Maps.{AxisValue, owner, cyclic_map, block_cyclic_map, Block, BlockCyclic}
use Rattle.dpl_map.specs.Axes.{block_cyclic_axis, cut_rule, AreSingle}
use Rattle.dpl_map.specs.Counts.{AreFewRanges}
use Rattle.dpl_map.specs.Orders.{rule_key, keys, IsBefore}
use Rattle.dpl_map.specs.declared.find.Order.TheVariants.{Blocks, Offsets}
use Rattle.dpl_map.specs.Parts.{part}
use Rattle.dpl_map.specs.Places.{block_place, cyclic_place, block_cyclic_place}

-- box 1..8 over three places
block_of_eight : map (block_place (pos 1) (pos 8) 3) (pos 1 ∷ pos 3 ∷ pos 4 ∷ pos 6 ∷ pos 7 ∷ pos 8 ∷ []) ≡ 0 ∷ 0 ∷ 1 ∷ 1 ∷ 2 ∷ 2 ∷ []
unfolding block_place
block_of_eight = refl

-- box 1..4 over three places
block_of_four : map (block_place (pos 1) (pos 4) 3) (pos 1 ∷ pos 2 ∷ pos 3 ∷ pos 4 ∷ []) ≡ 0 ∷ 0 ∷ 1 ∷ 2 ∷ []
unfolding block_place
block_of_four = refl

-- box 1..3 over eight places, which are more than it has indices
block_of_more_places : map (block_place (pos 1) (pos 3) 8) (pos 1 ∷ pos 2 ∷ pos 3 ∷ []) ≡ 0 ∷ 2 ∷ 5 ∷ []
unfolding block_place
block_of_more_places = refl

-- below the box 3..4 and above it
outside_the_box : map (block_place (pos 3) (pos 4) 2) (pos 1 ∷ pos 3 ∷ pos 4 ∷ pos 6 ∷ []) ≡ 0 ∷ 0 ∷ 1 ∷ 1 ∷ []
unfolding block_place
outside_the_box = refl

-- the box -2^60..2^60 over 64 locales
widest_box : map (block_place (negsuc 1152921504606846975) (pos 1152921504606846976) 64) (pos 0 ∷ pos 1152921504606846976 ∷ []) ≡ 31 ∷ 63 ∷ []
unfolding block_place
widest_box = refl

-- from the start 2^60 over three places
cyclic_far_below : cyclic_place (pos 1152921504606846976) 3 (negsuc 1152921504606846975) ≡ 1
unfolding cyclic_place
cyclic_far_below = refl

-- from 1 in blocks of 2 over two locales, below the start too
blocks_of_two : map (block_cyclic_place (pos 1) (pos 2) 2) (negsuc 1 ∷ negsuc 0 ∷ pos 0 ∷ pos 1 ∷ pos 2 ∷ pos 3 ∷ pos 4 ∷ pos 5 ∷ []) ≡ 0 ∷ 1 ∷ 1 ∷ 0 ∷ 0 ∷ 1 ∷ 1 ∷ 0 ∷ []
unfolding block_cyclic_place
blocks_of_two = refl

-- the box {1..4, 1..6} on a grid 2x3
boxes : List AxisValue
boxes = record { rule = Block (pos 1) (pos 4); extent = 2 } ∷ record { rule = Block (pos 1) (pos 6); extent = 3 } ∷ []

owner_on_a_grid : map (owner boxes) ((pos 3 ∷ pos 4 ∷ []) ∷ (pos 0 ∷ pos 7 ∷ []) ∷ []) ≡ 4 ∷ 2 ∷ []
unfolding owner block_place boxes
owner_on_a_grid = refl

-- a tuple of another rank
owner_of_another_rank : owner boxes (pos 4 ∷ []) ≡ 0
unfolding owner block_place boxes
owner_of_another_rank = refl

owner_of_a_greater_rank : owner boxes (pos 4 ∷ pos 6 ∷ pos 1 ∷ []) ≡ 0
unfolding owner block_place boxes
owner_of_a_greater_rank = refl

-- the box {1..2, 1..3, 1..2} on a grid 2x3x2
solid : List AxisValue
solid = record { rule = Block (pos 1) (pos 2); extent = 2 } ∷ record { rule = Block (pos 1) (pos 3); extent = 3 } ∷ record { rule = Block (pos 1) (pos 2); extent = 2 } ∷ []

owner_in_space : map (owner solid) ((pos 2 ∷ pos 3 ∷ pos 1 ∷ []) ∷ (pos 1 ∷ pos 2 ∷ pos 2 ∷ []) ∷ []) ≡ 10 ∷ 3 ∷ []
unfolding owner block_place solid
owner_in_space = refl

-- from (1, 2) on a grid 2x3
cyclic_on_a_grid : map (owner (cyclic_map (pos 1 ∷ pos 2 ∷ []) (2 ∷ 3 ∷ []))) ((pos 1 ∷ pos 2 ∷ []) ∷ (pos 2 ∷ pos 3 ∷ []) ∷ (pos 1 ∷ pos 1 ∷ []) ∷ []) ≡ 0 ∷ 4 ∷ 2 ∷ []
unfolding owner cyclic_place
cyclic_on_a_grid = refl

-- from (1, 2) in blocks of 2 and of 3 on a grid 2x2
blocks_on_a_grid : map (owner (block_cyclic_map (pos 1 ∷ pos 2 ∷ []) (pos 2 ∷ pos 3 ∷ []) (2 ∷ 2 ∷ []))) ((pos 3 ∷ pos 4 ∷ []) ∷ (pos 2 ∷ pos 5 ∷ []) ∷ []) ≡ 2 ∷ 1 ∷ []
unfolding owner block_cyclic_place
blocks_on_a_grid = refl

range : ℤ → ℤ → ℤ → RangeValue
range low high stride = record { low = low; high = high; stride = stride }

-- from 1 over three places, the domain `0..9 by 2`
cyclic_parts : map (part (range (pos 0) (pos 9) (pos 2) ∷ []) (cyclic_map (pos 1 ∷ []) (3 ∷ []))) (0 ∷ 1 ∷ 2 ∷ 3 ∷ []) ≡ ((pos 4 ∷ []) ∷ []) ∷ ((pos 2 ∷ []) ∷ (pos 8 ∷ []) ∷ []) ∷ ((pos 0 ∷ []) ∷ (pos 6 ∷ []) ∷ []) ∷ [] ∷ []
unfolding part owner cyclic_place indices members range
cyclic_parts = refl

-- box 1..12 over three places, the domain `1..12 by 5`
block_parts : map (part (range (pos 1) (pos 12) (pos 5) ∷ []) (record { rule = Block (pos 1) (pos 12); extent = 3 } ∷ [])) (0 ∷ 1 ∷ 2 ∷ []) ≡ ((pos 1 ∷ []) ∷ []) ∷ ((pos 6 ∷ []) ∷ []) ∷ ((pos 11 ∷ []) ∷ []) ∷ []
unfolding part owner block_place indices members range
block_parts = refl

-- from 1 in blocks of 2 over two locales, the domain 1..8
block_cyclic_parts : map (part (range (pos 1) (pos 8) (pos 1) ∷ []) (block_cyclic_map (pos 1 ∷ []) (pos 2 ∷ []) (2 ∷ []))) (0 ∷ 1 ∷ []) ≡ ((pos 1 ∷ []) ∷ (pos 2 ∷ []) ∷ (pos 5 ∷ []) ∷ (pos 6 ∷ []) ∷ []) ∷ ((pos 3 ∷ []) ∷ (pos 4 ∷ []) ∷ (pos 7 ∷ []) ∷ (pos 8 ∷ []) ∷ []) ∷ []
unfolding part owner block_cyclic_place indices members range
block_cyclic_parts = refl

-- from 1 in blocks of 2 over two locales, keys by blocks and by offsets; over one locale a range is not cut, so that each key is 0
keys_of_two : map (rule_key Blocks (cut_rule (block_cyclic_axis (pos 1) (pos 2) 2))) (pos 1 ∷ pos 4 ∷ pos 5 ∷ []) ≡ pos 0 ∷ pos 1 ∷ pos 2 ∷ []
keys_of_two = refl

offsets_of_two : map (rule_key Offsets (cut_rule (block_cyclic_axis (pos 1) (pos 2) 2))) (pos 1 ∷ pos 4 ∷ pos 5 ∷ []) ≡ pos 0 ∷ pos 1 ∷ pos 0 ∷ []
offsets_of_two = refl

keys_of_one : map (rule_key Blocks (cut_rule (block_cyclic_axis (pos 1) (pos 2) 1))) (pos 1 ∷ pos 4 ∷ pos 5 ∷ []) ≡ pos 0 ∷ pos 0 ∷ pos 0 ∷ []
keys_of_one = refl

offsets_of_one : map (rule_key Offsets (cut_rule (block_cyclic_axis (pos 1) (pos 2) 1))) (pos 1 ∷ pos 4 ∷ pos 5 ∷ []) ≡ pos 0 ∷ pos 0 ∷ pos 0 ∷ []
offsets_of_one = refl

one_locale_is_single : AreSingle (block_cyclic_map (pos 1 ∷ pos 1 ∷ []) (pos 2 ∷ pos 3 ∷ []) (1 ∷ 1 ∷ []))
one_locale_is_single = (tt, (tt, tt))

-- from (1, 1) in blocks of 1 and of 2 on a grid 1x2: only columns are cut
columns : List AxisValue
columns = block_cyclic_map (pos 1 ∷ pos 1 ∷ []) (pos 1 ∷ pos 2 ∷ []) (1 ∷ 2 ∷ [])

-- the domain {1..2, 1..4}
column_parts : map (part (range (pos 1) (pos 2) (pos 1) ∷ range (pos 1) (pos 4) (pos 1) ∷ []) columns) (0 ∷ 1 ∷ []) ≡ ((pos 1 ∷ pos 1 ∷ []) ∷ (pos 1 ∷ pos 2 ∷ []) ∷ (pos 2 ∷ pos 1 ∷ []) ∷ (pos 2 ∷ pos 2 ∷ []) ∷ []) ∷ ((pos 1 ∷ pos 3 ∷ []) ∷ (pos 1 ∷ pos 4 ∷ []) ∷ (pos 2 ∷ pos 3 ∷ []) ∷ (pos 2 ∷ pos 4 ∷ []) ∷ []) ∷ []
unfolding part owner block_cyclic_place indices members range columns
column_parts = refl

-- so the domain that has (2, 1) stands before the one that has (1, 5)
columns_alone : IsBefore (keys (Blocks ∷ Blocks ∷ []) columns) (pos 2 ∷ pos 1 ∷ []) (pos 1 ∷ pos 5 ∷ [])
unfolding columns
columns_alone = inr (refl, inl (omega (arith, ints)))

-- the whole map
whole_parts : map (part (range (pos 1) (pos 2) (pos 1) ∷ []) []) (0 ∷ 1 ∷ []) ≡ ((pos 1 ∷ []) ∷ (pos 2 ∷ []) ∷ []) ∷ [] ∷ []
unfolding part owner indices members range
whole_parts = refl

-- Place 0 of three has {10} and {18, 20} of `4..27 by 2`, from 0 in blocks of 3: members at all three offsets, in two blocks.
-- So it is not in three ranges.
no_more_than_blocks : AreFewRanges (BlockCyclic (pos 0) (pos 3)) (pos 10 ∷ pos 18 ∷ pos 20 ∷ []) 3 → ⊥
no_more_than_blocks few =
    let two = few.1 (pos 3 ∷ pos 6 ∷ [])
    (All-from_recursion (λ i. Contains (pos 3 ∷ pos 6 ∷ []) (int_div_euclid (i -ℤ pos 0) (pos 3))) (pos 10 ∷ pos 18 ∷ pos 20 ∷ [])
    ((0, omega arith, refl), ((1, omega arith, refl), ((1, omega arith, refl), tt)))) in
    omega (arith, two)

-- from 1 in blocks of 2, no more than two
no_more_than_offsets : (is : List ℤ) → AreFewRanges (BlockCyclic (pos 1) (pos 2)) is 3 → ⊥
no_more_than_offsets is few = omega (arith, ints, few.0)

-- by Block, no more than one, and none of nothing
no_more_than_one : (is : List ℤ) → AreFewRanges (Block (pos 1) (pos 4)) is 2 → ⊥
no_more_than_one is few = omega (arith, ints, few.0)

none_of_nothing : AreFewRanges (Block (pos 1) (pos 4)) [] 1 → ⊥
none_of_nothing few = let none = few.1 [] (All-nil (λ i. Contains [] (pos 0))) in omega (arith, none)
