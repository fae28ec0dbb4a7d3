-- Worked rows of the definitions: the map of a root in each case. Each is the only one (`SameLemmas`).
use Rattle.std.proofs.Common.{◌≡◌, ◌<◌, ◌≤ℤ◌, ℤ, pos, negsuc, List, [], ◌∷◌, All, Contains, refl, ap, ◌∙◌, arith, unsigned_abs}
use Rattle.std.proofs.lemmas.Int.{ints}
use Rattle.std.proofs.lemmas.List.Elements.{All-from_recursion, All-head}
use Rattle.dpl_sets.specs.Members.{members}
use Rattle.dpl_sets.specs.Ranges.{RangeValue, members_of, IsBound}
use Rattle.dpl_range.proofs.Ends.{slice_get-Contains}
use Rattle.dpl_range.proofs.MemberLemmas.{member-within}
use Rattle.dpl_sets.specs.Indices.{indices}
use Rattle.dpl_map.specs.Maps.{AxisValue, Block as BlockRule, Cyclic as CyclicRule, BlockCyclic as BlockCyclicRule, IsBox, IsBlocksize, owner, whole_map}
use Rattle.dpl_map.specs.Places.{block_place}
use Rattle.dpl_map.proofs.ListLemmas.{All-members}
use Rattle.dpl_layout.specs.declared.maps.Maps.{Maps}
use Rattle.dpl_layout.specs.declared.maps.Maps.TheVariants as roots
use Rattle.dpl_layout.specs.declared.named.Named.TheVariants.{Whole, Block, Cyclic, BlockCyclic}
use Rattle.dpl_layout.specs.Layouts.{LayoutValue}
use Rattle.dpl_layout.specs.Roots.{IsBlockOf, IsRootMap}
use Rattle.dpl_layout.proofs.SameLemmas.{IsRootMap-same}

-- four locales in a line, the grid 2x3 for domains of two dimensions
layout : Maps → LayoutValue
layout maps = record { line = 4 ∷ []; plane = 2 ∷ 3 ∷ []; space = 1 ∷ 2 ∷ 2 ∷ []; maps = maps }

range : ℤ → ℤ → ℤ → RangeValue
range low high stride = record { low = low; high = high; stride = stride }

-- the domain {1..8}, and one without an index
eight : List RangeValue
eight = range (pos 1) (pos 8) (pos 1) ∷ []

nothing : List RangeValue
nothing = range (pos 1) (pos 0) (pos 1) ∷ []

-- both bounds are members
ends : (r : RangeValue) → 0 < unsigned_abs r.stride → Contains (members_of r) r.low → Contains (members_of r) r.high → IsBox r r.low r.high
ends r positive low high =
    let within : (i : ℤ) → Contains (members_of r) i → (r.low ≤ℤ i) × (i ≤ℤ r.high) =
    λ i member. let at = slice_get-Contains (members_of r) i member in member-within r.low r.high r.stride at.0 i positive at.1 in
    record {
      low_is_member = low;
      low_is_least = All-members (λ i. r.low ≤ℤ i) (members_of r) (λ i member. (within i member).0);
      high_is_member = high;
      high_is_greatest = All-members (λ i. i ≤ℤ r.high) (members_of r) (λ i member. (within i member).1);
    }

-- the map over the box 1..8
blocks : List AxisValue
blocks = record { rule = BlockRule (pos 1) (pos 8); extent = 4 } ∷ []

eight_blocks : (maps : Maps) → IsBlockOf (layout maps) eight blocks
unfolding layout eight blocks range indices members
eight_blocks maps = record { empty = λ none. absurd cc; some = λ some. ((pos 1, pos 8, ends _ (omega arith) (0, omega arith, refl) (7, omega arith, refl), refl), tt) }

-- `blockDist` with the box 1..8
block : IsRootMap (layout roots.AsIs) (Block eight) eight blocks
unfolding layout
block = eight_blocks roots.AsIs

third : owner blocks (pos 3 ∷ []) ≡ 1
unfolding owner blocks block_place
third = refl

-- so each map that such a root may get has index 3 on locale 1
owner_by_block : (m : List AxisValue) → IsRootMap (layout roots.AsIs) (Block eight) eight m → owner m (pos 3 ∷ []) ≡ 1
owner_by_block m is =
    ap (λ (m : List AxisValue). owner m (pos 3 ∷ [])) (IsRootMap-same (layout roots.AsIs) m blocks (Block eight) eight is block) ∙ third

-- and the whole map is none of them
whole_third : owner whole_map (pos 3 ∷ []) ≡ 0
unfolding owner
whole_third = refl

not_whole : IsRootMap (layout roots.AsIs) (Block eight) eight whole_map → ⊥
not_whole is = let third = owner_by_block whole_map is in omega (arith, third, whole_third)

-- an empty box
empty_box : IsRootMap (layout roots.AsIs) (Block nothing) eight []
unfolding layout nothing range indices members
empty_box = record { empty = λ none. refl; some = λ some. absurd (some refl) }

-- a box without an index in one of its dimensions
box_empty_in_one : IsRootMap (layout roots.AsIs) (Block (range (pos 1) (pos 4) (pos 1) ∷ nothing)) eight []
unfolding layout nothing range indices members
box_empty_in_one = record { empty = λ none. refl; some = λ some. absurd (some refl) }

-- the members of the box `1..12 by 5` are 1, 6 and 11, so it ends at 11
strided_box : IsRootMap (layout roots.AsIs) (Block (range (pos 1) (pos 12) (pos 5) ∷ [])) eight (record { rule = BlockRule (pos 1) (pos 11); extent = 4 } ∷ [])
unfolding layout range indices members
strided_box =
    record {
      empty = λ none. absurd cc;
      some = λ some. (
        (
          pos 1,
          pos 11,
          record {
            low_is_member = (0, omega arith, refl);
            low_is_least = All-from_recursion (λ i. pos 1 ≤ℤ i) (pos 1 ∷ pos 6 ∷ pos 11 ∷ []) (omega (arith, ints), (omega (arith, ints), (omega (arith, ints), tt)));
            high_is_member = (2, omega arith, refl);
            high_is_greatest = All-from_recursion (λ i. i ≤ℤ pos 11) (pos 1 ∷ pos 6 ∷ pos 11 ∷ []) (omega (arith, ints), (omega (arith, ints), (omega (arith, ints), tt)));
          },
          refl,
        ),
        tt,
      );
    }

-- the box {1..4, 1..6} on the grid 2x3
plane : List RangeValue
plane = range (pos 1) (pos 4) (pos 1) ∷ range (pos 1) (pos 6) (pos 1) ∷ []

plane_blocks : List AxisValue
plane_blocks = record { rule = BlockRule (pos 1) (pos 4); extent = 2 } ∷ record { rule = BlockRule (pos 1) (pos 6); extent = 3 } ∷ []

block_of_two : IsRootMap (layout roots.AsIs) (Block plane) plane plane_blocks
unfolding layout plane plane_blocks range indices members
block_of_two =
    record {
      empty = λ none. absurd cc;
      some = λ some. ((pos 1, pos 4, ends _ (omega arith) (0, omega arith, refl) (3, omega arith, refl), refl), ((pos 1, pos 6, ends _ (omega arith) (0, omega arith, refl) (5, omega arith, refl), refl), tt));
    }

-- `cyclicDist` from 1
one_bound : All IsBound (pos 1 ∷ [])
one_bound = All-from_recursion IsBound (pos 1 ∷ []) ((omega (arith, ints), omega (arith, ints)), tt)

cyclic : IsRootMap (layout roots.AsIs) (Cyclic (pos 1 ∷ [])) eight (record { rule = CyclicRule (pos 1); extent = 4 } ∷ [])
unfolding layout
cyclic = record { within = λ _. refl; past = λ past. absurd (past one_bound) }

-- from 2^60 + 1, and from 2^60
past_limit : IsRootMap (layout roots.AsIs) (Cyclic (pos 1152921504606846977 ∷ [])) eight []
unfolding layout
past_limit =
    record {
      within = λ bounds. let bound = All-head IsBound (pos 1152921504606846977) [] bounds in absurd (omega (arith, ints, bound.1));
      past = λ past. refl;
    }

at_limit : IsRootMap (layout roots.AsIs) (Cyclic (pos 1152921504606846976 ∷ [])) eight (record { rule = CyclicRule (pos 1152921504606846976); extent = 4 } ∷ [])
unfolding layout
at_limit =
    record {
      within = λ _. refl;
      past = λ past. absurd (past (All-from_recursion IsBound (pos 1152921504606846976 ∷ []) ((omega (arith, ints), omega (arith, ints)), tt)));
    }

-- from -2^60 - 1
past_least : IsRootMap (layout roots.AsIs) (Cyclic (negsuc 1152921504606846976 ∷ [])) eight []
unfolding layout
past_least =
    record {
      within = λ bounds. let bound = All-head IsBound (negsuc 1152921504606846976) [] bounds in absurd (omega (arith, ints, bound.0));
      past = λ past. refl;
    }

-- from (1, 1, 1) on the grid 1x2x2
three_ones : All IsBound (pos 1 ∷ pos 1 ∷ pos 1 ∷ [])
three_ones = All-from_recursion IsBound (pos 1 ∷ pos 1 ∷ pos 1 ∷ []) ((omega (arith, ints), omega (arith, ints)), ((omega (arith, ints), omega (arith, ints)), ((omega (arith, ints), omega (arith, ints)), tt)))

cyclic_in_space :
    IsRootMap (layout roots.AsIs) (Cyclic (pos 1 ∷ pos 1 ∷ pos 1 ∷ [])) eight
    (record { rule = CyclicRule (pos 1); extent = 1 } ∷ record { rule = CyclicRule (pos 1); extent = 2 } ∷ record { rule = CyclicRule (pos 1); extent = 2 } ∷ [])
unfolding layout
cyclic_in_space = record { within = λ _. refl; past = λ past. absurd (past three_ones) }

-- `blockCycDist` from 1 in blocks of 2, of 0, and with sizes for two dimensions
block_cyclic : IsRootMap (layout roots.AsIs) (BlockCyclic (pos 1 ∷ []) (pos 2 ∷ [])) eight (record { rule = BlockCyclicRule (pos 1) (pos 2); extent = 4 } ∷ [])
unfolding layout
block_cyclic =
    record {
      blocks = λ _. refl;
      none = λ none. absurd (none (one_bound, refl, All-from_recursion IsBlocksize (pos 2 ∷ []) (omega (arith, ints), tt)));
    }

no_blocks : IsRootMap (layout roots.AsIs) (BlockCyclic (pos 1 ∷ []) (pos 0 ∷ [])) eight []
unfolding layout
no_blocks =
    record {
      blocks = λ are. let some = All-head IsBlocksize (pos 0) [] are.2 in absurd (omega (arith, ints, some));
      none = λ none. refl;
    }

blocks_past_limit : IsRootMap (layout roots.AsIs) (BlockCyclic (pos 1152921504606846977 ∷ []) (pos 2 ∷ [])) eight []
unfolding layout
blocks_past_limit =
    record {
      blocks = λ are. let bound = All-head IsBound (pos 1152921504606846977) [] are.0 in absurd (omega (arith, ints, bound.1));
      none = λ none. refl;
    }

more_sizes : IsRootMap (layout roots.AsIs) (BlockCyclic (pos 1 ∷ []) (pos 2 ∷ pos 2 ∷ [])) eight []
unfolding layout
more_sizes = record { blocks = λ are. let e = are.1 in absurd (omega (arith, e)); none = λ none. refl }

-- no map is named, or an argument has no value
none_named : IsRootMap (layout roots.AsIs) Whole eight []
unfolding layout
none_named = refl

-- Block for each root, where the text names another map, and where the domain has no index
block_for_each : IsRootMap (layout roots.Block) (Cyclic (pos 1 ∷ [])) eight blocks
unfolding layout
block_for_each = eight_blocks roots.Block

block_for_another_box : IsRootMap (layout roots.Block) (Block nothing) eight blocks
unfolding layout
block_for_another_box = eight_blocks roots.Block

block_for_nothing : IsRootMap (layout roots.Block) (Cyclic (pos 1 ∷ [])) nothing []
unfolding layout nothing range indices members
block_for_nothing = record { empty = λ none. refl; some = λ some. absurd (some refl) }

-- Cyclic for each root: the members of `1..8 by -3` are 8, 5 and 2, so it begins at 2
cyclic_for_each : IsRootMap (layout roots.Cyclic) (Block eight) (range (pos 1) (pos 8) (negsuc 2) ∷ []) (record { rule = CyclicRule (pos 2); extent = 4 } ∷ [])
unfolding layout range indices members
cyclic_for_each =
    record {
      empty = λ none. absurd cc;
      some = λ some. (
        pos 2 ∷ [],
        (record { is_member = (2, omega arith, refl); is_least = All-from_recursion (λ j. pos 2 ≤ℤ j) (pos 8 ∷ pos 5 ∷ pos 2 ∷ []) (omega (arith, ints), (omega (arith, ints), (omega (arith, ints), tt))) }, tt),
        record { within = λ _. refl; past = λ past. absurd (past (All-from_recursion IsBound (pos 2 ∷ []) ((omega (arith, ints), omega (arith, ints)), tt))) },
      );
    }

cyclic_for_another_start : IsRootMap (layout roots.Cyclic) (Cyclic (pos 5 ∷ [])) (range (pos 2) (pos 3) (pos 1) ∷ []) (record { rule = CyclicRule (pos 2); extent = 4 } ∷ [])
unfolding layout range indices members
cyclic_for_another_start =
    record {
      empty = λ none. absurd cc;
      some = λ some. (
        pos 2 ∷ [],
        (record { is_member = (0, omega arith, refl); is_least = All-from_recursion (λ j. pos 2 ≤ℤ j) (pos 2 ∷ pos 3 ∷ []) (omega (arith, ints), (omega (arith, ints), tt)) }, tt),
        record { within = λ _. refl; past = λ past. absurd (past (All-from_recursion IsBound (pos 2 ∷ []) ((omega (arith, ints), omega (arith, ints)), tt))) },
      );
    }

cyclic_for_nothing : IsRootMap (layout roots.Cyclic) (Block eight) nothing []
unfolding layout nothing range indices members
cyclic_for_nothing = record { empty = λ none. refl; some = λ some. absurd (some refl) }
