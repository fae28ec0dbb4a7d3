-- Worked rows of the definitions, each by computation.
-- They are small enough to be worked out on paper beside the definitions.
use Rattle.std.proofs.Common.{◌≡◌, ℕ, ℤ, pos, negsuc, List, [], ◌∷◌, length, map, refl}
use Rattle.std.specs.Int.{int_wrap}
use Rattle.dpl_sets.specs.Members.{members}
use Rattle.dpl_sets.specs.Ranges.{RangeValue}
use Rattle.dpl_sets.specs.Indices.{indices}
use Rattle.dpl_sets.specs.declared.subscript.Subscript.{Subscript}
use Rattle.dpl_sets.specs.Subscripts.{subscript}
use Rattle.dpl_map.specs.Maps.{AxisValue, owner, cyclic_map, Block}
use Rattle.dpl_map.specs.Parts.{part}
use Rattle.dpl_map.specs.Places.{block_place, cyclic_place}
use Rattle.dpl_array.specs.Arrays.{ArrayValue, filled_array}
use Rattle.dpl_halo.specs.Shifts.{moved, shifted}
use Rattle.dpl_halo.specs.Halos.{remote}
use Rattle.dpl_halo.specs.Loans.{LoanValue, lent, loan_with, settled}

at : ℤ → List ℤ
at i = i ∷ []

range : ℤ → ℤ → ℤ → RangeValue
range low high stride = record { low = low; high = high; stride = stride }

line : ℤ → ℤ → ℤ → List RangeValue
line low high stride = range low high stride ∷ []

-- `A[i-1]` and `A[i+1]`
neighbours : List (List Subscript)
neighbours = (subscript 0 (negsuc 0) ∷ []) ∷ (subscript 0 (pos 1) ∷ []) ∷ []

-- what a shifted read names, and a sum that wraps
named : map (λ shift. shifted shift (pos 3 ∷ pos 5 ∷ [])) ((subscript 1 (negsuc 0) ∷ []) ∷ (subscript 1 (pos 0) ∷ subscript 0 (pos 2) ∷ []) ∷ []) ≡ (pos 4 ∷ []) ∷ (pos 5 ∷ pos 5 ∷ []) ∷ []
unfolding int_wrap
named = refl

wrapped : moved (at (pos 1)) (subscript 0 (pos 9223372036854775807)) ≡ negsuc 9223372036854775807
unfolding int_wrap at
wrapped = refl

by_blocks : List AxisValue
by_blocks = record { rule = Block (pos 1) (pos 8); extent = 4 } ∷ []

-- a stencil along 1..8 in blocks over four places: 6 elements in all
stencil_by_blocks : map (λ l. remote (filled_array {T = ℕ} (line (pos 1) (pos 8) (pos 1)) by_blocks 7) (line (pos 2) (pos 7) (pos 1)) by_blocks l neighbours) (0 ∷ 1 ∷ 2 ∷ 3 ∷ []) ≡ ((at (pos 3), 7) ∷ []) ∷ ((at (pos 2), 7) ∷ (at (pos 5), 7) ∷ []) ∷ ((at (pos 4), 7) ∷ (at (pos 7), 7) ∷ []) ∷ ((at (pos 6), 7) ∷ []) ∷ []
unfolding int_wrap indices members owner part block_place by_blocks neighbours line range at
stencil_by_blocks = refl

-- going round: 12, and an index that two reads name is one element
stencil_going_round : map (λ l. length (remote (filled_array {T = ℕ} (line (pos 1) (pos 8) (pos 1)) (cyclic_map (pos 1 ∷ []) (4 ∷ [])) 7) (line (pos 2) (pos 7) (pos 1)) (cyclic_map (pos 1 ∷ []) (4 ∷ [])) l ((subscript 0 (negsuc 0) ∷ []) ∷ neighbours))) (0 ∷ 1 ∷ 2 ∷ 3 ∷ []) ≡ 2 ∷ 4 ∷ 4 ∷ 2 ∷ []
unfolding int_wrap indices members owner part cyclic_place neighbours line range
stencil_going_round = refl

-- an array in two blocks whose turns go round: 3 is read where 1 and 3 have their turns, and 2 where 2 and 4 have theirs
turns_by_another_map :
    map (λ l. remote (filled_array {T = ℕ} (line (pos 1) (pos 4) (pos 1)) (record { rule = Block (pos 1) (pos 4); extent = 2 } ∷ []) 7) (line (pos 1) (pos 4) (pos 1)) (cyclic_map (pos 1 ∷ []) (2 ∷ [])) l ((subscript 0 (pos 0) ∷ []) ∷ [])) (0 ∷ 1 ∷ [])
    ≡ ((at (pos 3), 7) ∷ []) ∷ ((at (pos 2), 7) ∷ []) ∷ []
unfolding int_wrap indices members owner part block_place cyclic_place line range at
turns_by_another_map = refl

-- on a plane going round on 2x2 places: 4, 7, 7 and 12
stencil_on_a_plane :
    map
    (λ l. length (remote (filled_array {T = ℕ} (range (pos 0) (pos 4) (pos 1) ∷ range (pos 0) (pos 4) (pos 1) ∷ []) (cyclic_map (pos 0 ∷ pos 0 ∷ []) (2 ∷ 2 ∷ [])) 7) (range (pos 1) (pos 3) (pos 1) ∷ range (pos 1) (pos 3) (pos 1) ∷ []) (cyclic_map (pos 0 ∷ pos 0 ∷ []) (2 ∷ 2 ∷ [])) l
    ((subscript 0 (negsuc 0) ∷ subscript 1 (pos 0) ∷ []) ∷ (subscript 0 (pos 1) ∷ subscript 1 (pos 0) ∷ []) ∷ (subscript 0 (pos 0) ∷ subscript 1 (negsuc 0) ∷ []) ∷ (subscript 0 (pos 0) ∷ subscript 1 (pos 1) ∷ []) ∷ [])))
    (0 ∷ 1 ∷ 2 ∷ 3 ∷ [])
    ≡ 4 ∷ 7 ∷ 7 ∷ 12 ∷ []
unfolding int_wrap indices members owner part cyclic_place range
stencil_on_a_plane = refl

-- over `1..10 by -3` the elements come in the order of the domain, and -2 is none of it
backwards : map (λ l. remote (filled_array {T = ℕ} (line (pos 1) (pos 10) (negsuc 2)) (cyclic_map (pos 1 ∷ []) (2 ∷ [])) 7) (line (pos 1) (pos 10) (negsuc 2)) (cyclic_map (pos 1 ∷ []) (2 ∷ [])) l ((subscript 0 (negsuc 2) ∷ []) ∷ [])) (0 ∷ 1 ∷ []) ≡ ((at (pos 4), 7) ∷ []) ∷ ((at (pos 7), 7) ∷ (at (pos 1), 7) ∷ []) ∷ []
unfolding int_wrap indices members owner part cyclic_place line range at
backwards = refl

-- `A[i-3]` and `A[i+3]`
far_neighbours : List (List Subscript)
far_neighbours = (subscript 0 (negsuc 2) ∷ []) ∷ (subscript 0 (pos 3) ∷ []) ∷ []

sixteen_by_blocks : List AxisValue
sixteen_by_blocks = record { rule = Block (pos 1) (pos 16); extent = 4 } ∷ []

-- over `1..16 by 3` in blocks over four places, which have 1 and 4, 7, 10, and 13 and 16: -2 and 19 are none of it
strided_by_blocks :
    map (λ l. remote (filled_array {T = ℕ} (line (pos 1) (pos 16) (pos 3)) sixteen_by_blocks 7) (line (pos 1) (pos 16) (pos 3)) sixteen_by_blocks l far_neighbours) (0 ∷ 1 ∷ 2 ∷ 3 ∷ [])
    ≡ ((at (pos 7), 7) ∷ []) ∷ ((at (pos 4), 7) ∷ (at (pos 10), 7) ∷ []) ∷ ((at (pos 7), 7) ∷ (at (pos 13), 7) ∷ []) ∷ ((at (pos 10), 7) ∷ []) ∷ []
unfolding int_wrap indices members owner part block_place sixteen_by_blocks far_neighbours line range at
strided_by_blocks = refl

-- in the turns of `2..15 by 3` over an array over 1..16 in the same blocks: place 1 has the turns 5 and 8 at both ends of its block, and
-- the others read none but their own
strided_turns_by_blocks :
    map (λ l. remote (filled_array {T = ℕ} (line (pos 1) (pos 16) (pos 1)) sixteen_by_blocks 7) (line (pos 2) (pos 15) (pos 3)) sixteen_by_blocks l neighbours) (0 ∷ 1 ∷ 2 ∷ 3 ∷ [])
    ≡ [] ∷ ((at (pos 4), 7) ∷ (at (pos 9), 7) ∷ []) ∷ [] ∷ [] ∷ []
unfolding int_wrap indices members owner part block_place sixteen_by_blocks neighbours line range at
strided_turns_by_blocks = refl

ten_by_blocks : List AxisValue
ten_by_blocks = record { rule = Block (pos 1) (pos 10); extent = 2 } ∷ []

-- over `1..10 by -3` in blocks over two places, which have 4 and 1, and 10 and 7
backwards_by_blocks :
    map (λ l. remote (filled_array {T = ℕ} (line (pos 1) (pos 10) (negsuc 2)) ten_by_blocks 7) (line (pos 1) (pos 10) (negsuc 2)) ten_by_blocks l far_neighbours) (0 ∷ 1 ∷ [])
    ≡ ((at (pos 7), 7) ∷ []) ∷ ((at (pos 4), 7) ∷ []) ∷ []
unfolding int_wrap indices members owner part block_place ten_by_blocks far_neighbours line range at
backwards_by_blocks = refl

-- 64 places with three elements: the last has no turn
many : map (λ l. length (remote (filled_array {T = ℕ} (line (pos 1) (pos 3) (pos 1)) (cyclic_map (pos 1 ∷ []) (64 ∷ [])) 7) (line (pos 1) (pos 3) (pos 1)) (cyclic_map (pos 1 ∷ []) (64 ∷ [])) l neighbours)) (0 ∷ 1 ∷ 63 ∷ []) ≡ 1 ∷ 2 ∷ 0 ∷ []
unfolding int_wrap indices members owner part cyclic_place neighbours line range
many = refl

four : ArrayValue ℕ
four = record { domain = line (pos 1) (pos 4) (pos 1); map = []; elements = (at (pos 1), 10) ∷ (at (pos 2), 20) ∷ (at (pos 3), 30) ∷ (at (pos 4), 40) ∷ [] }

-- an index that two domains have is lent once, and one past the array not at all
loan : LoanValue ℕ
loan = lent four (line (pos 3) (pos 4) (pos 1) ∷ line (pos 4) (pos 9) (pos 1) ∷ [])

lent_once : loan.elements ≡ (at (pos 3), 30) ∷ (at (pos 4), 40) ∷ []
unfolding indices members loan four line range at
lent_once = refl

-- the array takes what was written into the loan, and keeps the rest
settled_again : (settled (loan_with (at (pos 4)) 9 (loan_with (at (pos 1)) 8 loan)) four).elements ≡ (at (pos 1), 10) ∷ (at (pos 2), 20) ∷ (at (pos 3), 30) ∷ (at (pos 4), 9) ∷ []
unfolding indices members loan four line range at
settled_again = refl
