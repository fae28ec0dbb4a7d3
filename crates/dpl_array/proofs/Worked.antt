-- Worked rows of the definitions, each by computation.
-- They are small enough to be worked out on paper beside the definitions.
use Rattle.std.proofs.Common.{◌≡◌, ℕ, ℤ, pos, negsuc, List, [], ◌∷◌, Some, None, length, map, refl}
use Rattle.dpl_sets.specs.Members.{members}
use Rattle.dpl_sets.specs.Ranges.{RangeValue}
use Rattle.dpl_sets.specs.Indices.{indices}
use Rattle.dpl_map.specs.Maps.{owner, cyclic_map, block_cyclic_map, whole_map, Block}
use Rattle.dpl_map.specs.Places.{block_place, cyclic_place, block_cyclic_place}
use Rattle.dpl_array.specs.Elements.{Elements, value_at, with_value, tabulated}
use Rattle.dpl_array.specs.Arrays.{ArrayValue, filled_array, array_with, held_at, piece_in, pieces_of, restriction, slots_of, union, with_slot}

at : ℕ → List ℤ
at i = pos i ∷ []

-- three elements of rank 1
three : Elements ℕ
three = (at 1, 10) ∷ (at 2, 20) ∷ (at 3, 30) ∷ []

-- an index that is there, one that is not, and one of another rank
read : map (λ t. value_at t three) (at 2 ∷ at 4 ∷ (pos 2 ∷ pos 2 ∷ []) ∷ []) ≡ Some 20 ∷ None ∷ None ∷ []
unfolding at three
read = refl

-- one value is changed; an index that is not there changes nothing
written : with_value (at 3) 7 three ≡ (at 1, 10) ∷ (at 2, 20) ∷ (at 3, 7) ∷ []
unfolding at three
written = refl

written_outside : with_value (at 0) 7 three ≡ three
unfolding at three
written_outside = refl

-- nothing is made where a function has no value
gaps : tabulated (at 1 ∷ at 4 ∷ at 3 ∷ []) (λ t. value_at t three) ≡ (at 1, 10) ∷ (at 3, 30) ∷ []
unfolding at three
gaps = refl

line : ℤ → ℤ → ℤ → List RangeValue
line low high stride = record { low = low; high = high; stride = stride } ∷ []

-- an array over `1..10 by -3` stands in the order of its domain
backwards : (filled_array {T = ℕ} (line (pos 1) (pos 10) (negsuc 2)) [] 0).elements ≡ (at 10, 0) ∷ (at 7, 0) ∷ (at 4, 0) ∷ (at 1, 0) ∷ []
unfolding indices members line at
backwards = refl

-- an array over `{1..2, 0..1}` row by row
rows : (filled_array {T = ℕ} (record { low = pos 1; high = pos 2; stride = pos 1 } ∷ record { low = pos 0; high = pos 1; stride = pos 1 } ∷ []) [] 5).elements ≡ (pos 1 ∷ pos 0 ∷ [], 5) ∷ (pos 1 ∷ pos 1 ∷ [], 5) ∷ (pos 2 ∷ pos 0 ∷ [], 5) ∷ (pos 2 ∷ pos 1 ∷ [], 5) ∷ []
unfolding indices members
rows = refl

-- 0..4 over three places from 1, with its squares
squares : ArrayValue ℕ
squares = record { domain = line (pos 0) (pos 4) (pos 1); map = cyclic_map (pos 1 ∷ []) (3 ∷ []); elements = (at 0, 0) ∷ (at 1, 1) ∷ (at 2, 4) ∷ (at 3, 9) ∷ (at 4, 16) ∷ [] }

cyclic_slots : slots_of squares ≡ Some ((at 1, 1) ∷ (at 4, 16) ∷ []) ∷ Some ((at 2, 4) ∷ []) ∷ Some ((at 0, 0) ∷ (at 3, 9) ∷ []) ∷ []
unfolding squares owner cyclic_place at line
cyclic_slots = refl

-- put together they are the array, in the order of its domain and not place after place
together : union (pieces_of squares) ≡ squares
unfolding squares indices members owner cyclic_place at line
together = refl

-- what was set in a piece is set in the array
set_in_a_piece : union (with_slot (pieces_of squares) 2 (Some (with_value (at 3) 90 ((at 0, 0) ∷ (at 3, 9) ∷ [])))) ≡ array_with (at 3) 90 squares
unfolding squares indices members owner cyclic_place at line
set_in_a_piece = refl

-- a piece that is out is not read, and there is none past the last place
out : map (held_at (with_slot (pieces_of squares) 0 None)) (at 1 ∷ at 2 ∷ at 7 ∷ []) ≡ None ∷ Some 4 ∷ None ∷ []
unfolding squares owner cyclic_place at line
out = refl

past : piece_in (pieces_of squares) 3 ≡ None
unfolding squares owner cyclic_place at line
past = refl

-- an empty part has a piece all the same: box 1..2 over four places
few : map (λ l. (restriction (filled_array {T = ℕ} (line (pos 1) (pos 2) (pos 1)) (record { rule = Block (pos 1) (pos 2); extent = 4 } ∷ []) 6) l).elements) (0 ∷ 1 ∷ 2 ∷ 3 ∷ []) ≡ ((at 1, 6) ∷ []) ∷ [] ∷ ((at 2, 6) ∷ []) ∷ [] ∷ []
unfolding indices members owner block_place at line
few = refl

-- 64 places with three elements
many : length (pieces_of (filled_array {T = ℕ} (line (pos 1) (pos 3) (pos 1)) (cyclic_map (pos 1 ∷ []) (64 ∷ [])) 6)).slots ≡ 64
unfolding indices members owner cyclic_place line
many = refl

-- a domain of another rank than the map's is owned by place 0
another_rank : map (λ l. length (restriction (filled_array {T = ℕ} (line (pos 1) (pos 3) (pos 1)) (cyclic_map (pos 1 ∷ pos 1 ∷ []) (2 ∷ 1 ∷ [])) 6) l).elements) (0 ∷ 1 ∷ []) ≡ 3 ∷ 0 ∷ []
unfolding indices members owner cyclic_place line
another_rank = refl

-- the whole map has one piece
whole : slots_of (filled_array {T = ℕ} (line (pos 1) (pos 2) (pos 1)) whole_map 6) ≡ Some ((at 1, 6) ∷ (at 2, 6) ∷ []) ∷ []
unfolding indices members owner at line
whole = refl

-- from 1 in blocks of 2 over two places a piece stands in the order of the domain too
in_blocks : (restriction (filled_array {T = ℕ} (line (pos 1) (pos 8) (pos 1)) (block_cyclic_map (pos 1 ∷ []) (pos 2 ∷ []) (2 ∷ [])) 0) 1).elements ≡ (at 3, 0) ∷ (at 4, 0) ∷ (at 7, 0) ∷ (at 8, 0) ∷ []
unfolding indices members owner block_cyclic_place at line
in_blocks = refl
