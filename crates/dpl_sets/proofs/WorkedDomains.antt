-- Worked rows of the definitions, each by computation.
use Rattle.std.proofs.Common.{◌≡◌, ℤ, pos, negsuc, [], ◌∷◌, refl}
use Rattle.dpl_sets.specs.Members.{members}
use Rattle.dpl_sets.specs.Ranges.{RangeValue}
use Rattle.dpl_sets.specs.Indices.{indices}
use Rattle.dpl_sets.specs.DomainSlices.{sliced_by}
use Rattle.dpl_sets.specs.Expansions.{expanded}

by : ℤ → ℤ → ℤ → RangeValue
by low high stride = record { low = low; high = high; stride = stride }

-- `{1..10 by 4, 0..1}`
row_by_row : indices (by (pos 1) (pos 10) (pos 4) ∷ by (pos 0) (pos 1) (pos 1) ∷ []) ≡ (pos 1 ∷ pos 0 ∷ []) ∷ (pos 1 ∷ pos 1 ∷ []) ∷ (pos 5 ∷ pos 0 ∷ []) ∷ (pos 5 ∷ pos 1 ∷ []) ∷ (pos 9 ∷ pos 0 ∷ []) ∷ (pos 9 ∷ pos 1 ∷ []) ∷ []
unfolding indices members by
row_by_row = refl

-- a dimension with no members leaves no indices
nothing_beside_five_to_four : indices (by (pos 1) (pos 2) (pos 1) ∷ by (pos 5) (pos 4) (pos 1) ∷ []) ≡ []
unfolding indices members by
nothing_beside_five_to_four = refl

-- `{1..6}` expanded by -2
expanded_inwards : indices (expanded (negsuc 1) (by (pos 1) (pos 6) (pos 1) ∷ [])) ≡ (pos 3 ∷ []) ∷ (pos 4 ∷ []) ∷ []
unfolding indices members by
expanded_inwards = refl

-- and by -4, which leaves its high bound below its low one
expanded_to_nothing : indices (expanded (negsuc 3) (by (pos 1) (pos 6) (pos 1) ∷ [])) ≡ []
unfolding indices members by
expanded_to_nothing = refl

-- an empty range has members once its bounds are moved: `{1..0, 5..5}` expanded by 1
expanded_from_nothing : indices (expanded (pos 1) (by (pos 1) (pos 0) (pos 1) ∷ by (pos 5) (pos 5) (pos 1) ∷ [])) ≡ (pos 0 ∷ pos 4 ∷ []) ∷ (pos 0 ∷ pos 5 ∷ []) ∷ (pos 0 ∷ pos 6 ∷ []) ∷ (pos 1 ∷ pos 4 ∷ []) ∷ (pos 1 ∷ pos 5 ∷ []) ∷ (pos 1 ∷ pos 6 ∷ []) ∷ []
unfolding indices members by
expanded_from_nothing = refl

-- `{1..10 by 4, 0..1}[2..9, 1..1]`
sliced_rows : sliced_by (by (pos 1) (pos 10) (pos 4) ∷ by (pos 0) (pos 1) (pos 1) ∷ []) ((pos 2, pos 9) ∷ (pos 1, pos 1) ∷ []) ≡ by (pos 5) (pos 9) (pos 4) ∷ by (pos 1) (pos 1) (pos 1) ∷ []
unfolding members by
sliced_rows = refl
