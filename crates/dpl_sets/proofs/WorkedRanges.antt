-- Worked rows of the definition, each by computation.
use Rattle.std.proofs.Common.{◌≡◌, ℤ, pos, negsuc, [], ◌∷◌, refl, true, false}
use Rattle.dpl_sets.specs.Members.{members}
use Rattle.dpl_sets.specs.Ranges.{RangeValue, is_bound, is_stride}
use Rattle.dpl_sets.specs.RangeSlices.{sliced}

rising_by_one : members (pos 1) (pos 4) (pos 1) ≡ pos 1 ∷ pos 2 ∷ pos 3 ∷ pos 4 ∷ []
unfolding members
rising_by_one = refl

rising_by_two : members (pos 1) (pos 8) (pos 2) ≡ pos 1 ∷ pos 3 ∷ pos 5 ∷ pos 7 ∷ []
unfolding members
rising_by_two = refl

-- `1..10 by -3` begins with the highest
falling_by_three : members (pos 1) (pos 10) (negsuc 2) ≡ pos 10 ∷ pos 7 ∷ pos 4 ∷ pos 1 ∷ []
unfolding members
falling_by_three = refl

-- `1..9 by -3` doesn't reach the low bound
falling_off_the_low_bound : members (pos 1) (pos 9) (negsuc 2) ≡ pos 9 ∷ pos 6 ∷ pos 3 ∷ []
unfolding members
falling_off_the_low_bound = refl

through_zero : members (negsuc 4) (pos 3) (pos 4) ≡ negsuc 4 ∷ negsuc 0 ∷ pos 3 ∷ []
unfolding members
through_zero = refl

past_the_whole_range : members (pos 5) (pos 8) (pos 100) ≡ pos 5 ∷ []
unfolding members
past_the_whole_range = refl

nothing_from_five_to_four : members (pos 5) (pos 4) (pos 1) ≡ []
unfolding members
nothing_from_five_to_four = refl

nothing_downwards : members (pos 2) (negsuc 0) (negsuc 2) ≡ []
unfolding members
nothing_downwards = refl

by : ℤ → ℤ → ℤ → RangeValue
by low high stride = record { low = low; high = high; stride = stride }

-- `(1..12 by 5)[5..8]` begins with 6
slice_by_five : sliced (pos 5) (pos 8) (by (pos 1) (pos 12) (pos 5)) ≡ by (pos 6) (pos 8) (pos 5)
unfolding members by
slice_by_five = refl

-- `(1..10 by -3)[2..8]` is 7, 4
slice_falling : sliced (pos 2) (pos 8) (by (pos 1) (pos 10) (negsuc 2)) ≡ by (pos 2) (pos 7) (negsuc 2)
unfolding members by
slice_falling = refl

-- `(1..12 by 5)[2..5]` has no members
slice_by_five_of_none : sliced (pos 2) (pos 5) (by (pos 1) (pos 12) (pos 5)) ≡ by (pos 1) (pos 0) (pos 5)
unfolding members by
slice_by_five_of_none = refl

-- a slice of the empty `5..4` still has bounds
slice_of_nothing : sliced (pos 5) (pos 9) (by (pos 5) (pos 4) (pos 1)) ≡ by (pos 5) (pos 4) (pos 1)
unfolding members by
slice_of_nothing = refl

-- the limit itself is a bound and a stride, the next integer is neither, and 0 is no stride
limit_is_bound : is_bound (negsuc 1152921504606846975) ≡ true
limit_is_bound = refl

past_the_limit : is_bound (pos 1152921504606846977) ≡ false
past_the_limit = refl

limit_is_stride : is_stride (pos 1152921504606846976) ≡ true
limit_is_stride = refl

zero_is_no_stride : is_stride (pos 0) ≡ false
zero_is_no_stride = refl
