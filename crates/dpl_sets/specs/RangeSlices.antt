-- Slices of a range, as values.
use Rattle.std.specs.Prelude.{◌&&◌, if◌then◌else◌, List, [], ◌∷◌, ℤ, pos, negsuc, filter, int_le}
use Rattle.std.specs.Ordering.{int_eq}
use Rattle.std.specs.Int.{int_max, int_min}
use Rattle.dpl_sets.specs.Ranges.{RangeValue, members_of}

-- the members of a range between two bounds, in its order
abbrev pub members_within : ℤ → ℤ → RangeValue → List ℤ
members_within low high r = filter (λ i. int_le low i && int_le i high) (members_of r)

-- a range with the greater of two low bounds and the lesser of two high ones
abbrev pub narrowed : ℤ → ℤ → RangeValue → RangeValue
narrowed low high r = record { low = int_max r.low low; high = int_min r.high high; stride = r.stride }

-- a range that begins with the first of some members, by its stride at the low or at the high end; `1..0` of none
abbrev pub begun_with : List ℤ → RangeValue → RangeValue
begun_with [] r = record { low = pos 1; high = pos 0; stride = r.stride }
begun_with (i ∷ is) r = first_at r.stride i r
  where
    first_at : ℤ → ℤ → RangeValue → RangeValue
    first_at (pos _) i r = record r { low = i }
    first_at (negsuc _) i r = record r { high = i }

-- The slice of a range between two bounds. Of stride 1 it has the greater low bound and the lesser high one, also
-- where it is empty. Of another stride it begins with the first member that lies between the two.
abbrev pub sliced : ℤ → ℤ → RangeValue → RangeValue
sliced low high r =
    if int_eq r.stride (pos 1) then narrowed low high r
    else begun_with (members_within low high r) (narrowed low high r)
