-- Ranges and domains as values: how they are made, their limits, slices and ends, and what a loop runs over.
-- Bounds are whole numbers without a limit until they are tested.
use Rattle.std.specs.Prelude.{ℕ, ◌+◌, ◌-◌, ◌*◌, ◌/◌, ◌^◌, ℤ, pos, ◌+ℤ◌, ◌-ℤ◌, Bool, true, false, not, ◌&&◌, ◌||◌, if◌then◌else◌, nat_lt, int_lt, unsigned_abs, Option, Some, None, Result, Ok, Err, List, [], ◌∷◌, map, replicate, slice_index_or}
use Rattle.std.specs.Ordering.{int_eq}
use Rattle.std.specs.Int.{int_min, int_max}
use Rattle.std.specs.List.{list_any}
use Rattle.dpl_syntax.specs.declared.place.Place.{Place}
use Rattle.dpl_sets.specs.Ranges.{members_of, is_bound, is_stride}
use Rattle.dpl_sets.specs.TextDomains.{text_expanded}
use Rattle.dpl_sets.specs.Indices.{indices}
use Rattle.dpl_language.specs.Tree.{Dots, Closed, HalfOpen, Counted, Word, Size, First, Last, Low, High, LowBound, DomainOf, Id}
use Rattle.dpl_sets.specs.TextRanges.{TextRange, text_sliced}
use Rattle.dpl_language.specs.Values.{Value, Int, Range, Domain, Array, Locale, AllLocales, Tuple, Index, number, ranges_in, Fault, fault, PastLimit, EmptyEnd}

-- a range without `by`
abbrev pub unstrided : ℤ → ℤ → TextRange
unstrided low high = record { value = record { low = low; high = high; stride = pos 1 }; strided = false }

-- the members of a range, in its order
abbrev pub members_in : TextRange → List ℤ
members_in r = members_of r.value

-- the indices of a domain: the tuples of the product, row by row, the last dimension fastest
abbrev pub indices_in : List TextRange → List Index
indices_in rs = indices (map (λ (r : TextRange). r.value) rs)

-- how many integers lie from low to high
abbrev pub span : ℤ → ℤ → ℕ
span low high = if int_lt high low then 0 else unsigned_abs (high -ℤ low) + 1

-- how many members a range has: every stride-th of its span, the first one counted
abbrev pub count_in : TextRange → ℕ
count_in r =
    (span r.value.low r.value.high + (unsigned_abs r.value.stride - 1)) / unsigned_abs r.value.stride

-- how many indices a domain has
abbrev pub size_in : List TextRange → ℕ
size_in [] = 1
size_in (r ∷ rs) = count_in r * size_in rs

-- a bound lies outside its limits
abbrev pub past_limit : ℤ → Bool
past_limit z = not (is_bound z)

-- a domain has at most 2^40 indices, and an array at most 2^24 elements
abbrev pub too_many : List TextRange → Bool
too_many rs = nat_lt (2 ^ 40) (size_in rs)

abbrev pub too_large : List TextRange → Bool
too_large rs = nat_lt (2 ^ 24) (size_in rs)

-- the high bound of `low..z`, `low..<z` and `low..#z`
abbrev pub high_bound : Dots → ℤ → ℤ → ℤ
high_bound Closed low z = z
high_bound HalfOpen low z = z -ℤ pos 1
high_bound (Counted at) low z = low +ℤ z -ℤ pos 1

-- a count is below 0
abbrev pub bad_count : Dots → ℤ → Bool
bad_count (Counted at) z = int_lt z (pos 0)
bad_count _ _ = false

-- the range without its stride: a bad count, and a bound past the limit, also of an empty range, is F3 at the dots
abbrev pub bounded : Place → Dots → ℤ → ℤ → Result TextRange Fault
bounded at dots low z =
    if bad_count dots z || past_limit low || past_limit (high_bound dots low z) then Err (fault PastLimit at)
    else Ok (unstrided low (high_bound dots low z))

-- the range with its stride: a bad one is F3 at `by`
abbrev pub strided_by : Place → ℤ → TextRange → Result TextRange Fault
strided_by at stride r =
    if not (is_stride stride) then Err (fault PastLimit at)
    else Ok (record { value = record { low = r.value.low; high = r.value.high; stride = stride }; strided = true })

-- a domain of these ranges: too many indices are F3 at the opening bracket
abbrev pub sized : Place → List TextRange → Result Value Fault
sized at rs = if too_many rs then Err (fault PastLimit at) else Ok (Domain rs)

-- a domain without an index, `1..0` in each dimension
abbrev pub empty_domain : ℕ → List TextRange
empty_domain rank = replicate rank (unstrided (pos 1) (pos 0))

-- a domain's slice: each dimension between the bounds of its range
abbrev pub all_sliced : List TextRange → List TextRange → List TextRange
all_sliced [] cuts = []
all_sliced (r ∷ rs) [] = r ∷ rs
all_sliced (r ∷ rs) (cut ∷ cuts) = text_sliced cut.value.low cut.value.high r ∷ all_sliced rs cuts

abbrev pub range_sliced : TextRange → List TextRange → TextRange
range_sliced r [] = r
range_sliced r (cut ∷ cuts) = text_sliced cut.value.low cut.value.high r

abbrev pub bounds_past_limit : List TextRange → Bool
bounds_past_limit rs = list_any (λ (r : TextRange). past_limit r.value.low || past_limit r.value.high) rs

-- `expand(k)` moves each low bound down by k and each high bound up by k; k may be negative. A bound past the limit and
-- too many indices are F3 at `expand`.
abbrev pub expanded : Place → ℤ → List TextRange → Result Value Fault
expanded at k rs =
    if bounds_past_limit (text_expanded k rs) || too_many (text_expanded k rs) then Err (fault PastLimit at)
    else Ok (Domain (text_expanded k rs))

abbrev pub same_index : Index → Index → Bool
same_index [] [] = true
same_index (i ∷ is) (j ∷ js) = int_eq i j && same_index is js
same_index _ _ = false

-- `contains`: the index is one of the domain's, or the number a member of the range
abbrev pub contains_index : List TextRange → Index → Bool
contains_index rs t = list_any (same_index t) (indices_in rs)

-- `dim(d)`, counted from 0
abbrev pub dimension : ℕ → List TextRange → TextRange
dimension d rs = slice_index_or rs d (unstrided (pos 1) (pos 0))

-- the members of the one range that a range is
abbrev pub members_of_first : List TextRange → List ℤ
members_of_first [] = []
members_of_first (r ∷ rs) = members_in r

abbrev pub first_of : ℤ → List ℤ → ℤ
first_of i is = i

abbrev pub last_of : ℤ → List ℤ → ℤ
last_of i [] = i
last_of i (j ∷ js) = last_of j js

-- the least and the greatest member stand at the two ends of the sequence
abbrev pub least_of : ℤ → List ℤ → ℤ
least_of i is = int_min i (last_of i is)

abbrev pub greatest_of : ℤ → List ℤ → ℤ
greatest_of i is = int_max i (last_of i is)

-- an end of a range; of an empty one it is F4 at the method's name
abbrev pub end_of : Place → (ℤ → List ℤ → ℤ) → List ℤ → Result Value Fault
end_of at pick [] = Err (fault EmptyEnd at)
end_of at pick (i ∷ is) = Ok (Int (pick i is))

-- the least members of a domain, one for each dimension; a domain without an index has none
abbrev pub least_before : List ℤ → Option Index → Option Index
least_before (i ∷ is) (Some t) = Some (least_of i is ∷ t)
least_before _ _ = None

abbrev pub least_in : List TextRange → Option Index
least_in [] = Some []
least_in (r ∷ rs) = least_before (members_in r) (least_in rs)

-- `low` of a domain, with which a map may start, is the tuple of these, and of a range its least member
abbrev pub tuple_or_end : Place → Option Index → Result Value Fault
tuple_or_end at None = Err (fault EmptyEnd at)
tuple_or_end at (Some t) = Ok (Tuple t)

abbrev pub low_of : Place → Value → Result Value Fault
low_of at (Domain rs) = tuple_or_end at (least_in rs)
low_of at v = end_of at least_of (members_of_first (ranges_in v))

-- The methods without arguments: how many members or indices; the ends of a range's sequence, its least and its
-- greatest member; the domain of an array; the number of a locale.
abbrev pub method_of : Word → Place → Value → Result Value Fault
method_of Size at v = Ok (Int (pos (size_in (ranges_in v))))
method_of First at v = end_of at first_of (members_of_first (ranges_in v))
method_of Last at v = end_of at last_of (members_of_first (ranges_in v))
method_of Low at v = low_of at v
method_of High at v = end_of at greatest_of (members_of_first (ranges_in v))
method_of LowBound at v = low_of at v
method_of DomainOf at v = Ok (Domain (ranges_in v))
method_of Id at v = Ok (Int (number v))

-- what a loop runs over: the ranges of a range or a domain, or the numbers of the locales: 0 to N - 1
abbrev pub loop_ranges : ℕ → Value → List TextRange
loop_ranges locales (Range r) = r ∷ []
loop_ranges locales (Domain rs) = rs
loop_ranges locales (Array k rs) = rs
loop_ranges locales AllLocales = unstrided (pos 0) (pos locales -ℤ pos 1) ∷ []
loop_ranges locales _ = empty_domain 1

-- the turn's one variable where a loop runs over numbers or indices: an int for one coordinate, else a tuple
abbrev pub index_value : Index → Value
index_value [] = Tuple []
index_value (i ∷ []) = Int i
index_value (i ∷ j ∷ is) = Tuple (i ∷ j ∷ is)

-- the first coordinate of an index; 0 where it has none
abbrev pub leading : Index → ℤ
leading [] = pos 0
leading (i ∷ is) = i

-- the turn's one variable, by what the loop runs over; over the locales it is a locale
abbrev pub loop_value : Value → Index → Value
loop_value AllLocales t = Locale (leading t)
loop_value _ t = index_value t
