-- Some of a loop's turns: those whose coordinate in one dimension lies between two numbers, and those between two corners.
use Rattle.std.specs.Prelude.{◌↔◌, List, ℕ, ℤ, pos, neg_ℤ, ◌^◌, ◌≤ℤ◌, ◌<ℤ◌, slice_index_or}
use Rattle.dpl_sets.specs.Ranges.{RangeValue}
use Rattle.dpl_sets.specs.Indices.{indices}
use Rattle.dpl_sets.specs.declared.subscript.Subscript.{Subscript}
use Rattle.dpl_map.specs.Boxes.{AreBetween}
use Rattle.dpl_array.specs.Rows.{StandsIn}
use Rattle.dpl_halo.specs.Shifts.{moved, shifted}

-- a domain has those indices of another one whose coordinate in a dimension lies between two numbers
abbrev pub IsNarrowed : ℕ → ℤ → ℤ → List RangeValue → List RangeValue → Type 0
IsNarrowed d low high whole some = (t : List ℤ) → StandsIn (indices some) t ↔ (StandsIn (indices whole) t × (low ≤ℤ slice_index_or t d (pos 0)) × (slice_index_or t d (pos 0) ≤ℤ high))

-- the indices of a domain lie between two corners
abbrev pub AreCorners : List RangeValue → List ℤ → List ℤ → Type 0
AreCorners turns low high = (t : List ℤ) → StandsIn (indices turns) t → AreBetween low t high

-- a subscript keeps what lies between two turns between what they give
abbrev pub KeepsSubscript : Subscript → List ℤ → List ℤ → Type 0
KeepsSubscript s low high = (t : List ℤ) → AreBetween low t high → (moved low s ≤ℤ moved t s) × (moved t s ≤ℤ moved high s)

-- and so does a shifted read
abbrev pub KeepsShift : List Subscript → List ℤ → List ℤ → Type 0
KeepsShift shift low high = (t : List ℤ) → AreBetween low t high → AreBetween (shifted shift low) (shifted shift t) (shifted shift high)

-- two numbers next to which bounds may stand on either side
pub record AreCutPoints (low high : ℤ) : Type 0 where
  pub from : neg_ℤ (pos (2 ^ 60)) <ℤ low
  pub low_to : low ≤ℤ pos (2 ^ 60)
  pub high_from : neg_ℤ (pos (2 ^ 60)) ≤ℤ high
  pub to : high <ℤ pos (2 ^ 60)
