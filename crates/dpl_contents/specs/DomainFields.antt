-- The fields that keep the ranges of a domain and their flags.
use Rattle.std.specs.Prelude.{◌≡◌, Bool, false, List, [], ◌∷◌, refl}
use Rattle.std.proofs.Common.{arith}
use Rattle.dpl_sets.specs.Ranges.{RangeValue}
use Rattle.dpl_sets.specs.TextRanges.{TextRange}
use Rattle.dpl_contents.specs.declared.domain.DomainWord.TheInside.{Inside}
use Rattle.dpl_contents.specs.Domains.{text_ranges, IsFlagged}

abbrev pub fields_of : List TextRange → Inside
fields_of [] = record { domain = []; outer = false; middle = false; inner = false }
fields_of (z ∷ []) = record { domain = z.value ∷ []; outer = false; middle = false; inner = z.strided }
fields_of (y ∷ z ∷ []) = record { domain = y.value ∷ z.value ∷ []; outer = false; middle = y.strided; inner = z.strided }
fields_of (x ∷ y ∷ z ∷ _) =
    record { domain = x.value ∷ y.value ∷ z.value ∷ []; outer = x.strided; middle = y.strided; inner = z.strided }

pub fields_of-text_ranges : (x : Inside) → IsFlagged x.domain x.outer x.middle → fields_of (text_ranges x.domain x.outer x.middle x.inner) ≡ x
fields_of-text_ranges x flags = go x.domain x.outer x.middle x.inner flags
  where
    go : (ranges : List RangeValue) (outer middle inner : Bool) → IsFlagged ranges outer middle → fields_of (text_ranges ranges outer middle inner) ≡ record { domain = ranges; outer = outer; middle = middle; inner = inner }
    go [] outer middle inner flags = absurd (omega (arith, flags.padded.from_one))
    go (z ∷ []) outer middle inner flags =
        let first : outer ≡ false = flags.padded.first (omega arith) in
        let second : middle ≡ false = flags.padded.second (omega arith) in
        rw (first, second)
    go (y ∷ z ∷ []) outer middle inner flags = let first : outer ≡ false = flags.padded.first (omega arith) in rw first
    go (x ∷ y ∷ z ∷ []) outer middle inner flags = refl
    go (x ∷ y ∷ z ∷ w ∷ more) outer middle inner flags = absurd (omega (arith, flags.padded.to_three))
