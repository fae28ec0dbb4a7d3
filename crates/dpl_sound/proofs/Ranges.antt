-- Slices, dimensions and expansions of ranges and domains keep the rank, and have no `by` that these hadn't.
-- A domain of typed items has a range for each, and is strided where one of these is.
use Rattle.std.proofs.Common.{◌≡◌, ℕ, zero, suc, ℤ, pos, Bool, true, false, List, [], ◌∷◌, ◌++◌, length, Option, Some, refl, sym, ap, subst}
use Rattle.std.specs.Prelude.{◌||◌, is_some, slice_index_or}
use Rattle.dpl_syntax.specs.declared.place.Place.{Place}
use Rattle.dpl_sets.specs.TextRanges.{TextRange, text_sliced}
use Rattle.dpl_sets.specs.TextDomains.{text_moved, text_expanded}
use Rattle.dpl_language.specs.Values.{Value, Range, ranges_in, all_ranges}
use Rattle.dpl_language.specs.Ranges.{unstrided, all_sliced, range_sliced, dimension}
use Rattle.dpl_rules.specs.Types.{ValueType, Range as RangeType}
use Rattle.dpl_rules.specs.Types.{has, is_range}
use Rattle.dpl_rules.specs.Verdicts.{Part, all_known, owed_type, wanted, each_wanted}
use Rattle.dpl_rules.specs.Operators.{is_strided_range, any_strided}
use Rattle.dpl_rules.proofs.Admission.{first_empty, second_empty}
use Rattle.dpl_sound.proofs.Given.{both_so}
use Rattle.dpl_sound.specs.Typed.{IsPlain, ArePlain, MayStride, AreRanked, HasPartType, HaveTypes}

-- ---- one range
text_sliced-plain : (low high : ℤ) (r : TextRange) → IsPlain r → IsPlain (text_sliced low high r)
text_sliced-plain low high r p = subst (λ q. IsPlain (text_sliced low high q)) (sym p) refl

text_moved-plain : (k : ℤ) (r : TextRange) → IsPlain r → IsPlain (text_moved k r)
text_moved-plain k r p = subst (λ q. IsPlain (text_moved k q)) (sym p) refl

pub range_sliced-strides : (strided : Bool) (r : TextRange) (cuts : List TextRange) → MayStride strided (r ∷ []) → MayStride strided (range_sliced r cuts ∷ [])
range_sliced-strides true r cuts p = tt
range_sliced-strides false r [] p = p
range_sliced-strides false r (cut ∷ cuts) p = (text_sliced-plain cut.value.low cut.value.high r p.0, tt)

-- ---- the ranges of a domain
all_sliced-length : (rs cuts : List TextRange) → length (all_sliced rs cuts) ≡ length rs
all_sliced-length [] cuts = refl
all_sliced-length (r ∷ rs) [] = refl
all_sliced-length (r ∷ rs) (cut ∷ cuts) = ap suc (all_sliced-length rs cuts)

all_sliced-plain : (rs cuts : List TextRange) → ArePlain rs → ArePlain (all_sliced rs cuts)
all_sliced-plain [] cuts p = tt
all_sliced-plain (r ∷ rs) [] p = p
all_sliced-plain (r ∷ rs) (cut ∷ cuts) p = (text_sliced-plain cut.value.low cut.value.high r p.0, all_sliced-plain rs cuts p.1)

pub all_sliced-ranked : (rank : ℕ) (strided : Bool) (rs cuts : List TextRange) → AreRanked rank strided rs → AreRanked rank strided (all_sliced rs cuts)
all_sliced-ranked rank true rs cuts h = (subst (λ n. length (all_sliced rs cuts) ≡ n) h.0 (all_sliced-length rs cuts), tt)
all_sliced-ranked rank false rs cuts h = (subst (λ n. length (all_sliced rs cuts) ≡ n) h.0 (all_sliced-length rs cuts), all_sliced-plain rs cuts h.1)

text_expanded-length : (k : ℤ) (rs : List TextRange) → length (text_expanded k rs) ≡ length rs
text_expanded-length k [] = refl
text_expanded-length k (r ∷ rs) = ap suc (text_expanded-length k rs)

text_expanded-plain : (k : ℤ) (rs : List TextRange) → ArePlain rs → ArePlain (text_expanded k rs)
text_expanded-plain k [] p = tt
text_expanded-plain k (r ∷ rs) p = (text_moved-plain k r p.0, text_expanded-plain k rs p.1)

pub text_expanded-ranked : (rank : ℕ) (k : ℤ) (rs : List TextRange) → AreRanked rank false rs → AreRanked rank false (text_expanded k rs)
text_expanded-ranked rank k rs h = (subst (λ n. length (text_expanded k rs) ≡ n) h.0 (text_expanded-length k rs), text_expanded-plain k rs h.1)

item-plain : (rs : List TextRange) (d : ℕ) (r : TextRange) → ArePlain rs → IsPlain r → IsPlain (slice_index_or rs d r)
item-plain [] d r p q = q
item-plain (x ∷ rs) zero r p q = p.0
item-plain (x ∷ rs) (suc d) r p q = item-plain rs d r p.1 q

pub dimension-strides : (strided : Bool) (d : ℕ) (rs : List TextRange) → MayStride strided rs → MayStride strided (dimension d rs ∷ [])
dimension-strides true d rs p = tt
dimension-strides false d rs p = (item-plain rs d (unstrided (pos 1) (pos 0)) p refl, tt)

-- ---- the ranges that make a domain
joined-strides : (a b : Bool) (r : TextRange) (rs : List TextRange) → MayStride a (r ∷ []) → MayStride b rs → MayStride (a || b) (r ∷ rs)
joined-strides true b r rs p q = tt
joined-strides false true r rs p q = tt
joined-strides false false r rs p q = (p.0, q)

-- the value of a part that is a range by its type
part-range : (o : Option ValueType) (at : Place) (v : Value) → is_some o ≡ true → HasPartType v o → owed_type is_range at o ≡ []
    → (r : TextRange) × (v ≡ Range r) × MayStride (has is_strided_range o) (r ∷ [])
part-range (Some (RangeType true)) at v k h w = h
part-range (Some (RangeType false)) at v k h w = h
part-range _ at v k h w = absurd cc

one_more : (a b : Bool) (rank : ℕ) (r : TextRange) (rs : List TextRange) → MayStride a (r ∷ []) → AreRanked rank b rs → AreRanked (suc rank) (a || b) (r ∷ rs)
one_more a b rank r rs p h = (ap suc h.0, joined-strides a b r rs p h.1)

pub all_ranges-ranked : (ps : List Part) (vs : List Value) → HaveTypes vs ps → all_known ps ≡ true → each_wanted is_range ps ≡ []
    → AreRanked (length ps) (any_strided ps) (all_ranges vs)
all_ranges-ranked [] [] h k w = (refl, tt)
all_ranges-ranked [] (v ∷ vs) h k w = elim h [ ]
all_ranges-ranked (p ∷ ps) [] h k w = elim h [ ]
all_ranges-ranked (p ∷ ps) (v ∷ vs) h k w =
    let known = both_so (is_some p.type) (all_known ps) k in
    let first = part-range p.type p.at v known.0 h.0 (first_empty (wanted is_range p) (each_wanted is_range ps) w) in
    let others = all_ranges-ranked ps vs h.1 known.1 (second_empty (wanted is_range p) (each_wanted is_range ps) w) in
    subst (λ v. AreRanked (suc (length ps)) (has is_strided_range p.type || any_strided ps) (ranges_in v ++ all_ranges vs)) (sym first.1)
    (one_more (has is_strided_range p.type) (any_strided ps) (length ps) first.0 (all_ranges vs) first.2 others)
