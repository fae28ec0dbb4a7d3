-- The indices of a range alone, by its members.
use Rattle.std.proofs.Common.{◌≡◌, ℕ, zero, suc, ◌+◌, ◌<◌, ℤ, pos, ◌*ℤ◌, List, [], ◌∷◌, length, slice_get, Option, Some, None, refl, sym, subst, ap, ◌∙◌}
use Rattle.std.proofs.lemmas.Option.{none-some, same_Some}
use Rattle.std.specs.Option.{option_map}
use Rattle.std.specs.List.{flat_map}
use Rattle.dpl_range.specs.Invariant.{IsRange}
use Rattle.dpl_sets.specs.Ranges.{members_of}
use Rattle.dpl_sets.specs.TextRanges.{TextRange}
use Rattle.dpl_sets.specs.Indices.{indices}
use Rattle.dpl_array.specs.Elements.{Row, along, behind}
use Rattle.dpl_language.specs.Ranges.{indices_in}
use Rattle.dpl_array.proofs.InRows.{later-member}
use Rattle.dpl_loop.proofs.Places.{within-there}

alone-at : (is : List ℤ) (k : ℕ) → slice_get (flat_map (λ i. (i ∷ []) ∷ []) is) k ≡ option_map (λ i. i ∷ []) (slice_get is k)
alone-at [] k = refl
alone-at (i ∷ is) zero = refl
alone-at (i ∷ is) (suc k) = alone-at is k

pub line-at : (r : TextRange) (k : ℕ) → slice_get (indices_in (r ∷ [])) k ≡ option_map (λ i. i ∷ []) (slice_get (members_of r.value) k)
unfolding indices
line-at r k = alone-at (members_of r.value) k

alone-length : (is : List ℤ) → length (flat_map (λ i. (i ∷ []) ∷ []) is) ≡ length is
alone-length [] = refl
alone-length (i ∷ is) = ap suc (alone-length is)

pub line-length : (r : TextRange) → length (indices_in (r ∷ [])) ≡ length (members_of r.value)
unfolding indices
line-length r = alone-length (members_of r.value)

pub line-there : (r : TextRange) (k : ℕ) → k < length (members_of r.value) → slice_get (indices_in (r ∷ [])) k ≡ None → ⊥
line-there r k within none = within-there (indices_in (r ∷ [])) k (subst (λ n. k < n) (sym (line-length r)) within) none

-- the indices lie behind one another
line-of : (t : List ℤ) (member : Option ℤ) → option_map (λ i. i ∷ []) member ≡ Some t → (i : ℤ) × (member ≡ Some i) × (t ≡ i ∷ [])
line-of t None is = absurd (none-some t is)
line-of t (Some i) is = (i, refl, sym (same_Some (i ∷ []) t is))

pub line-behind : (r : TextRange) → IsRange r.value → (row : Row) → row.step ≡ r.value.stride → (place k : ℕ) → slice_get (indices_in (r ∷ [])) place ≡ Some row.first → place + k < length (members_of r.value) → slice_get (indices_in (r ∷ [])) (place + k) ≡ Some (behind k row)
line-behind r limits row own place k at within =
    let member = line-of row.first (slice_get (members_of r.value) place) (sym (line-at r place) ∙ at) in
    line-at r (place + k)
    ∙ ap (option_map (λ i. i ∷ [])) (later-member r.value limits place k member.0 within member.1)
    ∙ ap (λ t. Some (along (r.value.stride *ℤ pos k) t)) (sym member.2)
    ∙ ap (λ s. Some (along (s *ℤ pos k) row.first)) (sym own)
