-- The places of indices in a list without repetition, as that of a domain's indices is: they rise along it.
use Rattle.std.proofs.Common.{◌≡◌, ℕ, zero, suc, ◌<◌, true, false, ℤ, List, [], ◌∷◌, ◌++◌, map, length, Some, slice_get, refl, sym, ap, ◌∙◌, subst, arith}
use Rattle.std.specs.List.{AllByRecursion, flat_map}
use Rattle.std.proofs.lemmas.List.{length-map}
use Rattle.std.proofs.lemmas.Option.{none-some, same_Some}
use Rattle.dpl_sets.specs.Ranges.{RangeValue, members_of}
use Rattle.dpl_sets.specs.Indices.{tuples, indices}
use Rattle.dpl_domain.proofs.DistinctLemmas.{AreRanges, indices-distinct}
use Rattle.dpl_language.specs.Values.{Index}
use Rattle.dpl_language.specs.Ranges.{same_index}
use Rattle.dpl_apart.specs.Rows.{IsDistinct, IsRising, place_in}
use Rattle.dpl_apart.proofs.Indices.{same_index-refl, not-same}

pub distinct-rest : (t : Index) (ts : List Index) → IsDistinct (t ∷ ts) → IsDistinct ts
distinct-rest t ts distinct j k x here there = let e : suc j ≡ suc k = distinct (suc j) (suc k) x here there in omega (arith, e)

pub distinct-first : (t : Index) (ts : List Index) → IsDistinct (t ∷ ts) → (k : ℕ) → slice_get ts k ≡ Some t → ⊥
distinct-first t ts distinct k at = let e : 0 ≡ suc k = distinct 0 (suc k) t refl at in absurd cc

-- behind its first index a list has others
pub others : (t : Index) (ts : List Index) → ((k : ℕ) → slice_get ts k ≡ Some t → ⊥) → AllByRecursion (λ x. same_index x t ≡ false) ts
others t [] none = tt
others t (x ∷ ts) none = (not-same x t (λ e. none 0 (ap Some e)), others t ts (λ k. none (suc k)))

place-behind : (t : Index) (ts all : List Index) → AllByRecursion (λ x. same_index x t ≡ false) all → AllByRecursion (λ x. 0 < place_in (t ∷ ts) x) all
place-behind t ts [] h = tt
place-behind t ts (x ∷ xs) h =
    let later : place_in (t ∷ ts) x ≡ suc (place_in ts x) = rw h.0 refl in
    (omega (arith, later), place-behind t ts xs h.1)

-- one index more before a list moves all places on by one
greater : (t x : Index) (ts all : List Index) → same_index x t ≡ false → AllByRecursion (λ y. same_index y t ≡ false) all → AllByRecursion (λ y. place_in ts x < place_in ts y) all
    → AllByRecursion (λ y. place_in (t ∷ ts) x < place_in (t ∷ ts) y) all
greater t x ts [] e other h = tt
greater t x ts (y ∷ ys) e other h =
    let here : place_in (t ∷ ts) x ≡ suc (place_in ts x) = rw e refl in
    let there : place_in (t ∷ ts) y ≡ suc (place_in ts y) = rw other.0 refl in
    let less = h.0 in
    (omega (arith, here, there, less), greater t x ts ys e other.1 h.1)

rising-behind : (t : Index) (ts all : List Index) → AllByRecursion (λ x. same_index x t ≡ false) all → IsRising (place_in ts) all → IsRising (place_in (t ∷ ts)) all
rising-behind t ts [] other h = tt
rising-behind t ts (x ∷ xs) other h = (greater t x ts xs other.0 other.1 h.0, rising-behind t ts xs other.1 h.1)

pub place_in-rising : (ts : List Index) → IsDistinct ts → IsRising (place_in ts) ts
place_in-rising [] distinct = tt
place_in-rising (t ∷ ts) distinct =
    let other = others t ts (distinct-first t ts distinct) in
    let first : place_in (t ∷ ts) t ≡ 0 = rw (same_index-refl t) refl in (
      subst (λ n. AllByRecursion (λ x. n < place_in (t ∷ ts) x) ts) (sym first) (place-behind t ts ts other),
      rising-behind t ts ts other (place_in-rising ts (distinct-rest t ts distinct)),
    )

-- an index's place is where the list has it
pub place_in-at : (ts : List Index) → IsDistinct ts → (place : ℕ) (t : Index) → slice_get ts place ≡ Some t → place_in ts t ≡ place
place_in-at [] distinct place t at = absurd (none-some t at)
place_in-at (x ∷ ts) distinct zero t at = let same : same_index t x ≡ true = ap (same_index t) (same_Some x t at) ∙ same_index-refl t in rw same refl
place_in-at (x ∷ ts) distinct (suc place) t at =
    let other : same_index t x ≡ false = not-same t x (λ e. distinct-first x ts distinct place (at ∙ ap Some e)) in
    rw other (ap suc (place_in-at ts (distinct-rest x ts distinct) place t at))

-- along the indices of a domain places rise
pub indices-rising : (ranges : List RangeValue) → AreRanges ranges → IsRising (place_in (indices ranges)) (indices ranges)
indices-rising ranges limits = place_in-rising (indices ranges) (indices-distinct ranges limits)

-- ---- each index of a domain has a coordinate for each range
longer : (i : ℤ) (n : ℕ) (ts rest : List Index) → AllByRecursion (λ t. length t ≡ n) ts → AllByRecursion (λ t. length t ≡ suc n) rest → AllByRecursion (λ t. length t ≡ suc n) (map (λ t. i ∷ t) ts ++ rest)
longer i n [] rest h k = k
longer i n (t ∷ ts) rest h k = (ap suc h.0, longer i n ts rest h.1 k)

rows-length : (n : ℕ) (ts : List Index) (is : List ℤ) → AllByRecursion (λ t. length t ≡ n) ts → AllByRecursion (λ t. length t ≡ suc n) (flat_map (λ i. map (λ t. i ∷ t) ts) is)
rows-length n ts [] h = tt
rows-length n ts (i ∷ is) h = longer i n ts (flat_map (λ i. map (λ t. i ∷ t) ts) is) h (rows-length n ts is h)

tuples-length : (iss : List (List ℤ)) → AllByRecursion (λ t. length t ≡ length iss) (tuples iss)
tuples-length [] = (refl, tt)
tuples-length (is ∷ iss) = rows-length (length iss) (tuples iss) is (tuples-length iss)

pub indices-of-rank : (ranges : List RangeValue) (rank : ℕ) → length ranges ≡ rank → AllByRecursion (λ t. length t ≡ rank) (indices ranges)
unfolding indices
indices-of-rank ranges rank e =
    subst (λ n. AllByRecursion (λ t. length t ≡ n) (tuples (map members_of ranges))) (length-map ranges members_of ∙ e) (tuples-length (map members_of ranges))
