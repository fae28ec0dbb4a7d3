-- The indices of a domain, none of which is listed twice: the words that are read and written at them.
-- Each lemma has a read or a write on its left side.
use Rattle.std.proofs.Common.{◌≡◌, suc, ℤ, true, false, List, [], ◌∷◌, ◌++◌, length, map, Option, Some, if◌then◌else◌, refl, subst, ap, ◌∙◌, arith}
use Rattle.dpl_sets.specs.TextRanges.{TextRange}
use Rattle.dpl_sets.specs.TextDomains.{values_of}
use Rattle.dpl_domain.proofs.DistinctLemmas.{AreRanges, indices-distinct}
use Rattle.dpl_array.specs.Rows.{IsDistinct, StandsIn}
use Rattle.dpl_array.proofs.ElementLemmas.{same_index-refl, not-same}
use Rattle.dpl_array.proofs.DistinctLemmas.{distinct-head, distinct-tail}
use Rattle.dpl_language.specs.Values.{Index}
use Rattle.dpl_language.specs.Ranges.{indices_in, same_index}
use Rattle.dpl_memory.specs.Memory.{word_at, with_word}
use Rattle.dpl_contents.specs.Domains.{AreWritten}
use Rattle.dpl_contents.proofs.Members.{is_index-same}

within-limits : (rs : List TextRange) → AreWritten (values_of rs) → AreRanges (values_of rs)
within-limits [] written = tt
within-limits (r ∷ rs) written = (written.0, within-limits rs written.2)

pub indices_in-distinct : (rs : List TextRange) → AreWritten (values_of rs) → IsDistinct (indices_in rs)
indices_in-distinct rs written = indices-distinct (values_of rs) (within-limits rs written)

same_index-itself : (t : Index) → same_index t t ≡ true
same_index-itself t = is_index-same t t ∙ same_index-refl t

-- one that stands behind another
same_index-behind : (t i : Index) (is : List Index) → IsDistinct (i ∷ is) → StandsIn is t → same_index t i ≡ false
same_index-behind t i is distinct at = is_index-same t i ∙ not-same t i (λ same. distinct-head i is distinct (subst (StandsIn is) same at))

stands-behind : (t : Index) (is left : List Index) → StandsIn (is ++ t ∷ left) t
stands-behind t [] left = (0, refl)
stands-behind t (i ∷ is) left = let at = stands-behind t is left in (suc at.0, at.1)

-- a write at the index behind some others
pub with_word-behind : (t : Index) (w u : ℤ) (before left : List Index) (ws rest : List ℤ) → IsDistinct (before ++ t ∷ left) → length ws ≡ length before
    → with_word t w (before ++ t ∷ left) (ws ++ u ∷ rest) ≡ ws ++ w ∷ rest
with_word-behind t w u [] left [] rest distinct long = rw (same_index-itself t) refl
with_word-behind t w u [] left (v ∷ ws) rest distinct long = absurd (omega (arith, long))
with_word-behind t w u (i ∷ is) left [] rest distinct long = absurd (omega (arith, long))
with_word-behind t w u (i ∷ is) left (v ∷ ws) rest distinct long =
    rw (same_index-behind t i (is ++ t ∷ left) distinct (stands-behind t is left))
    (ap (λ us. v ∷ us) (with_word-behind t w u is left ws rest (distinct-tail i (is ++ t ∷ left) distinct) (omega (arith, long))))

map-alike : {B : Type 0} (ts : List Index) (f g : Index → B) → ((t : Index) → StandsIn ts t → f t ≡ g t) → map f ts ≡ map g ts
map-alike [] f g alike = refl
map-alike (t ∷ ts) f g alike = ap (λ y. y ∷ map f ts) (alike t (0, refl)) ∙ ap (λ ys. g t ∷ ys) (map-alike ts f g (λ u at. alike u (suc at.0, at.1)))

-- reads at all indices, in their order
pub map-word_at : {B : Type 0} (f : Option ℤ → B) (ts : List Index) (ws : List ℤ) → length ws ≡ length ts → IsDistinct ts → map (λ t. f (word_at t ts ws)) ts ≡ map (λ w. f (Some w)) ws
map-word_at f [] [] long distinct = refl
map-word_at f [] (w ∷ ws) long distinct = absurd (omega (arith, long))
map-word_at f (i ∷ is) [] long distinct = absurd (omega (arith, long))
map-word_at f (i ∷ is) (w ∷ ws) long distinct =
    ap (λ b. f (if b then Some w else word_at i is ws) ∷ map (λ t. f (word_at t (i ∷ is) (w ∷ ws))) is) (same_index-itself i)
    ∙ ap (λ ys. f (Some w) ∷ ys)
    (map-alike is (λ t. f (word_at t (i ∷ is) (w ∷ ws))) (λ t. f (word_at t is ws)) (λ t at. ap (λ b. f (if b then Some w else word_at t is ws)) (same_index-behind t i is distinct at))
    ∙ map-word_at f is ws (omega (arith, long)) (distinct-tail i is distinct))
