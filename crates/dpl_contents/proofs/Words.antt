-- The words of an array as the finite map that they are: a read, a write, and another domain.
use Rattle.std.proofs.Common.{◌≡◌, ◌^◌, length, Bool, true, false, cond, List, [], ◌∷◌, ℤ, pos, map, Option, Some, None, Result, Ok, Err, ◌↔◌, refl, ap, sym, subst, ◌∙◌, arith, ⊎_elim}
use Rattle.std.specs.Prelude.{unwrap_or}
use Rattle.dpl_sets.specs.TextRanges.{TextRange}
use Rattle.dpl_sets.specs.Ranges.{RangeValue}
use Rattle.dpl_sets.specs.Indices.{indices}
use Rattle.dpl_sets.specs.TextDomains.{values_of}
use Rattle.dpl_domain.proofs.DistinctLemmas.{AreRanges, indices-distinct}
use Rattle.dpl_language.specs.Values.{Index}
use Rattle.dpl_language.specs.Ranges.{indices_in, size_in, too_large}
use Rattle.std.proofs.lemmas.Bool.{ltb-true, ltb-false}
use Rattle.std.proofs.lemmas.List.{length-map}
use Rattle.dpl_memory.specs.Memory.{Held, whole_held, word_at, with_word, held_at, held_with, held_over}
use Rattle.dpl_map.specs.Maps.{AxisValue}
use Rattle.dpl_array.specs.Elements.{Elements, same_index, value_at, with_value, keys_of, filled, tabulated, IsOver}
use Rattle.dpl_array.specs.Arrays.{ArrayValue, IsSmallArray, array_with, filled_array, redomained, or_value}
use Rattle.dpl_array.specs.declared.array.ArrayFault.{ArrayFault}
use Rattle.dpl_array.specs.declared.array.ArrayFault.TheVariants.{Size}
use Rattle.dpl_array.specs.Rows.{IsDistinct, StandsIn}
use Rattle.dpl_array.proofs.ElementLemmas.{index-cases, same_index-refl, value-stands, with_value-absent, over-with_value, over-filled, tabulated-over}
use Rattle.dpl_array.proofs.DistinctLemmas.{distinct-head, distinct-tail}
use Rattle.dpl_contents.specs.Arrays.{words_of, IsArrayOver}
use Rattle.dpl_contents.specs.Domains.{AreWritten}
use Rattle.dpl_contents.proofs.Members.{is_index-same}
use Rattle.dpl_contents.proofs.Sizes.{size_in-is}

-- A READ
pub word_at-words : (t : Index) (es : Elements ℤ) → word_at t (keys_of es) (words_of es) ≡ value_at t es
word_at-words t [] = refl
word_at-words t (e ∷ es) =
    ap (λ b. cond b (Some e.1) (word_at t (keys_of es) (words_of es))) (is_index-same t e.0)
    ∙ ap (cond (same_index t e.0) (Some e.1)) (word_at-words t es)

-- A WRITE
absent : (t : Index) (es : Elements ℤ) → (StandsIn (keys_of es) t → ⊥) → value_at t es ≡ None
absent t es none = by (value_at t es) refl
  where
    by : (o : Option ℤ) → value_at t es ≡ o → o ≡ None
    by None e = refl
    by (Some v) e = absurd (none (value-stands es t v e))

pub with_word-words : (t : Index) (w : ℤ) (es : Elements ℤ) → IsDistinct (keys_of es) → with_word t w (keys_of es) (words_of es) ≡ words_of (with_value t w es)
with_word-words t w [] distinct = refl
with_word-words t w (e ∷ es) distinct =
    ap (λ b. cond b (w ∷ words_of es) (e.1 ∷ with_word t w (keys_of es) (words_of es))) (is_index-same t e.0)
    ∙ ⊎_elim
    (λ (here : t ≡ e.0).
    let same : same_index t e.0 ≡ true = ap (same_index t) (sym here) ∙ same_index-refl t in
    let none = absent t es (λ at. distinct-head e.0 (keys_of es) distinct (subst (StandsIn (keys_of es)) here at)) in
    rw same (ap (λ fs. w ∷ words_of fs) (sym (with_value-absent t w es none))))
    (λ (other : same_index t e.0 ≡ false).
    rw other (ap (λ ws. e.1 ∷ ws) (with_word-words t w es (distinct-tail e.0 (keys_of es) distinct))))
    (index-cases t e.0)

-- no index of a domain stands twice
pub written-ranges : (rs : List TextRange) → AreWritten (values_of rs) → AreRanges (values_of rs)
written-ranges [] written = tt
written-ranges (r ∷ rs) written = (written.0, written-ranges rs written.2)

-- AN ARRAY AND WHAT IT IS SEEN AS
abbrev pub seen : List TextRange → ArrayValue ℤ → Held
seen ranges a = whole_held ranges (words_of a.elements)

module _ (ranges : List TextRange) (a : ArrayValue ℤ) (over : IsArrayOver ranges a) where
  keys-are : indices_in ranges ≡ keys_of a.elements
  keys-are = ap indices (sym over.domain) ∙ sym over.keys.keys

  pub held_at-seen : (t : Index) → held_at t (seen ranges a) ≡ value_at t a.elements
  held_at-seen t = ap (λ ks. word_at t ks (words_of a.elements)) keys-are ∙ word_at-words t a.elements

  held_with-seen : (t : Index) (w : ℤ) → held_with t w (seen ranges a) ≡ seen ranges (array_with t w a)
  held_with-seen t w =
      let distinct : IsDistinct (keys_of a.elements) = subst IsDistinct keys-are (indices-distinct (values_of ranges) (written-ranges ranges over.written)) in
      ap (λ ws. whole_held ranges ws)
      (ap (λ ks. with_word t w ks (words_of a.elements)) keys-are ∙ with_word-words t w a.elements distinct)

  -- its keys are the domain's indices
  pub keys-seen : (h : Held) → seen ranges a ≡ h → h.keys ≡ indices_in h.ranges
  keys-seen h is = ap (λ (g : Held). g.keys) (sym is) ∙ ap (λ (g : Held). indices_in g.ranges) is

  -- there is a word for each index
  pub length-seen : (h : Held) → seen ranges a ≡ h → length h.words ≡ size_in h.ranges
  length-seen h is =
      ap (λ (g : Held). length g.words) (sym is)
      ∙ length-map a.elements (λ e. e.1)
      ∙ sym (length-map a.elements (λ e. e.0))
      ∙ ap length (sym keys-are)
      ∙ sym (size_in-is ranges over.written)
      ∙ ap (λ (g : Held). size_in g.ranges) is

  -- a read
  pub held_at-is : (t : Index) (h : Held) → seen ranges a ≡ h → value_at t a.elements ≡ held_at t h
  held_at-is t h is = sym (held_at-seen t) ∙ ap (held_at t) is

  -- a write
  pub held_with-is : (t : Index) (w : ℤ) (b : ArrayValue ℤ) (h : Held) → b ≡ array_with t w a → seen ranges a ≡ h → seen ranges b ≡ held_with t w h
  held_with-is t w b h written is = ap (seen ranges) written ∙ sym (held_with-seen t w) ∙ ap (held_with t w) is

  pub over-with : (t : Index) (w : ℤ) (b : ArrayValue ℤ) → b ≡ array_with t w a → IsArrayOver ranges b
  over-with t w b written =
      subst (IsArrayOver ranges) (sym written)
      (record { domain = over.domain; keys = over-with_value (indices a.domain) a.elements t w over.keys; written = over.written })

-- ONE WORD EVERYWHERE
words_of-filled : (w : ℤ) (ts : List Index) → words_of (filled ts w) ≡ map (λ t. w) ts
words_of-filled w [] = refl
words_of-filled w (t ∷ ts) = ap (λ ws. w ∷ ws) (words_of-filled w ts)

-- ANOTHER DOMAIN
tabulated-each : (f : Index → ℤ) (ts : List Index) → map (λ t. (t, f t)) ts ≡ tabulated ts (λ t. Some (f t))
tabulated-each f [] = refl
tabulated-each f (t ∷ ts) = ap (λ es. (t, f t) ∷ es) (tabulated-each f ts)

over-each : (f : Index → ℤ) (ts : List Index) → IsOver ts (map (λ t. (t, f t)) ts)
over-each f ts = subst (IsOver ts) (sym (tabulated-each f ts)) (tabulated-over ts (λ t. Some (f t)) (λ t at. (f t, refl)))

or_value-zero : (o : Option ℤ) → or_value o (pos 0) ≡ unwrap_or o (pos 0)
or_value-zero None = refl
or_value-zero (Some w) = refl

words-redomained : (es : Elements ℤ) (f : Index → Option ℤ) (ts : List Index) → ((t : Index) → value_at t es ≡ f t) → words_of (map (λ t. (t, or_value (value_at t es) (pos 0))) ts) ≡ map (λ t. unwrap_or (f t) (pos 0)) ts
words-redomained es f [] same = refl
words-redomained es f (t ∷ ts) same =
    ap (λ w. w ∷ words_of (map (λ t. (t, or_value (value_at t es) (pos 0))) ts)) (or_value-zero (value_at t es) ∙ ap (λ o. unwrap_or o (pos 0)) (same t))
    ∙ ap (λ ws. unwrap_or (f t) (pos 0) ∷ ws) (words-redomained es f ts same)

-- AN ARRAY THAT IS MADE
module _ (rs : List TextRange) (domain : List RangeValue) (are : domain ≡ values_of rs) (written : AreWritten (values_of rs)) where
  pub over-filled_array : (axes : List AxisValue) (w : ℤ) (b : ArrayValue ℤ) → b ≡ filled_array domain axes w → IsArrayOver rs b
  over-filled_array axes w b is = subst (IsArrayOver rs) (sym is) (record { domain = are; keys = over-filled (indices domain) w; written = written })

  pub seen-filled_array : (axes : List AxisValue) (w : ℤ) (b : ArrayValue ℤ) → b ≡ filled_array domain axes w → seen rs b ≡ whole_held rs (map (λ t. w) (indices_in rs))
  seen-filled_array axes w b is =
      ap (seen rs) is
      ∙ ap (λ ws. whole_held rs ws) (words_of-filled w (indices domain) ∙ ap (λ vs. map (λ t. w) (indices vs)) are)

  pub over-redomained : (a b : ArrayValue ℤ) → b ≡ redomained a domain (pos 0) → IsArrayOver rs b
  over-redomained a b is =
      subst (IsArrayOver rs) (sym is)
      (record { domain = are; keys = over-each (λ t. or_value (value_at t a.elements) (pos 0)) (indices domain); written = written })

  pub seen-redomained : (ranges : List TextRange) (a b : ArrayValue ℤ) (h : Held) → IsArrayOver ranges a → seen ranges a ≡ h → b ≡ redomained a domain (pos 0) → seen rs b ≡ held_over rs h
  seen-redomained ranges a b h over was is =
      ap (seen rs) is
      ∙ ap (λ vs. whole_held rs (words_of (map (λ t. (t, or_value (value_at t a.elements) (pos 0))) (indices vs)))) are
      ∙ ap (λ ws. whole_held rs ws)
      (words-redomained a.elements (λ t. held_at t h) (indices_in rs) (λ t. held_at-is ranges a over t h was))

  -- too large is what an array refuses
  too_large-refused : (too_large rs ≡ true) ↔ (¬ IsSmallArray domain)
  too_large-refused =
      let same : length (indices domain) ≡ size_in rs = ap (λ vs. length (indices vs)) are ∙ sym (size_in-is rs written) in (
        (λ large small. omega (arith, same, ltb-true (2 ^ 24) (size_in rs) large)),
        (λ never. by (too_large rs) refl never same),
      )
    where
      by : (b : Bool) → too_large rs ≡ b → (¬ IsSmallArray domain) → length (indices domain) ≡ size_in rs → b ≡ true
      by true is never same = refl
      by false is never same = absurd (never (omega (arith, same, ltb-false (2 ^ 24) (size_in rs) is)))

  pub fault-size : {A B : Type 0} (r : Result A ArrayFault) (s : Result B ArrayFault) (f : ArrayFault) → r ≡ Err f → s ≡ Err f → (r ≡ Err Size) ↔ (¬ IsSmallArray domain) → (s ≡ Err Size) ↔ (too_large rs ≡ true)
  fault-size r s f failed returned refused = (
    (λ e. let size : f ≡ Size = cc in too_large-refused.1 (refused.0 (failed ∙ ap Err size))),
    (λ large. let e : r ≡ Err Size = refused.1 (too_large-refused.0 large) in let size : f ≡ Size = cc in returned ∙ ap Err size),
  )

  pub made-size : {A B : Type 0} (r : Result A ArrayFault) (s : Result B ArrayFault) (a : A) (b : B) → r ≡ Ok a → s ≡ Ok b → (r ≡ Err Size) ↔ (¬ IsSmallArray domain) → (s ≡ Err Size) ↔ (too_large rs ≡ true)
  made-size r s a b made returned refused = (
    (λ e. absurd cc),
    (λ large. let e : r ≡ Err Size = refused.1 (too_large-refused.0 large) in absurd cc),
  )
