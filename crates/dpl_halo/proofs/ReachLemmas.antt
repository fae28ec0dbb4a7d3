-- Turns that are read dimension by dimension, and those in between that nobody has to look at.
-- What was looked at and what is left are the turns.
use Rattle.std.proofs.Common.{◌≡◌, ◌⊎◌, ◌&&◌, ◌^◌, ℕ, ℤ, pos, neg_ℤ, ◌+ℤ◌, ◌-ℤ◌, List, [], ◌∷◌, ◌++◌, map, length, slice_index_or, Bool, true, false, cond, not, None, inl, inr, refl, ap, sym, subst, ◌∙◌, ⊎_elim, arith, append_assoc, append-nil, eq-eqb}
use Rattle.std.proofs.lemmas.Int.{ints, by_lt_z}
use Rattle.dpl_sets.specs.Ranges.{RangeValue, IsBound}
use Rattle.dpl_sets.specs.Indices.{indices}
use Rattle.dpl_sets.specs.declared.subscript.Subscript.{Subscript}
use Rattle.dpl_map.specs.Maps.{owner}
use Rattle.dpl_array.specs.Elements.{value_at}
use Rattle.dpl_array.specs.Arrays.{ArrayValue}
use Rattle.dpl_array.specs.Rows.{StandsIn}
use Rattle.dpl_halo.specs.Gathering.{GatheredValue, IsGathered, AddsForeign}
use Rattle.dpl_halo.specs.Halos.{is_foreign}
use Rattle.dpl_halo.specs.Listed.{is_listed}
use Rattle.dpl_halo.specs.Shifts.{shifted}
use Rattle.dpl_halo.specs.Turns.{IsNarrowed, AreCutPoints}
use Rattle.dpl_halo.proofs.ListedLemmas.{listed-alike, stands-first, stands-second, stands-either, stands-map, map-stands}

-- lists that have the same wanted indices
gather-alike : {T : Type 0} (a : ArrayValue T) (wants : List ℤ → Bool) (g : GatheredValue T) (xs ys : List (List ℤ)) → ((t : List ℤ) → wants t ≡ true → is_listed xs t ≡ is_listed ys t) → IsGathered a wants xs g → IsGathered a wants ys g
gather-alike {T = T} a wants g xs ys same gathered = record {
  domain = gathered.domain;
  values = λ t. gathered.values t ∙ by t (wants t) refl;
}
  where
    unwanted : (b c : Bool) → (b && false) ≡ (c && false)
    unwanted true true = refl
    unwanted true false = refl
    unwanted false true = refl
    unwanted false false = refl

    by : (t : List ℤ) (b : Bool) → wants t ≡ b → cond (is_listed xs t && wants t) (value_at t a.elements) None ≡ cond (is_listed ys t && wants t) (value_at t a.elements) None
    by t true is = ap (λ b. cond (b && wants t) (value_at t a.elements) None) (same t is)
    by t false is =
        ap (λ b. cond (is_listed xs t && b) (value_at t a.elements) None) is
        ∙ ap (λ b. cond b (value_at t a.elements) None) (unwanted (is_listed xs t) (is_listed ys t))
        ∙ ap (λ b. cond (is_listed ys t && b) (value_at t a.elements) None) (sym is)

-- what was looked at and what is left
pub record IsRead {T : Type 0} (a : ArrayValue T) (locale : ℕ) (shift : List Subscript) (turns left : List RangeValue) (g h : GatheredValue T) : Type 0 where
  pub gone : List (List ℤ)
  pub domain : h.domain ≡ g.domain
  pub rank : length left ≡ length turns
  pub whole : (t : List ℤ) → StandsIn (indices turns) t → StandsIn gone t ⊎ StandsIn (indices left) t
  pub some : (t : List ℤ) → StandsIn gone t → StandsIn (indices turns) t
  pub rest : (t : List ℤ) → StandsIn (indices left) t → StandsIn (indices turns) t
  pub adds : AddsForeign a locale (map (shifted shift) gone) g h

map-append : {X Y : Type 0} (f : X → Y) (xs ys : List X) → map f (xs ++ ys) ≡ map f xs ++ map f ys
map-append f [] ys = refl
map-append f (x ∷ xs) ys = ap (λ zs. f x ∷ zs) (map-append f xs ys)

module _ {T : Type 0} (a : ArrayValue T) (locale : ℕ) (shift : List Subscript) (turns : List RangeValue) (g : GatheredValue T) where
  pub read-first : IsRead a locale shift turns turns g g
  read-first = record {
    gone = [];
    domain = refl;
    rank = refl;
    whole = λ t at. inr at;
    some = λ t at. absurd (let e = at.1 in cc);
    rest = λ t at. at;
    adds = λ seen gathered. subst (λ ts. IsGathered a (is_foreign a.map locale) ts g) (sym (append-nil seen)) gathered;
  }

  add-two : (gone more : List (List ℤ)) (h k : GatheredValue T) → AddsForeign a locale (map (shifted shift) gone) g h → AddsForeign a locale (map (shifted shift) more) h k → AddsForeign a locale (map (shifted shift) (gone ++ more)) g k
  add-two gone more h k first second seen gathered =
      subst (λ ts. IsGathered a (is_foreign a.map locale) ts k)
      (append_assoc seen (map (shifted shift) gone) (map (shifted shift) more) ∙ ap (λ us. seen ++ us) (sym (map-append (shifted shift) gone more)))
      (second (seen ++ map (shifted shift) gone) (first seen gathered))

  -- one dimension
  pub read-next :
      (d : ℕ) (low high : ℤ) (left below above core : List RangeValue) (h k l : GatheredValue T) → IsRead a locale shift turns left g h → AreCutPoints low high
      → IsNarrowed d (neg_ℤ (pos (2 ^ 60))) (low -ℤ pos 1) left below → IsNarrowed d (high +ℤ pos 1) (pos (2 ^ 60)) left above → IsNarrowed d low high left core
      → ((t : List ℤ) → StandsIn (indices left) t → IsBound (slice_index_or t d (pos 0))) → length core ≡ length left → k.domain ≡ h.domain → l.domain ≡ k.domain
      → AddsForeign a locale (map (shifted shift) (indices below)) h k → AddsForeign a locale (map (shifted shift) (indices above)) k l → IsRead a locale shift turns core g l
  read-next d low high left below above core h k l read points is_below is_above is_core bounded long first second under over = record {
    gone = (read.gone ++ indices below) ++ indices above;
    domain = second ∙ first ∙ read.domain;
    rank = long ∙ read.rank;
    whole = whole;
    some = some;
    rest = λ t at. read.rest t ((is_core t).0 at).0;
    adds = add-two (read.gone ++ indices below) (indices above) k l (add-two read.gone (indices below) h k read.adds under) over;
  }
    where
      parted : (t : List ℤ) → StandsIn (indices left) t → StandsIn ((read.gone ++ indices below) ++ indices above) t ⊎ StandsIn (indices core) t
      parted t at =
          let bound = bounded t at in
          by_lt_z (slice_index_or t d (pos 0)) low
          (λ less. inl (stands-first (read.gone ++ indices below) (indices above) t (stands-second read.gone (indices below) t ((is_below t).1 (at, omega (arith, ints, bound.0), omega (arith, ints, less))))))
          (λ from. by_lt_z high (slice_index_or t d (pos 0))
          (λ more. inl (stands-second (read.gone ++ indices below) (indices above) t ((is_above t).1 (at, omega (arith, ints, more), omega (arith, ints, bound.1)))))
          (λ to. inr ((is_core t).1 (at, from, to))))

      whole : (t : List ℤ) → StandsIn (indices turns) t → StandsIn ((read.gone ++ indices below) ++ indices above) t ⊎ StandsIn (indices core) t
      whole t at =
          ⊎_elim
          (λ (here : StandsIn read.gone t). inl (stands-first (read.gone ++ indices below) (indices above) t (stands-first read.gone (indices below) t here)))
          (λ (later : StandsIn (indices left) t). parted t later)
          (read.whole t at)

      some : (t : List ℤ) → StandsIn ((read.gone ++ indices below) ++ indices above) t → StandsIn (indices turns) t
      some t at =
          ⊎_elim
          (λ (front : StandsIn (read.gone ++ indices below) t).
          ⊎_elim
          (λ (here : StandsIn read.gone t). read.some t here)
          (λ (low : StandsIn (indices below) t). read.rest t ((is_below t).0 low).0)
          (stands-either read.gone (indices below) t front))
          (λ (high : StandsIn (indices above) t). read.rest t ((is_above t).0 high).0)
          (stands-either (read.gone ++ indices below) (indices above) t at)

  -- lists of turns of which the one has what the other has, but for turns that read what the locale owns
  alike : (h : GatheredValue T) (gone : List (List ℤ)) → ((t : List ℤ) → StandsIn gone t → StandsIn (indices turns) t) → ((t : List ℤ) → StandsIn (indices turns) t → StandsIn gone t ⊎ (owner a.map (shifted shift t) ≡ locale)) → AddsForeign a locale (map (shifted shift) gone) g h → AddsForeign a locale (map (shifted shift) (indices turns)) g h
  alike h gone into back adds seen gathered =
      gather-alike a (is_foreign a.map locale) h (seen ++ map (shifted shift) gone) (seen ++ map (shifted shift) (indices turns))
      (λ t wanted. listed-alike (seen ++ map (shifted shift) gone) (seen ++ map (shifted shift) (indices turns)) t (there t) (here t wanted)) (adds seen gathered)
    where
      there : (t : List ℤ) → StandsIn (seen ++ map (shifted shift) gone) t → StandsIn (seen ++ map (shifted shift) (indices turns)) t
      there t at =
          ⊎_elim
          (λ (old : StandsIn seen t). stands-first seen (map (shifted shift) (indices turns)) t old)
          (λ (new : StandsIn (map (shifted shift) gone) t).
          let turn = map-stands (shifted shift) gone t new in
          stands-second seen (map (shifted shift) (indices turns)) t (subst (StandsIn (map (shifted shift) (indices turns))) turn.2 (stands-map (shifted shift) (indices turns) turn.0 (into turn.0 turn.1))))
          (stands-either seen (map (shifted shift) gone) t at)

      unwanted : (t u : List ℤ) → is_foreign a.map locale t ≡ true → shifted shift u ≡ t → owner a.map (shifted shift u) ≡ locale → ⊥
      unwanted t u wanted is owned =
          let e : true ≡ false = sym wanted ∙ ap not (eq-eqb (owner a.map t) locale (ap (owner a.map) (sym is) ∙ owned)) in
          absurd cc

      here : (t : List ℤ) → is_foreign a.map locale t ≡ true → StandsIn (seen ++ map (shifted shift) (indices turns)) t → StandsIn (seen ++ map (shifted shift) gone) t
      here t wanted at =
          ⊎_elim
          (λ (old : StandsIn seen t). stands-first seen (map (shifted shift) gone) t old)
          (λ (new : StandsIn (map (shifted shift) (indices turns)) t).
          let turn = map-stands (shifted shift) (indices turns) t new in
          ⊎_elim
          (λ (gone_by : StandsIn gone turn.0). stands-second seen (map (shifted shift) gone) t (subst (StandsIn (map (shifted shift) gone)) turn.2 (stands-map (shifted shift) gone turn.0 gone_by)))
          (λ (owned : owner a.map (shifted shift turn.0) ≡ locale). absurd (unwanted t turn.0 wanted turn.2 owned))
          (back turn.0 turn.1))
          (stands-either seen (map (shifted shift) (indices turns)) t at)

  -- what is left reads what the locale owns
  pub read-owned : (left : List RangeValue) (h : GatheredValue T) → IsRead a locale shift turns left g h → ((t : List ℤ) → StandsIn (indices left) t → owner a.map (shifted shift t) ≡ locale) → AddsForeign a locale (map (shifted shift) (indices turns)) g h
  read-owned left h read owned =
      alike h read.gone read.some
      (λ t at. ⊎_elim (λ (here : StandsIn read.gone t). inl here) (λ (later : StandsIn (indices left) t). inr (owned t later)) (read.whole t at))
      read.adds

  -- what is left is looked at too
  pub read-rest : (left : List RangeValue) (h k : GatheredValue T) → IsRead a locale shift turns left g h → AddsForeign a locale (map (shifted shift) (indices left)) h k → AddsForeign a locale (map (shifted shift) (indices turns)) g k
  read-rest left h k read rest =
      alike k (read.gone ++ indices left)
      (λ t at. ⊎_elim (λ (here : StandsIn read.gone t). read.some t here) (λ (later : StandsIn (indices left) t). read.rest t later) (stands-either read.gone (indices left) t at))
      (λ t at. inl (⊎_elim (λ (here : StandsIn read.gone t). stands-first read.gone (indices left) t here) (λ (later : StandsIn (indices left) t). stands-second read.gone (indices left) t later) (read.whole t at)))
      (add-two read.gone (indices left) h k read.adds rest)
