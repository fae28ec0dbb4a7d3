-- The arrays over a domain name in slots: those that are declared over its slot.
-- By names they are those that were declared since the domain.
use Rattle.std.proofs.Common.{◌≡◌, ◌≢◌, ℕ, Bool, true, false, List, [], ◌∷◌, refl, sym, ap, ◌∙◌, subst, Some, None, Option}
use Rattle.std.specs.Prelude.{bytes_eq, ◌==◌, ◌||◌, if◌then◌else◌, option_map}
use Rattle.std.proofs.lemmas.Bool.Decides.{Decides-eqb}
use Rattle.std.proofs.lemmas.Slice.Eq.{bytes_eq-Decides}
use Rattle.dpl_sets.specs.TextRanges.{TextRange}
use Rattle.dpl_language.specs.Values.{Domain}
use Rattle.dpl_language.specs.Environment.{Content, Plain, ArrayOf, CellOf}
use Rattle.dpl_language.specs.Names.{Text, Opened, Declared, redomained, is_over, redomain_content, redomain_in, is_array_over, arrays_over}
use Rattle.dpl_agreement.proofs.Slots.{Bound, Mark, Name, Sight, slot_of, IsFresh, IsApart, without_frame, Slots, set_slot, text_of, spelled, entry_at, store_at, same_slot, other_slot, set_slot_here, set_slot_other, SameIn, store_at-same, slot_of-apart}
use Rattle.dpl_agreement.proofs.Respelled.{by_test}

-- BY SLOTS
abbrev pub is_over_slot : ℕ → Option Bound → Bool
is_over_slot k None = false
is_over_slot k (Some y) = k == y.slot

abbrev pub is_array_over_slot : ℕ → Content Bound → Bool
is_array_over_slot k (Plain v) = false
is_array_over_slot k (ArrayOf over kind rs vs) = is_over_slot k over
is_array_over_slot k (CellOf kind c) = false

abbrev pub redomained_content : ℕ → List TextRange → Content Bound → Content Bound
redomained_content k new (Plain v) = Plain v
redomained_content k new (ArrayOf over kind rs vs) =
    if is_over_slot k over then ArrayOf over kind new (redomained kind rs vs new) else ArrayOf over kind rs vs
redomained_content k new (CellOf kind c) = CellOf kind c

-- the domain in a slot assigned, and the arrays over the slot with it
abbrev pub redomain_slots : ℕ → List TextRange → Slots → Slots
redomain_slots k new m j = if j == k then Plain (Domain new) else redomained_content k new (m j)

abbrev pub any_over : ℕ → Slots → Sight → Bool
any_over k m [] = false
any_over k m (Mark ∷ g) = any_over k m g
any_over k m (Name b ∷ g) = is_array_over_slot k (m b.slot) || any_over k m g

-- WHAT IS KNOWN OF DOMAIN NAMES: each slot has one text, and an array is over the slot of its domain's innermost
-- declaration, as it stood where the array was declared
abbrev pub OverNamed : (ℕ → Text) → Option Bound → Sight → Type 0
OverNamed names None p = Unit {0}
OverNamed names (Some y) p = (slot_of y.text p ≡ Some y.slot) × (y.text ≡ names y.slot)

abbrev pub OverResolves : (ℕ → Text) → Content Bound → Sight → Type 0
OverResolves names (Plain v) p = Unit {0}
OverResolves names (ArrayOf over kind rs vs) p = OverNamed names over p
OverResolves names (CellOf kind c) p = Unit {0}

abbrev pub Overs : (ℕ → Text) → Slots → Sight → Type 0
Overs names m [] = Unit {0}
Overs names m (Mark ∷ g) = Overs names m g
Overs names m (Name b ∷ g) = OverResolves names (m b.slot) g × Overs names m g

-- it stays so where slots change, and their arrays are over what they were over
module _ (names : ℕ → Text) (m n : Slots) (p : (j : ℕ) (s : Sight) → OverResolves names (m j) s → OverResolves names (n j) s) where
  pub Overs-kept : (g : Sight) → Overs names m g → Overs names n g
  Overs-kept [] o = tt
  Overs-kept (Mark ∷ g) o = Overs-kept g o
  Overs-kept (Name b ∷ g) o = (p b.slot g o.0, Overs-kept g o.1)

pub Overs-set : (names : ℕ → Text) (m : Slots) (k : ℕ) (u : Content Bound → Content Bound) → ((c : Content Bound) (s : Sight) → OverResolves names c s → OverResolves names (u c) s)
    → (g : Sight) → Overs names m g → Overs names (set_slot k (u (m k)) m) g
Overs-set names m k u p g o =
    Overs-kept names m (set_slot k (u (m k)) m)
    (λ j s r. (elim (j == k) as (λ b. (b ≡ true → j ≡ k) → OverResolves names (if b then u (m k) else m j) s)
    [ true ↦ λ same. p (m k) s (subst (λ i. OverResolves names (m i) s) (same refl) r) | false ↦ λ same. r ]) (Decides-eqb j k).0) g o

redomained_content-resolves : (names : ℕ → Text) (k : ℕ) (new : List TextRange) (c : Content Bound) (s : Sight) → OverResolves names c s → OverResolves names (redomained_content k new c) s
redomained_content-resolves names k new (Plain v) s r = tt
redomained_content-resolves names k new (ArrayOf over kind rs vs) s r =
    elim (is_over_slot k over) as (λ b. OverResolves names (if b then ArrayOf over kind new (redomained kind rs vs new) else ArrayOf over kind rs vs) s) [ true ↦ r | false ↦ r ]
redomained_content-resolves names k new (CellOf kind c) s r = tt

pub Overs-redomain : (names : ℕ → Text) (m : Slots) (k : ℕ) (new : List TextRange) (g : Sight) → Overs names m g → Overs names (redomain_slots k new m) g
Overs-redomain names m k new g o =
    Overs-kept names m (redomain_slots k new m)
    (λ j s r. elim (j == k) as (λ b. OverResolves names (if b then Plain (Domain new) else redomained_content k new (m j)) s)
    [ true ↦ tt | false ↦ redomained_content-resolves names k new (m j) s r ]) g o

pub Overs-without_frame : (names : ℕ → Text) (m : Slots) (g : Sight) → Overs names m g → Overs names m (without_frame g)
Overs-without_frame names m [] o = tt
Overs-without_frame names m (Mark ∷ g) o = o
Overs-without_frame names m (Name b ∷ g) o = Overs-without_frame names m g o.1

-- a declaration
module _ (names : ℕ → Text) (x : Bound) (c : Content Bound) (m : Slots) where
  Overs-fresh : (g : Sight) → IsFresh x.slot g → Overs names m g → Overs names (set_slot x.slot c m) g
  Overs-fresh [] h o = tt
  Overs-fresh (Mark ∷ g) h o = Overs-fresh g h o
  Overs-fresh (Name b ∷ g) h o = (subst (λ d. OverResolves names d g) (sym (set_slot_other b.slot x.slot c m (λ e. h.0 (sym e)))) o.0, Overs-fresh g h.1 o.1)

  pub Overs-declare : (g : Sight) → IsFresh x.slot g → Overs names m g → OverResolves names c g → Overs names (set_slot x.slot c m) (Name x ∷ g)
  Overs-declare g h o r = (subst (λ d. OverResolves names d g) (sym (set_slot_here x.slot c m)) r, Overs-fresh g h o)

-- A TEST of an array's domain name gives the same by its text and by its slot
both_or_none : (b c : Bool) → (b ≡ true → c ≡ true) → (c ≡ true → b ≡ true) → b ≡ c
both_or_none true c p q = sym (p refl)
both_or_none false true p q = q refl
both_or_none false false p q = refl

pub some_same : (j k : ℕ) → Some j ≡ Some k → j ≡ k
some_same j k e = cc

module _ (names : ℕ → Text) (x : Bound) (named : x.text ≡ names x.slot) (m : Slots) where
  -- one array's test
  abbrev TestSame : Content Bound → Type 0
  TestSame (Plain v) = Unit {0}
  TestSame (ArrayOf over kind rs vs) = is_over x.text (option_map text_of over) ≡ is_over_slot x.slot over
  TestSame (CellOf kind c) = Unit {0}

  -- it is over no such slot
  abbrev TestFails : Content Bound → Type 0
  TestFails (Plain v) = Unit {0}
  TestFails (ArrayOf over kind rs vs) = is_over_slot x.slot over ≡ false
  TestFails (CellOf kind c) = Unit {0}

  over-same : (over : Option Bound) (p : Sight) → OverNamed names over p → slot_of x.text p ≡ Some x.slot → is_over x.text (option_map text_of over) ≡ is_over_slot x.slot over
  over-same None p o e = refl
  over-same (Some y) p o e =
      both_or_none (bytes_eq x.text y.text) (x.slot == y.slot)
      (λ t. (Decides-eqb x.slot y.slot).1 (some_same x.slot y.slot (sym e ∙ ap (λ u. slot_of u p) ((bytes_eq-Decides x.text y.text).0 t) ∙ o.0)))
      (λ t. (bytes_eq-Decides x.text y.text).1 (named ∙ ap names ((Decides-eqb x.slot y.slot).0 t) ∙ sym o.1))

  over-fails : (over : Option Bound) (p : Sight) → OverNamed names over p → IsFresh x.slot p → is_over_slot x.slot over ≡ false
  over-fails None p o h = refl
  over-fails (Some y) p o h = other_slot x.slot y.slot (slot_of-apart y.text p x.slot y.slot h o.0)

  content-same : (c : Content Bound) (p : Sight) → OverResolves names c p → slot_of x.text p ≡ Some x.slot → TestSame c
  content-same (Plain v) p o e = tt
  content-same (ArrayOf over kind rs vs) p o e = over-same over p o e
  content-same (CellOf kind c) p o e = tt

  content-fails : (c : Content Bound) (p : Sight) → OverResolves names c p → IsFresh x.slot p → TestFails c
  content-fails (Plain v) p o h = tt
  content-fails (ArrayOf over kind rs vs) p o h = over-fails over p o h
  content-fails (CellOf kind c) p o h = tt

  -- ONE CONTENT
  redomained-same : (new : List TextRange) (c : Content Bound) → TestSame c → redomain_content x.text new (spelled c) ≡ spelled (redomained_content x.slot new c)
  redomained-same new (Plain v) t = refl
  redomained-same new (ArrayOf over kind rs vs) t = by_test spelled _ _ _ _ (ArrayOf over kind new (redomained kind rs vs new)) (ArrayOf over kind rs vs) t refl refl
  redomained-same new (CellOf kind c) t = refl

  redomained-stays : (new : List TextRange) (c : Content Bound) → TestFails c → redomained_content x.slot new c ≡ c
  redomained-stays new (Plain v) t = refl
  redomained-stays new (ArrayOf over kind rs vs) t = ap (λ b. if b then ArrayOf over kind new (redomained kind rs vs new) else ArrayOf over kind rs vs) t
  redomained-stays new (CellOf kind c) t = refl

  array-same : (c : Content Bound) → TestSame c → is_array_over x.text (spelled c) ≡ is_array_over_slot x.slot c
  array-same (Plain v) t = refl
  array-same (ArrayOf over kind rs vs) t = t
  array-same (CellOf kind c) t = refl

  array-fails : (c : Content Bound) → TestFails c → is_array_over_slot x.slot c ≡ false
  array-fails (Plain v) t = refl
  array-fails (ArrayOf over kind rs vs) t = t
  array-fails (CellOf kind c) t = refl

  redomain_slots-other : (new : List TextRange) (j : ℕ) → x.slot ≢ j → redomain_slots x.slot new m j ≡ redomained_content x.slot new (m j)
  redomain_slots-other new j ne = ap (λ b. if b then Plain (Domain new) else redomained_content x.slot new (m j)) (other_slot j x.slot (λ e. ne (sym e)))

  redomain_slots-here : (new : List TextRange) → redomain_slots x.slot new m x.slot ≡ Plain (Domain new)
  redomain_slots-here new = ap (λ b. if b then Plain (Domain new) else redomained_content x.slot new (m x.slot)) (same_slot x.slot)

  -- OUTSIDE: before the domain's declaration nothing changes
  same_outside : (new : List TextRange) (g : Sight) → IsFresh x.slot g → Overs names m g → SameIn (redomain_slots x.slot new m) m g
  same_outside new [] h o = tt
  same_outside new (Mark ∷ g) h o = same_outside new g h o
  same_outside new (Name b ∷ g) h o =
      (redomain_slots-other new b.slot h.0 ∙ redomained-stays new (m b.slot) (content-fails (m b.slot) g o.0 h.1), same_outside new g h.1 o.1)

  -- THE STORE
  pub redomain_in-slots : (new : List TextRange) (g : Sight) → IsApart g → Overs names m g → slot_of x.text g ≡ Some x.slot → redomain_in x.text new (store_at m g) ≡ store_at (redomain_slots x.slot new m) g
  redomain_in-slots new [] a o = λ e. cc
  redomain_in-slots new (Mark ∷ g) a o = λ e. ap (λ es. Opened ∷ es) (redomain_in-slots new g a o e)
  redomain_in-slots new (Name b ∷ g) a o =
      elim (bytes_eq x.text b.text) as (λ t. (if t then Some b.slot else slot_of x.text g) ≡ Some x.slot
      → (if t then Declared (record { name = b.text; content = Plain (Domain new) }) ∷ store_at m g
      else Declared (record { name = b.text; content = redomain_content x.text new (spelled (m b.slot)) }) ∷ redomain_in x.text new (store_at m g))
      ≡ store_at (redomain_slots x.slot new m) (Name b ∷ g)) [
        | true ↦ λ e.
            let at : b.slot ≡ x.slot = some_same b.slot x.slot e in
            ap (λ c. Declared (record { name = b.text; content = spelled c }) ∷ store_at m g) (sym (ap (redomain_slots x.slot new m) at ∙ redomain_slots-here new))
            ∙ ap (λ es. Declared (entry_at (redomain_slots x.slot new m) b) ∷ es)
            (sym (store_at-same (redomain_slots x.slot new m) m g (same_outside new g (subst (λ k. IsFresh k g) at a.0) o.1)))
        | false ↦ λ e.
            let apart : x.slot ≢ b.slot = λ same. slot_of-apart x.text g b.slot x.slot a.0 e (sym same) in
            ap (λ c. Declared (record { name = b.text; content = c }) ∷ redomain_in x.text new (store_at m g))
            (redomained-same new (m b.slot) (content-same (m b.slot) g o.0 e) ∙ ap spelled (sym (redomain_slots-other new b.slot apart)))
            ∙ ap (λ es. Declared (entry_at (redomain_slots x.slot new m) b) ∷ es) (redomain_in-slots new g a.1 o.1 e)
      ]

  -- WHETHER AN ARRAY IS OVER IT
  none_over_outside : (g : Sight) → IsFresh x.slot g → Overs names m g → any_over x.slot m g ≡ false
  none_over_outside [] h o = refl
  none_over_outside (Mark ∷ g) h o = none_over_outside g h o
  none_over_outside (Name b ∷ g) h o =
      ap (λ c. c || any_over x.slot m g) (array-fails (m b.slot) (content-fails (m b.slot) g o.0 h.1)) ∙ none_over_outside g h.1 o.1

  pub arrays_over-slots : (g : Sight) → IsApart g → Overs names m g → slot_of x.text g ≡ Some x.slot → arrays_over x.text (store_at m g) ≡ any_over x.slot m g
  arrays_over-slots [] a o = λ e. cc
  arrays_over-slots (Mark ∷ g) a o = arrays_over-slots g a o
  arrays_over-slots (Name b ∷ g) a o =
      elim (bytes_eq x.text b.text) as (λ t. (if t then Some b.slot else slot_of x.text g) ≡ Some x.slot
      → (if t then false else (is_array_over x.text (spelled (m b.slot)) || arrays_over x.text (store_at m g))) ≡ any_over x.slot m (Name b ∷ g)) [
        | true ↦ λ e.
            let fresh : IsFresh x.slot g = subst (λ k. IsFresh k g) (some_same b.slot x.slot e) a.0 in
            sym (ap (λ c. c || any_over x.slot m g) (array-fails (m b.slot) (content-fails (m b.slot) g o.0 fresh)) ∙ none_over_outside g fresh o.1)
        | false ↦ λ e.
            ap (λ c. c || arrays_over x.text (store_at m g)) (array-same (m b.slot) (content-same (m b.slot) g o.0 e))
            ∙ ap (λ c. is_array_over_slot x.slot (m b.slot) || c) (arrays_over-slots g a.1 o.1 e)
      ]
