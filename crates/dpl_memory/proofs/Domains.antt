-- The arrays over a domain name: those of which it is known where the name is assigned are those that the slots tell.
-- A memory in which these have another domain is the slots in which they have it.
use Rattle.std.proofs.Common.{◌≡◌, ◌≢◌, ℕ, ◌<◌, ◌+◌, zero, suc, Bool, true, false, List, [], ◌∷◌, ◌++◌, refl, sym, ap, ◌∙◌, subst, Some, None, Option, length, map, arith}
use Rattle.std.specs.Prelude.{◌==◌, ◌||◌, if◌then◌else◌, get_or, set}
use Rattle.std.proofs.lemmas.Bool.Decides.{Decides-eqb}
use Rattle.std.proofs.lemmas.List.{get_or-set_same, get_or-set_other, length-set}
use Rattle.dpl_sets.specs.TextRanges.{TextRange}
use Rattle.dpl_language.specs.Tree.{Kind}
use Rattle.dpl_language.specs.Values.{Domain}
use Rattle.dpl_language.specs.Environment.{Content, Plain, ArrayOf, CellOf}
use Rattle.dpl_language.specs.Names.{Text, redomained}
use Rattle.dpl_agreement.proofs.Slots.{Sight as SlotSight, Bound as SlotBound, Mark, Name, IsFresh, Slots, SameIn, store_at, store_at-same, same_slot, other_slot, slot_of-apart}
use Rattle.dpl_agreement.proofs.SlotDomains.{is_over_slot, is_array_over_slot, redomained_content, redomain_slots, any_over, OverNamed, OverResolves, Overs}
use Rattle.dpl_memory.specs.Memory.{VariableKind, PlainKind, DomainKind, TupleKind, ArrayKind, CellKind, Variable, Held, Memory, no_domain, no_array, is_among, held_over_if, redomained_from, redomained_in, is_some_array, element_as, array_at}
use Rattle.dpl_memory.specs.Resolved.{Bound, Sighted, Sight, IsUnusedIn, IsUnused, is_over, arrays_in, arrays_over, HasSlots, array_content, content_in}
use Rattle.dpl_memory.proofs.Elements.{redomained-words}
use Rattle.dpl_memory.proofs.Wholes.{IsWholeArray, AreWhole}
use Rattle.dpl_memory.proofs.InSight.{placed_name, with_names, in_slots, IsApartFrame, AreApart, Told, IsToldIn, IsTold, contents}
use Rattle.dpl_memory.proofs.OverShapes.{OverShapedIn, OversShaped, over-slot}

-- OTHER TEXTS for a slot that no name in sight has
module _ (names more : ℕ → Text) (slot : ℕ) (same : (j : ℕ) → j ≢ slot → more j ≡ names j) where
  pub OverNamed-texts : (over : Option SlotBound) (p : SlotSight) → IsFresh slot p → OverNamed names over p → OverNamed more over p
  OverNamed-texts None p h o = tt
  OverNamed-texts (Some y) p h o = (o.0, o.1 ∙ sym (same y.slot (λ e. slot_of-apart y.text p slot y.slot h o.0 (sym e))))

  OverResolves-texts : (c : Content SlotBound) (p : SlotSight) → IsFresh slot p → OverResolves names c p → OverResolves more c p
  OverResolves-texts (Plain v) p h o = tt
  OverResolves-texts (ArrayOf over k rs vs) p h o = OverNamed-texts over p h o
  OverResolves-texts (CellOf k c) p h o = tt

  pub Overs-texts : (m : Slots) (g : SlotSight) → IsFresh slot g → Overs names m g → Overs more m g
  Overs-texts m [] h o = tt
  Overs-texts m (Mark ∷ g) h o = Overs-texts m g h o
  Overs-texts m (Name b ∷ g) h o = (OverResolves-texts (m b.slot) g h.1 o.0, Overs-texts m g h.1 o.1)

-- NAMES THAT ARE NO ARRAYS are over nothing
abbrev pub OverFits : VariableKind → Option Bound → Type 0
OverFits (ArrayKind k) over = Unit {0}
OverFits _ over = over ≡ None

abbrev pub FitIn : List Sighted → Type 0
FitIn [] = Unit {0}
FitIn (b ∷ bs) = OverFits b.kind b.over × FitIn bs

abbrev pub Fit : Sight → Type 0
Fit [] = Unit {0}
Fit (f ∷ fs) = FitIn f × Fit fs

-- WHICH SLOTS ARE AMONG THEM
is_among-append : (j : ℕ) (xs ys : List ℕ) → is_among j (xs ++ ys) ≡ (is_among j xs || is_among j ys)
is_among-append j [] ys = refl
is_among-append j (x ∷ xs) ys = ap (λ b. (j == x) || b) (is_among-append j xs ys) ∙ or_assoc (j == x) (is_among j xs) (is_among j ys)
  where
    or_assoc : (a b c : Bool) → (a || (b || c)) ≡ ((a || b) || c)
    or_assoc true b c = refl
    or_assoc false b c = refl

module _ (slot : ℕ) where
  unused-not_among : (j : ℕ) (bs : List Sighted) → IsUnusedIn j bs → is_among j (arrays_in slot bs) ≡ false
  unused-not_among j [] h = refl
  unused-not_among j (b ∷ bs) h =
      elim (is_over slot b.over) as (λ t. is_among j (if t then b.slot ∷ arrays_in slot bs else arrays_in slot bs) ≡ false)
      [ true ↦ ap (λ t. t || is_among j (arrays_in slot bs)) (other_slot j b.slot h.0) ∙ unused-not_among j bs h.1 | false ↦ unused-not_among j bs h.1 ]

  unused-none_over : (j : ℕ) (fs : Sight) → IsUnused j fs → is_among j (arrays_over slot fs) ≡ false
  unused-none_over j [] h = refl
  unused-none_over j (f ∷ fs) h =
      is_among-append j (arrays_in slot f) (arrays_over slot fs) ∙ ap (λ t. t || is_among j (arrays_over slot fs)) (unused-not_among j f h.0) ∙ unused-none_over j fs h.1

  -- some slots tell of each name in sight whether it is over this one
  abbrev TellsIn : List ℕ → List Sighted → Type 0
  TellsIn xs [] = Unit {0}
  TellsIn xs (b ∷ bs) = (is_among b.slot xs ≡ is_over slot b.over) × TellsIn xs bs

  abbrev pub Tells : List ℕ → Sight → Type 0
  Tells xs [] = Unit {0}
  Tells xs (f ∷ fs) = TellsIn xs f × Tells xs fs

  -- one more that no name has
  TellsIn-more : (k : ℕ) (xs : List ℕ) (bs : List Sighted) → IsUnusedIn k bs → TellsIn xs bs → TellsIn (k ∷ xs) bs
  TellsIn-more k xs [] h t = tt
  TellsIn-more k xs (b ∷ bs) h t = (ap (λ c. c || is_among b.slot xs) (other_slot b.slot k (λ e. h.0 (sym e))) ∙ t.0, TellsIn-more k xs bs h.1 t.1)

  Tells-more : (k : ℕ) (xs : List ℕ) (fs : Sight) → IsUnused k fs → Tells xs fs → Tells (k ∷ xs) fs
  Tells-more k xs [] h t = tt
  Tells-more k xs (f ∷ fs) h t = (TellsIn-more k xs f h.0 t.0, Tells-more k xs fs h.1 t.1)

  -- those of a frame before those of the frames outside
  Tells-frame : (bs : List Sighted) (xs : List ℕ) (fs : Sight) → IsApartFrame bs fs → Tells xs fs → Tells (arrays_in slot bs ++ xs) fs
  Tells-frame [] xs fs a t = t
  Tells-frame (b ∷ bs) xs fs a t =
      elim (is_over slot b.over) as (λ c. Tells ((if c then b.slot ∷ arrays_in slot bs else arrays_in slot bs) ++ xs) fs)
      [ true ↦ Tells-more b.slot (arrays_in slot bs ++ xs) fs a.1 (Tells-frame bs xs fs a.2 t) | false ↦ Tells-frame bs xs fs a.2 t ]

  -- in their own frame
  TellsIn-own : (bs : List Sighted) (g : Sight) → IsApartFrame bs g → TellsIn (arrays_in slot bs) bs
  TellsIn-own [] g a = tt
  TellsIn-own (b ∷ bs) g a =
      elim (is_over slot b.over) as (λ c. (is_among b.slot (if c then b.slot ∷ arrays_in slot bs else arrays_in slot bs) ≡ c) × TellsIn (if c then b.slot ∷ arrays_in slot bs else arrays_in slot bs) bs) [
        | true ↦ (ap (λ t. t || is_among b.slot (arrays_in slot bs)) (same_slot b.slot), TellsIn-more b.slot (arrays_in slot bs) bs a.0 (TellsIn-own bs g a.2))
        | false ↦ (unused-not_among b.slot bs a.0, TellsIn-own bs g a.2)
      ]

  -- behind them some that no name of the frame has
  TellsIn-behind : (xs : List ℕ) (bs : List Sighted) (fs : Sight) → IsApartFrame bs fs → TellsIn xs bs → TellsIn (xs ++ arrays_over slot fs) bs
  TellsIn-behind xs [] fs a t = tt
  TellsIn-behind xs (b ∷ bs) fs a t = (
    is_among-append b.slot xs (arrays_over slot fs) ∙ ap (λ c. is_among b.slot xs || c) (unused-none_over b.slot fs a.1) ∙ or_false (is_among b.slot xs) ∙ t.0,
    TellsIn-behind xs bs fs a.2 t.1,
  )
    where
      or_false : (c : Bool) → (c || false) ≡ c
      or_false true = refl
      or_false false = refl

  pub arrays_over-tells : (fs : Sight) → AreApart fs → Tells (arrays_over slot fs) fs
  arrays_over-tells [] a = tt
  arrays_over-tells (f ∷ fs) a = (
    TellsIn-behind (arrays_in slot f) f fs a.0 (TellsIn-own f fs a.0),
    Tells-frame f (arrays_over slot fs) fs a.0 (arrays_over-tells fs a.1),
  )

-- WHETHER THERE IS ONE
is_some-append : (xs ys : List ℕ) → is_some_array (xs ++ ys) ≡ (is_some_array xs || is_some_array ys)
is_some-append [] ys = refl
is_some-append (x ∷ xs) ys = refl

content-over : (slot : ℕ) (k : VariableKind) (j : ℕ) (over : Option SlotBound) (known : Option Bound) (s : Memory) → OverFits k known → is_over_slot slot over ≡ is_over slot known
    → is_array_over_slot slot (content_in k j over s) ≡ is_over slot known
content-over slot (ArrayKind k) j over known s h e = e
content-over slot _ j over known s h e = sym (ap (is_over slot) h)

module _ (slot slots : ℕ) (told : ℕ → Told) (s : Memory) (domain : (told slot).kind ≡ DomainKind) where
  any_over-names : (bs : List Sighted) (fs : Sight) (g : SlotSight) → IsToldIn told slots bs → FitIn bs → OverShapedIn told fs bs
      → any_over slot (contents told s) (with_names bs g) ≡ (is_some_array (arrays_in slot bs) || any_over slot (contents told s) g)
  any_over-names [] fs g h f o = refl
  any_over-names (b ∷ bs) fs g h f o =
      any_over-names bs fs (Name (placed_name b) ∷ g) h.2 f.1 o.1
      ∙ ap (λ c. is_some_array (arrays_in slot bs) || (c || any_over slot (contents told s) g))
      (content-over slot (told b.slot).kind b.slot (told b.slot).over b.over s (subst (λ (t : Told). OverFits t.kind b.over) (sym h.0) f.0) (over-slot told slot domain (told b.slot).over b.over b.shape fs o.0))
      ∙ (elim (is_over slot b.over) as (λ c. (is_some_array (arrays_in slot bs) || (c || any_over slot (contents told s) g)) ≡ (is_some_array (if c then b.slot ∷ arrays_in slot bs else arrays_in slot bs) || any_over slot (contents told s) g))
      [ true ↦ or_true (is_some_array (arrays_in slot bs)) | false ↦ refl ])
    where
      or_true : (c : Bool) → (c || true) ≡ true
      or_true true = refl
      or_true false = refl

  pub any_over-told : (fs : Sight) → IsTold told slots fs → Fit fs → OversShaped told fs → any_over slot (contents told s) (in_slots fs) ≡ is_some_array (arrays_over slot fs)
  any_over-told [] h f o = refl
  any_over-told (bs ∷ fs) h f o =
      any_over-names bs (bs ∷ fs) (Mark ∷ in_slots fs) h.0 f.0 o.0
      ∙ ap (λ c. is_some_array (arrays_in slot bs) || c) (any_over-told fs h.1 f.1 o.1)
      ∙ sym (is_some-append (arrays_in slot bs) (arrays_over slot fs))

-- ANOTHER DOMAIN for the arrays in some slots
pub length-redomained : (first : ℕ) (slots : List ℕ) (rs : List TextRange) (xs : List Held) → length (redomained_from first slots rs xs) ≡ length xs
length-redomained first slots rs [] = refl
length-redomained first slots rs (a ∷ xs) = ap suc (length-redomained (first + 1) slots rs xs)

get_or-redomained : (first : ℕ) (slots : List ℕ) (rs : List TextRange) (xs : List Held) (j : ℕ) (d : Held) → j < length xs
    → get_or (redomained_from first slots rs xs) j d ≡ held_over_if (is_among (first + j) slots) rs (get_or xs j d)
get_or-redomained first slots rs [] j d lt = absurd (omega arith)
get_or-redomained first slots rs (a ∷ xs) zero d lt = ap (λ n. held_over_if (is_among n slots) rs a) (omega arith)
get_or-redomained first slots rs (a ∷ xs) (suc j) d lt =
    get_or-redomained (first + 1) slots rs xs j d (omega arith) ∙ ap (λ n. held_over_if (is_among n slots) rs (get_or xs j d)) (omega arith)

held-redomained : (slot : ℕ) (k : Kind) (over : Option SlotBound) (rs : List TextRange) (a : Held) (c : Bool) → IsWholeArray a → c ≡ is_over_slot slot over
    → redomained_content slot rs (array_content over k a) ≡ array_content over k (held_over_if c rs a)
held-redomained slot k over rs a c whole e =
    ap (λ t. if t then ArrayOf over k rs (redomained k a.ranges (map (element_as k) a.words) rs) else array_content over k a) (sym e) ∙ by c
  where
    by : (c : Bool) → (if c then ArrayOf over k rs (redomained k a.ranges (map (element_as k) a.words) rs) else array_content over k a) ≡ array_content over k (held_over_if c rs a)
    by true = ap (λ vs. ArrayOf over k rs vs) (redomained-words k a rs whole)
    by false = refl

module _ (x : Variable) (rs : List TextRange) (slots : ℕ) (s : Memory) (h : HasSlots slots s) (whole : AreWhole s) (domain : x.kind ≡ DomainKind) where
  abbrev new : Memory
  new = redomained_in x rs s

  -- the memory behind it, where the variable is a domain
  abbrev by_domain : Memory
  by_domain = record s { domains = set s.domains x.slot rs; arrays = redomained_from 0 x.along rs s.arrays }

  new-domain : new ≡ by_domain
  new-domain = ap (λ k. redomained_in (record { kind = k; slot = x.slot; along = x.along; cells = x.cells }) rs s) domain

  pub redomained-slots : HasSlots slots new
  redomained-slots = subst (HasSlots slots) (sym new-domain) (record {
    numbers = h.numbers;
    ranges = h.ranges;
    domains = length-set s.domains x.slot rs ∙ h.domains;
    tuples = h.tuples;
    arrays = length-redomained 0 x.along rs s.arrays ∙ h.arrays;
    roots = h.roots;
  })

  pub redomained-intents : new.words ≡ s.words
  redomained-intents = ap (λ (m : Memory). m.words) new-domain

  -- in the domain's own slot, and in another one
  content-here : (over : Option SlotBound) → x.slot < slots → content_in DomainKind x.slot over by_domain ≡ Plain (Domain rs)
  content-here over within = ap (λ rs. Plain (Domain rs)) (get_or-set_same s.domains x.slot rs no_domain (subst (λ n. x.slot < n) (sym h.domains) within))

  content-other : (k : VariableKind) (j : ℕ) (over : Option SlotBound) → j ≢ x.slot → j < slots → is_among j x.along ≡ is_over_slot x.slot over
      → redomained_content x.slot rs (content_in k j over s) ≡ content_in k j over by_domain
  content-other (PlainKind k) j over ne within e = refl
  content-other DomainKind j over ne within e = ap (λ rs. Plain (Domain rs)) (sym (get_or-set_other s.domains x.slot j rs no_domain ne))
  content-other TupleKind j over ne within e = refl
  content-other (ArrayKind k) j over ne within e =
      let from_zero : j ≡ 0 + j = omega arith in
      held-redomained x.slot k over rs (array_at j s) (is_among j x.along) (whole j) e
      ∙ ap (λ n. array_content over k (held_over_if (is_among n x.along) rs (array_at j s))) from_zero
      ∙ ap (array_content over k) (sym (get_or-redomained 0 x.along rs s.arrays j no_array (subst (λ n. j < n) (sym h.arrays) within)))
  content-other (CellKind k) j over ne within e = refl

  module _ (told : ℕ → Told) where
    name-redomained : (b : Sighted) → is_over_slot x.slot (told b.slot).over ≡ is_over x.slot b.over → b.slot < slots → (told x.slot).kind ≡ DomainKind → x.slot < slots → is_among b.slot x.along ≡ is_over x.slot b.over
        → redomain_slots x.slot rs (contents told s) b.slot ≡ contents told new b.slot
    name-redomained b t within d inside e =
        (elim (b.slot == x.slot) as (λ c. (c ≡ true → b.slot ≡ x.slot) → (b.slot ≡ x.slot → c ≡ true) → (if c then Plain (Domain rs) else redomained_content x.slot rs (contents told s b.slot)) ≡ contents told new b.slot) [
          | true ↦ λ p i.
              sym (ap (contents told new) (p refl) ∙ ap (λ k. content_in k x.slot (told x.slot).over new) d ∙ ap (content_in DomainKind x.slot (told x.slot).over) new-domain ∙ content-here (told x.slot).over inside)
          | false ↦ λ p i.
              content-other (told b.slot).kind b.slot (told b.slot).over (λ same. let no = i same in cc) within
              (e ∙ sym t)
              ∙ ap (content_in (told b.slot).kind b.slot (told b.slot).over) (sym new-domain)
        ]) (Decides-eqb b.slot x.slot).0 (Decides-eqb b.slot x.slot).1

    frame-redomained : (bs : List Sighted) (fs : Sight) (g : SlotSight) → IsToldIn told slots bs → OverShapedIn told fs bs → (told x.slot).kind ≡ DomainKind → x.slot < slots → TellsIn x.slot x.along bs
        → SameIn (redomain_slots x.slot rs (contents told s)) (contents told new) g → SameIn (redomain_slots x.slot rs (contents told s)) (contents told new) (with_names bs g)
    frame-redomained [] fs g t o d inside e same = same
    frame-redomained (b ∷ bs) fs g t o d inside e same =
        frame-redomained bs fs (Name (placed_name b) ∷ g) t.2 o.1 d inside e.1
        (name-redomained b (over-slot told x.slot d (told b.slot).over b.over b.shape fs o.0) t.1 d inside e.0, same)

    -- all names in sight
    sight-redomained : (fs : Sight) → IsTold told slots fs → OversShaped told fs → (told x.slot).kind ≡ DomainKind → x.slot < slots → Tells x.slot x.along fs
        → SameIn (redomain_slots x.slot rs (contents told s)) (contents told new) (in_slots fs)
    sight-redomained [] t o d inside e = tt
    sight-redomained (f ∷ fs) t o d inside e =
        frame-redomained f (f ∷ fs) (Mark ∷ in_slots fs) t.0 o.0 d inside e.0 (sight-redomained fs t.1 o.1 d inside e.1)

    pub store-redomained : (fs : Sight) → IsTold told slots fs → OversShaped told fs → (told x.slot).kind ≡ DomainKind → x.slot < slots → Tells x.slot x.along fs
        → store_at (redomain_slots x.slot rs (contents told s)) (in_slots fs) ≡ store_at (contents told new) (in_slots fs)
    store-redomained fs t o d inside e = store_at-same _ _ (in_slots fs) (sight-redomained fs t o d inside e)
