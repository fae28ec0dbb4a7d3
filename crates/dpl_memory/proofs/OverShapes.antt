-- The arrays over a domain name are those in sight that are over it, and have its shape.
-- So where the domain is assigned a value of its shape, each of these arrays gets a domain of its own shape.
use Rattle.std.proofs.Common.{◌≡◌, ◌≢◌, ℕ, zero, suc, ◌+◌, Bool, true, false, List, [], ◌∷◌, ◌++◌, refl, sym, ap, ◌∙◌, subst, Some, None, Option, arith}
use Rattle.std.specs.Prelude.{◌==◌, ◌||◌, if◌then◌else◌, get_or}
use Rattle.std.proofs.lemmas.Bool.Decides.{Decides-eqb}
use Rattle.dpl_sets.specs.TextRanges.{TextRange}
use Rattle.dpl_agreement.proofs.Slots.{Bound as SlotBound, other_slot}
use Rattle.dpl_agreement.proofs.SlotDomains.{is_over_slot}
use Rattle.dpl_memory.specs.Memory.{VariableKind, PlainKind, DomainKind, TupleKind, ArrayKind, CellKind, Held, is_among, held_over_if, redomained_from}
use Rattle.dpl_memory.specs.Resolved.{Shape, Bound, Sighted, Sight, IsUnusedIn, IsUnused, bind, without_frame, is_over, arrays_in, arrays_over}
use Rattle.dpl_memory.proofs.InSight.{placed_over, Told, told_of, IsToldIn, IsTold, with_told, with_told_other}

-- A SLOT IN SIGHT is none that is unused
abbrev pub IsUsed : ℕ → Sight → Type 0
IsUsed slot fs = (j : ℕ) → IsUnused j fs → j ≢ slot

unused-before : (j : ℕ) (x : Sighted) (bs : List Sighted) → IsUnusedIn j (bs ++ x ∷ []) → IsUnusedIn j bs
unused-before j x [] h = tt
unused-before j x (b ∷ bs) h = (h.0, unused-before j x bs h.1)

unused-unbound : (j : ℕ) (x : Sighted) (fs : Sight) → IsUnused j (bind x fs) → IsUnused j fs
unused-unbound j x [] h = tt
unused-unbound j x (f ∷ fs) h = (unused-before j x f h.0, h.1)

used-bound : (slot : ℕ) (x : Sighted) (fs : Sight) → IsUsed slot fs → IsUsed slot (bind x fs)
used-bound slot x fs h j u = h j (unused-unbound j x fs u)

-- WHAT AN ARRAY IS OVER, as it is told: nothing, or a name whose slot is in sight. That of a domain is what is in sight of the
-- array, and it has the array's shape; of another name, as a range's, nothing is in sight.
abbrev pub KnownBy : VariableKind → Shape → SlotBound → Option Bound → Shape → Type 0
KnownBy DomainKind own z known shape = (placed_over known ≡ Some z) × (own ≡ shape)
KnownBy _ own z known shape = known ≡ None

abbrev pub OverKnown : (ℕ → Told) → Option SlotBound → Option Bound → Shape → Sight → Type 0
OverKnown told None known shape fs = known ≡ None
OverKnown told (Some z) known shape fs = IsUsed z.slot fs × KnownBy (told z.slot).kind (told z.slot).shape z known shape

-- of each name in sight, by the frames from its own outwards
abbrev pub OverShapedIn : (ℕ → Told) → Sight → List Sighted → Type 0
OverShapedIn told fs [] = Unit {0}
OverShapedIn told fs (b ∷ bs) = OverKnown told (told b.slot).over b.over b.shape fs × OverShapedIn told fs bs

abbrev pub OversShaped : (ℕ → Told) → Sight → Type 0
OversShaped told [] = Unit {0}
OversShaped told (f ∷ fs) = OverShapedIn told (f ∷ fs) f × OversShaped told fs

-- ONE MORE NAME, in a slot that was unused
module _ (told : ℕ → Told) (x : Sighted) (t : Told) where
  abbrev after : ℕ → Told
  after = with_told x.slot t told

  -- what is told of a slot in sight stays
  still : (slot : ℕ) (fs : Sight) → IsUnused x.slot fs → IsUsed slot fs → after slot ≡ told slot
  still slot fs u h = with_told_other slot x.slot t told (λ e. h x.slot u (sym e))

  pub known-after : (over : Option SlotBound) (known : Option Bound) (shape : Shape) (fs : Sight) → IsUnused x.slot fs → OverKnown told over known shape fs → OverKnown after over known shape fs
  known-after None known shape fs u h = h
  known-after (Some z) known shape fs u h = (h.0, subst (λ (t : Told). KnownBy t.kind t.shape z known shape) (sym (still z.slot fs u h.0)) h.1)

  known-bound : (over : Option SlotBound) (known : Option Bound) (shape : Shape) (fs : Sight) → OverKnown after over known shape fs → OverKnown after over known shape (bind x fs)
  known-bound None known shape fs h = h
  known-bound (Some z) known shape fs h = (used-bound z.slot x fs h.0, h.1)

  pub over-after : (over : Option SlotBound) (known : Option Bound) (shape : Shape) (fs : Sight) → IsUnused x.slot fs → OverKnown told over known shape fs → OverKnown after over known shape (bind x fs)
  over-after over known shape fs u h = known-bound over known shape fs (known-after over known shape fs u h)

  -- of a name with another slot, which is over what it was over
  name-after : (b : Sighted) (fs : Sight) → IsUnused x.slot fs → x.slot ≢ b.slot → OverKnown told (told b.slot).over b.over b.shape fs → OverKnown after (after b.slot).over b.over b.shape fs
  name-after b fs u apart h =
      subst (λ (t : Told). OverKnown after t.over b.over b.shape fs) (sym (with_told_other b.slot x.slot t told (λ e. apart (sym e)))) (known-after (told b.slot).over b.over b.shape fs u h)

  frame-outside : (bs : List Sighted) (fs : Sight) → IsUnused x.slot fs → IsUnusedIn x.slot bs → OverShapedIn told fs bs → OverShapedIn after fs bs
  frame-outside [] fs u i h = tt
  frame-outside (b ∷ bs) fs u i h = (name-after b fs u i.0 h.0, frame-outside bs fs u i.1 h.1)

  pub OversShaped-after : (fs : Sight) → IsUnused x.slot fs → OversShaped told fs → OversShaped after fs
  OversShaped-after [] u h = tt
  OversShaped-after (f ∷ fs) u h = (frame-outside f (f ∷ fs) u u.0 h.0, OversShaped-after fs u.1 h.1)

  abbrev Own : Sight → Type 0
  Own fs = OverKnown after (after x.slot).over x.over x.shape fs

  frame-after : (bs : List Sighted) (fs : Sight) → IsUnused x.slot fs → IsUnusedIn x.slot bs → OverShapedIn told fs bs → Own (bind x fs) → OverShapedIn after (bind x fs) (bs ++ x ∷ [])
  frame-after [] fs u i h own = (own, tt)
  frame-after (b ∷ bs) fs u i h own = (known-bound (after b.slot).over b.over b.shape fs (name-after b fs u i.0 h.0), frame-after bs fs u i.1 h.1 own)

  pub OversShaped-bind : (fs : Sight) → IsUnused x.slot fs → OversShaped told fs → Own (bind x fs) → OversShaped after (bind x fs)
  OversShaped-bind [] u h own = ((own, tt), tt)
  OversShaped-bind (f ∷ fs) u h own = (frame-after f (f ∷ fs) u u.0 h.0 own, OversShaped-after fs u.1 h.1)

pub OversShaped-without_frame : (told : ℕ → Told) (fs : Sight) → OversShaped told fs → OversShaped told (without_frame fs)
OversShaped-without_frame told [] h = tt
OversShaped-without_frame told (f ∷ fs) h = h.1

is_over-placed : (slot : ℕ) (over : Option Bound) → is_over_slot slot (placed_over over) ≡ is_over slot over
is_over-placed slot None = refl
is_over-placed slot (Some y) = refl

-- THE ARRAYS OVER A DOMAIN'S SLOT
module _ (told : ℕ → Told) (slot : ℕ) (domain : (told slot).kind ≡ DomainKind) where
  no_domain_there : (z : SlotBound) (k : VariableKind) (known : Option Bound) → (told z.slot).kind ≡ k → k ≢ DomainKind → known ≡ None → is_over_slot slot (Some z) ≡ is_over slot known
  no_domain_there z k known is other none = other_slot slot z.slot (λ same. other (sym is ∙ ap (λ j. (told j).kind) (sym same) ∙ domain)) ∙ sym (ap (is_over slot) none)

  -- they are those in sight that are over it
  pub over-slot : (over : Option SlotBound) (known : Option Bound) (shape : Shape) (fs : Sight) → OverKnown told over known shape fs → is_over_slot slot over ≡ is_over slot known
  over-slot None known shape fs h = sym (ap (is_over slot) h)
  over-slot (Some z) known shape fs h = by (told z.slot).kind refl h.1
    where
      by : (k : VariableKind) → (told z.slot).kind ≡ k → KnownBy k (told z.slot).shape z known shape → is_over_slot slot (Some z) ≡ is_over slot known
      by (PlainKind l) is h = no_domain_there z (PlainKind l) known is (λ e. cc) h
      by DomainKind is h = ap (is_over_slot slot) (sym h.0) ∙ is_over-placed slot known
      by TupleKind is h = no_domain_there z TupleKind known is (λ e. cc) h
      by (ArrayKind l) is h = no_domain_there z (ArrayKind l) known is (λ e. cc) h
      by (CellKind l) is h = no_domain_there z (CellKind l) known is (λ e. cc) h

  -- and have its shape
  abbrev IsAlike : ℕ → Type 0
  IsAlike j = (told j).shape ≡ (told slot).shape

  over-shape : (over : Option SlotBound) (known : Option Bound) (shape : Shape) (fs : Sight) → OverKnown told over known shape fs → is_over slot known ≡ true → shape ≡ (told slot).shape
  over-shape None known shape fs h e = absurd (let f : false ≡ true = sym (ap (is_over slot) h) ∙ e in cc)
  over-shape (Some z) known shape fs h e = by (told z.slot).kind h.1
    where
      same : slot ≡ z.slot
      same = (Decides-eqb slot z.slot).0 (over-slot (Some z) known shape fs h ∙ e)

      not_over : known ≡ None → shape ≡ (told slot).shape
      not_over none = absurd (let f : false ≡ true = sym (ap (is_over slot) none) ∙ e in cc)

      by : (k : VariableKind) → KnownBy k (told z.slot).shape z known shape → shape ≡ (told slot).shape
      by DomainKind h = sym h.1 ∙ ap (λ j. (told j).shape) (sym same)
      by _ h = not_over h

  either : (j i : ℕ) (c : Bool) → IsAlike i → (c ≡ true → IsAlike j) → ((j == i) || c) ≡ true → IsAlike j
  either j i c here rest =
      (elim (j == i) as (λ b. (b ≡ true → j ≡ i) → (b || c) ≡ true → IsAlike j) [ true ↦ λ same e. subst IsAlike (sym (same refl)) here | false ↦ λ same e. rest e ]) (Decides-eqb j i).0

  over-alike : (b : Sighted) (fs : Sight) → told b.slot ≡ told_of b (told b.slot).over → OverKnown told (told b.slot).over b.over b.shape fs → is_over slot b.over ≡ true → IsAlike b.slot
  over-alike b fs t h e = ap (λ (u : Told). u.shape) t ∙ over-shape (told b.slot).over b.over b.shape fs h e

  in-frame : (j : ℕ) (slots : ℕ) (bs : List Sighted) (fs : Sight) → IsToldIn told slots bs → OverShapedIn told fs bs → is_among j (arrays_in slot bs) ≡ true → IsAlike j
  in-frame j slots [] fs t h = λ e. cc
  in-frame j slots (b ∷ bs) fs t h =
      (elim (is_over slot b.over) as (λ c. (c ≡ true → IsAlike b.slot) → is_among j (if c then b.slot ∷ arrays_in slot bs else arrays_in slot bs) ≡ true → IsAlike j) [
        | true ↦ λ over e. either j b.slot (is_among j (arrays_in slot bs)) (over refl) (in-frame j slots bs fs t.2 h.1) e
        | false ↦ λ over e. in-frame j slots bs fs t.2 h.1 e
      ]) (over-alike b fs t.0 h.0)

  among-append : (j : ℕ) (xs ys : List ℕ) → (is_among j xs ≡ true → IsAlike j) → (is_among j ys ≡ true → IsAlike j) → is_among j (xs ++ ys) ≡ true → IsAlike j
  among-append j [] ys p q = q
  among-append j (x ∷ xs) ys p q =
      (elim (j == x) as (λ b. ((b || is_among j xs) ≡ true → IsAlike j) → (b || is_among j (xs ++ ys)) ≡ true → IsAlike j) [ true ↦ λ p e. p refl | false ↦ λ p e. among-append j xs ys p q e ]) p

  pub arrays-shaped : (j : ℕ) (slots : ℕ) (fs : Sight) → IsTold told slots fs → OversShaped told fs → is_among j (arrays_over slot fs) ≡ true → IsAlike j
  arrays-shaped j slots [] t h = λ e. cc
  arrays-shaped j slots (f ∷ fs) t h =
      among-append j (arrays_in slot f) (arrays_over slot fs) (in-frame j slots f (f ∷ fs) t.0 h.0) (arrays-shaped j slots fs t.1 h.1)

-- ANOTHER DOMAIN for the arrays in some slots: what is true of it, and of the old one of the others, is true of each
over-ranges : (P : List TextRange → Type 0) (rs : List TextRange) (a : Held) (c : Bool) → (c ≡ true → P rs) → P a.ranges → P (held_over_if c rs a).ranges
over-ranges P rs a true new old = new refl
over-ranges P rs a false new old = old

pub ranges-redomained : (P : List TextRange → Type 0) (first : ℕ) (slots : List ℕ) (rs : List TextRange) (xs : List Held) (j : ℕ) (d : Held) → (is_among (first + j) slots ≡ true → P rs)
    → P (get_or xs j d).ranges → P (get_or (redomained_from first slots rs xs) j d).ranges
ranges-redomained P first slots rs [] j d new old = old
ranges-redomained P first slots rs (a ∷ xs) zero d new old =
    let here : first + 0 ≡ first = omega arith in
    over-ranges P rs a (is_among first slots) (subst (λ n. is_among n slots ≡ true → P rs) here new) old
ranges-redomained P first slots rs (a ∷ xs) (suc j) d new old =
    let there : first + suc j ≡ (first + 1) + j = omega arith in
    ranges-redomained P (first + 1) slots rs xs j d (subst (λ n. is_among n slots ≡ true → P rs) there new) old
