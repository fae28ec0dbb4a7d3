-- Shapes of values: what is put into a slot keeps its shape there, and where one slot changes all others keep theirs.
-- So in a memory that a program reaches each name in sight has a value of its shape.
use Rattle.std.proofs.Common.{◌≡◌, ◌≢◌, ℕ, ◌<◌, ℤ, Bool, true, false, List, [], ◌∷◌, refl, sym, ap, ◌∙◌, subst, Some, None, Option, ◌+◌, arith}
use Rattle.std.specs.Prelude.{◌==◌, option_map}
use Rattle.std.proofs.lemmas.Bool.Decides.{Decides-eqb}
use Rattle.std.proofs.lemmas.List.{get_or-set_same}
use Rattle.dpl_sets.specs.TextRanges.{TextRange}
use Rattle.dpl_language.specs.Tree.{Op, Kind, Assign, Set, SetReduce}
use Rattle.dpl_language.specs.Values.{Value, Range, Array, Cell, Index, kept_number}
use Rattle.dpl_language.specs.Arithmetic.{assigned}
use Rattle.dpl_language.specs.Environment.{Content, Plain, ArrayOf, CellOf}
use Rattle.dpl_agreement.proofs.Slots.{Bound as SlotBound}
use Rattle.dpl_sound.specs.Typed.{MayStride, AreRanked}
use Rattle.dpl_words.specs.Words.{LeafKind, IntLeaf, TruthLeaf, RangeLeaf, LocaleLeaf, no_range, given_as}
use Rattle.dpl_language.specs.Distributions.{Root}
use Rattle.dpl_memory.specs.Memory.{with_root, VariableKind, PlainKind, DomainKind, TupleKind, ArrayKind, CellKind, Held, Coming, Memory, no_array, array_at, with_array, held_with, is_among, redomained_from, declared_array, value_in, with_value_in, with_element_in, intended}
use Rattle.dpl_memory.specs.Resolved.{Shape, IsOf, IsWhole, MaySpan, HasShape, kind_takes, KindCombines, HasSlots, content_in}
use Rattle.dpl_memory.proofs.Roots.{content_in-root}
use Rattle.dpl_memory.proofs.OfKind.{content_in-set_same, content_in-intend, content_in-moved}
use Rattle.dpl_memory.proofs.InSight.{Told, with_told, with_told_here, with_told_other}
use Rattle.dpl_memory.proofs.OverShapes.{ranges-redomained}

-- EACH SLOT has a value of the shape that is told of it
abbrev pub HasToldShape : Told → ℕ → Memory → Type 0
HasToldShape t j s = HasShape t.kind t.shape (value_in t.kind j s)

abbrev pub IsShapedBy : (ℕ → Told) → Memory → Type 0
IsShapedBy told s = (j : ℕ) → HasToldShape (told j) j s

pub told-shaped : (k : VariableKind) (shape : Shape) (t : Told) (j : ℕ) (s : Memory) → t.kind ≡ k → t.shape ≡ shape → HasToldShape t j s → HasShape k shape (value_in k j s)
told-shaped k shape t j s kind is h = subst (λ k. HasShape k shape (value_in k j s)) kind (subst (λ shape. HasShape t.kind shape (value_in t.kind j s)) is h)

pub shaped-told : (k : VariableKind) (shape : Shape) (t : Told) (j : ℕ) (s : Memory) → t.kind ≡ k → t.shape ≡ shape → HasShape k shape (value_in k j s) → HasToldShape t j s
shaped-told k shape t j s kind is h = subst (λ shape. HasShape t.kind shape (value_in t.kind j s)) (sym is) (subst (λ k. HasShape k shape (value_in k j s)) (sym kind) h)

-- WHAT A SLOT HOLDS, by its content
abbrev content_value : Content SlotBound → Value
content_value (Plain v) = v
content_value (ArrayOf over k rs vs) = Array k rs
content_value (CellOf k c) = Cell k

value_in-content : (k : VariableKind) (j : ℕ) (s : Memory) → content_value (content_in k j None s) ≡ value_in k j s
value_in-content (PlainKind k) j s = refl
value_in-content _ j s = refl

content-same : (k : VariableKind) (j : ℕ) (s u : Memory) → content_in {N = SlotBound} k j None u ≡ content_in {N = SlotBound} k j None s → value_in k j s ≡ value_in k j u
content-same k j s u e = sym (value_in-content k j s) ∙ ap content_value (sym e) ∙ value_in-content k j u

-- ONE SLOT CHANGED
abbrev Keeps : ℕ → Memory → Memory → Type 0
Keeps slot s u = (k : VariableKind) (j : ℕ) (over : Option SlotBound) → j ≢ slot → content_in k j over u ≡ content_in k j over s

kept-shape : (t : Told) (j : ℕ) (s u : Memory) → content_in {N = SlotBound} t.kind j None u ≡ content_in {N = SlotBound} t.kind j None s → HasToldShape t j s → HasToldShape t j u
kept-shape t j s u e h = subst (HasShape t.kind t.shape) (content-same t.kind j s u e) h

pub shaped-changed : (told : ℕ → Told) (slot : ℕ) (s u : Memory) → IsShapedBy told s → Keeps slot s u → HasToldShape (told slot) slot u → IsShapedBy told u
shaped-changed told slot s u h other here j =
    (elim (j == slot) as (λ t. (t ≡ true → j ≡ slot) → (j ≡ slot → t ≡ true) → HasToldShape (told j) j u) [
      | true ↦ λ is e. subst (λ i. HasToldShape (told i) i u) (sym (is refl)) here
      | false ↦ λ is e. kept-shape (told j) j s u (other (told j).kind j None (λ same. let f : false ≡ true = e same in cc)) (h j)
    ]) (Decides-eqb j slot).0 (Decides-eqb j slot).1

-- and something else told of it
pub shaped-declared : (told : ℕ → Told) (slot : ℕ) (t : Told) (s u : Memory) → IsShapedBy told s → Keeps slot s u → HasToldShape t slot u → IsShapedBy (with_told slot t told) u
shaped-declared told slot t s u h other here j =
    (elim (j == slot) as (λ b. (b ≡ true → j ≡ slot) → (j ≡ slot → b ≡ true) → HasToldShape (with_told slot t told j) j u) [
      | true ↦ λ is e. subst (λ i. HasToldShape (with_told slot t told i) i u) (sym (is refl)) (subst (λ t. HasToldShape t slot u) (sym (with_told_here slot t told)) here)
      | false ↦ λ is e.
          let apart : j ≢ slot = λ same. let f : false ≡ true = e same in cc in
          subst (λ t. HasToldShape t j u) (sym (with_told_other j slot t told apart)) (kept-shape (told j) j s u (other (told j).kind j None apart) (h j))
    ]) (Decides-eqb j slot).0 (Decides-eqb j slot).1

-- A VALUE THAT IS PUT is of its shape there; of a whole array nothing is put, and it keeps its domain
set-value : (k : VariableKind) (slot : ℕ) (v : Value) (slots : ℕ) (s : Memory) → IsOf k v → (IsWhole k → ⊥) → HasSlots slots s → slot < slots → v ≡ value_in k slot (with_value_in k slot v s)
set-value k slot v slots s p n h within =
    ap content_value (sym (content_in-set_same {N = SlotBound} k slot None v slots s p n h within)) ∙ value_in-content k slot (with_value_in k slot v s)

pub shaped-set : (k : VariableKind) (shape : Shape) (slot : ℕ) (v : Value) (slots : ℕ) (s : Memory) → ((IsWhole k → ⊥) → IsOf k v) → ((IsWhole k → ⊥) → HasShape k shape v) → (IsWhole k → HasShape k shape (value_in k slot s))
    → HasSlots slots s → slot < slots → HasShape k shape (value_in k slot (with_value_in k slot v s))
shaped-set (PlainKind k) shape slot v slots s p q old h within = subst (HasShape (PlainKind k) shape) (set-value (PlainKind k) slot v slots s (p (λ e. e)) (λ e. e) h within) (q (λ e. e))
shaped-set DomainKind shape slot v slots s p q old h within = subst (HasShape DomainKind shape) (set-value DomainKind slot v slots s (p (λ e. e)) (λ e. e) h within) (q (λ e. e))
shaped-set TupleKind shape slot v slots s p q old h within = subst (HasShape TupleKind shape) (set-value TupleKind slot v slots s (p (λ e. e)) (λ e. e) h within) (q (λ e. e))
shaped-set (ArrayKind k) shape slot v slots s p q old h within = old tt
shaped-set (CellKind k) shape slot v slots s p q old h within = tt

-- ASSIGNMENTS: ranges, domains and tuples are given what stands on the right side
only_set : (k : VariableKind) (shape : Shape) (op : Assign) (o : Option Op) (old v : Value) → kind_takes DomainKind op ≡ true → HasShape k shape v → HasShape k shape (assigned op o old v)
only_set k shape Set o old v t p = p
only_set k shape _ o old v t p = cc

range_set : (shape : Shape) (op : Assign) (o : Option Op) (old v : Value) → kind_takes (PlainKind RangeLeaf) op ≡ true → (op ≡ SetReduce → KindCombines (PlainKind RangeLeaf) o)
    → HasShape (PlainKind RangeLeaf) shape v → HasShape (PlainKind RangeLeaf) shape (assigned op o old v)
range_set shape Set o old v t c p = p
range_set shape SetReduce o old v t c p = by o (c refl)
  where
    by : (o : Option Op) → KindCombines (PlainKind RangeLeaf) o → HasShape (PlainKind RangeLeaf) shape (assigned SetReduce o old v)
    by None c = p
    by (Some op) c = cc
range_set shape _ o old v t c p = cc

pub assigned-shaped : (k : VariableKind) (shape : Shape) (op : Assign) (o : Option Op) (old v : Value) → kind_takes k op ≡ true → (op ≡ SetReduce → KindCombines k o)
    → ((IsWhole k → ⊥) → HasShape k shape v) → (IsWhole k → ⊥) → HasShape k shape (assigned op o old v)
assigned-shaped (PlainKind RangeLeaf) shape op o old v t c p n = range_set shape op o old v t c (p n)
assigned-shaped DomainKind shape op o old v t c p n = only_set DomainKind shape op o old v t (p n)
assigned-shaped TupleKind shape op o old v t c p n = only_set TupleKind shape op o old v t (p n)
assigned-shaped (ArrayKind k) shape op o old v t c p n = absurd (n tt)
assigned-shaped _ shape op o old v t c p n = tt

-- AN ARRAY PUT into its slot has its domain there
array-shaped : (shape : Shape) (slot : ℕ) (a : Held) (slots : ℕ) (s : Memory) → AreRanked shape.rank shape.strided a.ranges → HasSlots slots s → slot < slots
    → AreRanked shape.rank shape.strided (array_at slot (with_array slot a s)).ranges
array-shaped shape slot a slots s p h within =
    subst (λ (b : Held). AreRanked shape.rank shape.strided b.ranges) (sym (get_or-set_same s.arrays slot a no_array (subst (λ n. slot < n) (sym h.arrays) within))) p

-- with another element, and declared
pub shaped-element : (k : VariableKind) (shape : Shape) (slot : ℕ) (t : Index) (v : Value) (slots : ℕ) (s : Memory) → HasSlots slots s → slot < slots
    → HasShape k shape (value_in k slot s) → HasShape k shape (value_in k slot (with_element_in k slot t v s))
shaped-element (ArrayKind k) shape slot t v slots s n within h = array-shaped shape slot (held_with t (kept_number v) (array_at slot s)) slots s h n within
shaped-element _ shape slot t v slots s n within h = h

pub shaped-array : (kind : VariableKind) (shape : Shape) (slot : ℕ) (k : Kind) (a : Held) (slots : ℕ) (s : Memory) → MaySpan kind shape k a.ranges → HasSlots slots s → slot < slots
    → HasShape kind shape (value_in kind slot (declared_array kind slot a s))
shaped-array (ArrayKind l) shape slot k a slots s h n within = array-shaped shape slot a slots s h.1 n within
shaped-array _ shape slot k a slots s h n within = absurd h

-- THE ARRAYS IN SOME SLOTS get another domain, which is of the shape of each
pub shaped-redomained : (t : Told) (j : ℕ) (xs : List ℕ) (rs : List TextRange) (s : Memory) → (is_among j xs ≡ true → AreRanked t.shape.rank t.shape.strided rs)
    → HasToldShape t j s → HasToldShape t j (record s { arrays = redomained_from 0 xs rs s.arrays })
shaped-redomained t j xs rs s new = by t.kind
  where
    by : (k : VariableKind) → HasShape k t.shape (value_in k j s) → HasShape k t.shape (value_in k j (record s { arrays = redomained_from 0 xs rs s.arrays }))
    by (PlainKind k) h = h
    by DomainKind h = h
    by TupleKind h = h
    by (ArrayKind k) h =
        let from_zero : j ≡ 0 + j = omega arith in
        ranges-redomained (AreRanked t.shape.rank t.shape.strided) 0 xs rs s.arrays j no_array (subst (λ n. is_among n xs ≡ true → AreRanked t.shape.rank t.shape.strided rs) from_zero new) h
    by (CellKind k) h = h

pub shaped-intended : (told : ℕ → Told) (is : List (ℕ × Op)) (s : Memory) → IsShapedBy told s → IsShapedBy told (intended is s)
shaped-intended told is s h j = kept-shape (told j) j s (intended is s) (sym (content_in-intend {N = SlotBound} (told j).kind j None is s)) (h j)

pub shaped-moved : (told : ℕ → Told) (k : ℤ) (c : Coming) (s : Memory) → IsShapedBy told s → IsShapedBy told (record s { here = k; coming = c })
shaped-moved told k c s h j = kept-shape (told j) j s (record s { here = k; coming = c }) (sym (content_in-moved {N = SlotBound} (told j).kind j None k c s)) (h j)

pub shaped-root : (told : ℕ → Told) (slot : ℕ) (r : Root) (s : Memory) → IsShapedBy told s → IsShapedBy told (with_root slot r s)
shaped-root told slot r s h j = kept-shape (told j) j s (with_root slot r s) (content_in-root {N = SlotBound} (told j).kind j None slot r s) (h j)

-- WHAT THE COMMAND LINE GIVES: no range that is strided
pub given-shaped : (k : LeafKind) (shape : Shape) (o : Option _) (v : Value) → option_map (given_as k) o ≡ Some v → HasShape (PlainKind k) shape v
given-shaped k shape None v e = cc
given-shaped IntLeaf shape (Some w) v e = tt
given-shaped TruthLeaf shape (Some w) v e = tt
given-shaped LocaleLeaf shape (Some w) v e = tt
given-shaped RangeLeaf shape (Some w) v e =
    let same : Range no_range ≡ v = cc in
    subst (HasShape (PlainKind RangeLeaf) shape) same (unstrided-shaped shape.strided)
  where
    unstrided-shaped : (strided : Bool) → MayStride strided (no_range ∷ [])
    unstrided-shaped true = tt
    unstrided-shaped false = (refl, tt)
