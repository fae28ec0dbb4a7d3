-- Roots by slots: what a memory has of them stays where nothing is declared, and a declared domain or array has none until it
-- is dealt out.
use Rattle.std.proofs.Common.{◌≡◌, ◌≢◌, ℕ, ◌<◌, true, false, List, [], ◌∷◌, refl, sym, ap, ◌∙◌, subst, Option, length}
use Rattle.std.specs.Prelude.{◌==◌, if◌then◌else◌, get_or, set}
use Rattle.std.proofs.lemmas.List.{get_or-set_same, get_or-set_other, length-set}
use Rattle.std.proofs.lemmas.Bool.Decides.{Decides-eqb}
use Rattle.dpl_sets.specs.TextRanges.{TextRange}
use Rattle.dpl_language.specs.Values.{Value, Domain, Index, is_distributed}
use Rattle.dpl_language.specs.Distributions.{Root, no_root}
use Rattle.dpl_agreement.proofs.Slots.{Sight as SlotSight, Mark, Name, IsFresh}
use Rattle.dpl_agreement.proofs.SlotRoots.{Roots, set_root, roots_at, SameRoots, roots_at-same, roots_at-set}
use Rattle.dpl_words.specs.Words.{IntLeaf, TruthLeaf, RangeLeaf, LocaleLeaf}
use Rattle.dpl_memory.specs.Memory.{VariableKind, PlainKind, DomainKind, TupleKind, ArrayKind, CellKind, Variable, Held, Memory, value_in, with_value_in, with_element_in, declared_array, redomained_in, root_in, with_root, undealt}
use Rattle.dpl_memory.specs.Resolved.{content_in, HasSlots}
use Rattle.dpl_memory.proofs.Wholes.{AreWhole}

-- WHAT CHANGES NO ROOT
pub roots-set_in : (k : VariableKind) (slot : ℕ) (v : Value) (s : Memory) → (with_value_in k slot v s).roots ≡ s.roots
roots-set_in (PlainKind k) slot v s = refl
roots-set_in _ slot v s = refl

pub roots-element : (k : VariableKind) (slot : ℕ) (t : Index) (v : Value) (s : Memory) → (with_element_in k slot t v s).roots ≡ s.roots
roots-element (PlainKind k) slot t v s = refl
roots-element _ slot t v s = refl

pub roots-array : (k : VariableKind) (slot : ℕ) (a : Held) (s : Memory) → (declared_array k slot a s).roots ≡ s.roots
roots-array (PlainKind k) slot a s = refl
roots-array _ slot a s = refl

pub roots-redomained : (x : Variable) (rs : List TextRange) (s : Memory) → (redomained_in x rs s).roots ≡ s.roots
roots-redomained x rs s = roots-set_in x.kind x.slot (Domain rs) s

-- WHERE A RUN IS, and what is to come to it: how many cells there are, the number of `here`, replies and histories. No change of a
-- variable is one of these.
pub record IsAsFar (u s : Memory) : Type 0 where
  pub cells : length u.cells ≡ length s.cells
  pub here : u.here ≡ s.here
  pub coming : u.coming ≡ s.coming

pub as_far : (s : Memory) → IsAsFar s s
as_far s = record { cells = refl; here = refl; coming = refl }

pub far-set_in : (k : VariableKind) (slot : ℕ) (v : Value) (s : Memory) → IsAsFar (with_value_in k slot v s) s
far-set_in (PlainKind k) slot v s = record { cells = refl; here = refl; coming = refl }
far-set_in DomainKind slot v s = record { cells = refl; here = refl; coming = refl }
far-set_in TupleKind slot v s = record { cells = refl; here = refl; coming = refl }
far-set_in (ArrayKind k) slot v s = as_far s
far-set_in (CellKind k) slot v s = as_far s

pub far-element : (k : VariableKind) (slot : ℕ) (t : Index) (v : Value) (s : Memory) → IsAsFar (with_element_in k slot t v s) s
far-element (ArrayKind k) slot t v s = record { cells = refl; here = refl; coming = refl }
far-element _ slot t v s = as_far s

pub far-array : (k : VariableKind) (slot : ℕ) (a : Held) (s : Memory) → IsAsFar (declared_array k slot a s) s
far-array (ArrayKind k) slot a s = record { cells = refl; here = refl; coming = refl }
far-array _ slot a s = as_far s

pub far-redomained : (x : Variable) (rs : List TextRange) (s : Memory) → IsAsFar (redomained_in x rs s) s
far-redomained x rs s =
    let set = far-set_in x.kind x.slot (Domain rs) s in
    record { cells = set.cells; here = set.here; coming = set.coming }

pub far-undealt : (k : VariableKind) (slot : ℕ) (s u : Memory) → IsAsFar s u → IsAsFar (undealt k slot s) u
far-undealt (PlainKind k) slot s u far = far
far-undealt DomainKind slot s u far = record { cells = far.cells; here = far.here; coming = far.coming }
far-undealt TupleKind slot s u far = far
far-undealt (ArrayKind k) slot s u far = record { cells = far.cells; here = far.here; coming = far.coming }
far-undealt (CellKind k) slot s u far = far

-- A ROOT IN A SLOT, which is no content of one
pub content_in-root : {N : Type 0} (j : VariableKind) (i : ℕ) (over : Option N) (slot : ℕ) (r : Root) (s : Memory) → content_in j i over (with_root slot r s) ≡ content_in j i over s
content_in-root (PlainKind j) i over slot r s = refl
content_in-root _ i over slot r s = refl

pub slots-root : (slot : ℕ) (r : Root) (slots : ℕ) (s : Memory) → HasSlots slots s → HasSlots slots (with_root slot r s)
slots-root slot r slots s h = record {
  numbers = h.numbers;
  ranges = h.ranges;
  domains = h.domains;
  tuples = h.tuples;
  arrays = h.arrays;
  roots = length-set s.roots slot r ∙ h.roots;
}

pub root_in-other : (j : VariableKind) (i slot : ℕ) (r : Root) (rs : List Root) → i ≢ slot → root_in j i (set rs slot r) ≡ root_in j i rs
root_in-other (PlainKind j) i slot r rs ne = refl
root_in-other DomainKind i slot r rs ne = get_or-set_other rs slot i r no_root ne
root_in-other TupleKind i slot r rs ne = refl
root_in-other (ArrayKind j) i slot r rs ne = get_or-set_other rs slot i r no_root ne
root_in-other (CellKind j) i slot r rs ne = refl

-- the root of a variable that is a domain or an array
pub root_in-same : (k : VariableKind) (slot : ℕ) (r : Root) (slots : ℕ) (s : Memory) → is_distributed (value_in k slot s) ≡ true → HasSlots slots s → slot < slots → root_in k slot (set s.roots slot r) ≡ r
root_in-same (PlainKind IntLeaf) slot r slots s d h within = cc
root_in-same (PlainKind TruthLeaf) slot r slots s d h within = cc
root_in-same (PlainKind RangeLeaf) slot r slots s d h within = cc
root_in-same (PlainKind LocaleLeaf) slot r slots s d h within = cc
root_in-same DomainKind slot r slots s d h within = get_or-set_same s.roots slot r no_root (subst (λ n. slot < n) (sym h.roots) within)
root_in-same TupleKind slot r slots s d h within = cc
root_in-same (ArrayKind k) slot r slots s d h within = get_or-set_same s.roots slot r no_root (subst (λ n. slot < n) (sym h.roots) within)
root_in-same (CellKind k) slot r slots s d h within = cc

-- WHAT IS DECLARED has no root
module _ (k : VariableKind) (slot : ℕ) (s : Memory) where
  pub content_in-undealt : {N : Type 0} (j : VariableKind) (i : ℕ) (over : Option N) → content_in j i over (undealt k slot s) ≡ content_in j i over s
  content_in-undealt j i over = by k
    where
      by : (k : VariableKind) → content_in j i over (undealt k slot s) ≡ content_in j i over s
      by (PlainKind l) = refl
      by DomainKind = content_in-root j i over slot no_root s
      by TupleKind = refl
      by (ArrayKind l) = content_in-root j i over slot no_root s
      by (CellKind l) = refl

  pub slots-undealt : (slots : ℕ) → HasSlots slots s → HasSlots slots (undealt k slot s)
  slots-undealt slots h = by k
    where
      by : (k : VariableKind) → HasSlots slots (undealt k slot s)
      by (PlainKind l) = h
      by DomainKind = slots-root slot no_root slots s h
      by TupleKind = h
      by (ArrayKind l) = slots-root slot no_root slots s h
      by (CellKind l) = h

  pub words-undealt : (undealt k slot s).words ≡ s.words
  words-undealt = by k
    where
      by : (k : VariableKind) → (undealt k slot s).words ≡ s.words
      by (PlainKind l) = refl
      by _ = refl

  pub value_in-undealt : value_in k slot (undealt k slot s) ≡ value_in k slot s
  value_in-undealt = by k
    where
      by : (k : VariableKind) → value_in k slot (undealt k slot s) ≡ value_in k slot s
      by (PlainKind l) = refl
      by _ = refl

  pub whole-undealt : AreWhole s → AreWhole (undealt k slot s)
  whole-undealt h = by k
    where
      by : (k : VariableKind) → AreWhole (undealt k slot s)
      by (PlainKind l) = h
      by DomainKind = h
      by TupleKind = h
      by (ArrayKind l) = h
      by (CellKind l) = h

  pub root_in-undealt_here : (slots : ℕ) → HasSlots slots s → slot < slots → root_in k slot (undealt k slot s).roots ≡ no_root
  root_in-undealt_here slots h within = by k
    where
      here : get_or (set s.roots slot no_root) slot no_root ≡ no_root
      here = get_or-set_same s.roots slot no_root no_root (subst (λ n. slot < n) (sym h.roots) within)

      by : (k : VariableKind) → root_in k slot (undealt k slot s).roots ≡ no_root
      by (PlainKind l) = refl
      by DomainKind = here
      by TupleKind = refl
      by (ArrayKind l) = here
      by (CellKind l) = refl

  pub root_in-undealt_other : (j : VariableKind) (i : ℕ) → i ≢ slot → root_in j i (undealt k slot s).roots ≡ root_in j i s.roots
  root_in-undealt_other j i ne = by k
    where
      by : (k : VariableKind) → root_in j i (undealt k slot s).roots ≡ root_in j i s.roots
      by (PlainKind l) = refl
      by DomainKind = root_in-other j i slot no_root s.roots ne
      by TupleKind = refl
      by (ArrayKind l) = root_in-other j i slot no_root s.roots ne
      by (CellKind l) = refl

-- AS ROOTS IN SLOTS: lists that agree everywhere, and one root changed
SameRoots-each : (p q : Roots) → ((j : ℕ) → p j ≡ q j) → (g : SlotSight) → SameRoots p q g
SameRoots-each p q e [] = tt
SameRoots-each p q e (Mark ∷ g) = SameRoots-each p q e g
SameRoots-each p q e (Name b ∷ g) = (e b.slot, SameRoots-each p q e g)

pub roots_at-each : (p q : Roots) → ((j : ℕ) → p j ≡ q j) → (g : SlotSight) → roots_at p g ≡ roots_at q g
roots_at-each p q e g = roots_at-same p q g (SameRoots-each p q e g)

pub set_root-each : (slot : ℕ) (r : Root) (p q : Roots) → r ≡ q slot → ((j : ℕ) → j ≢ slot → p j ≡ q j) → (j : ℕ) → set_root slot r p j ≡ q j
set_root-each slot r p q here other j =
    (elim (j == slot) as (λ t. (t ≡ true → j ≡ slot) → (j ≡ slot → t ≡ true) → (if t then r else p j) ≡ q j)
    [ true ↦ λ h i. here ∙ ap q (sym (h refl)) | false ↦ λ h i. other j (λ e. let t = i e in cc) ]) (Decides-eqb j slot).0 (Decides-eqb j slot).1

-- where no name in sight has a slot, its root is no matter
pub roots_at-unused : (slot : ℕ) (p q : Roots) (g : SlotSight) → IsFresh slot g → ((j : ℕ) → j ≢ slot → p j ≡ q j) → roots_at p g ≡ roots_at q g
roots_at-unused slot p q g fresh other =
    sym (roots_at-set slot (q slot) p g fresh) ∙ roots_at-each (set_root slot (q slot) p) q (set_root-each slot (q slot) p q refl other) g
