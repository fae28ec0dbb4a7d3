-- What a memory holds in its slots: what is put into a slot of its kind is what is read there, and nothing else changes.
-- And what an assignment makes of values of a kind is one of that kind.
use Rattle.std.proofs.Common.{◌≡◌, ◌≢◌, ℕ, ◌<◌, ℤ, true, List, refl, sym, ap, ◌∙◌, subst, Some, None, Option}
use Rattle.std.specs.Prelude.{get_or, set}
use Rattle.std.proofs.lemmas.List.{get_or-set_same, get_or-set_other, length-set}
use Rattle.dpl_sets.specs.TextRanges.{TextRange}
use Rattle.dpl_language.specs.Tree.{Op, Kind, Assign, Set, SetReduce}
use Rattle.dpl_language.specs.Values.{Value, Domain, Tuple, ranges_in, coordinates, array_domain, is_domain}
use Rattle.dpl_language.specs.Arithmetic.{assigned}
use Rattle.dpl_language.specs.Environment.{Plain}
use Rattle.dpl_words.proofs.OfKind.{value_at-no_domain, value_at-no_array, value_at-set_same, value_at-set_other, value_at-intend, numbers-set, ranges-set, intents-set, sets-set, assigned-kind}
use Rattle.dpl_memory.specs.Memory.{VariableKind, PlainKind, DomainKind, TupleKind, ArrayKind, CellKind, Held, Coming, Memory, no_domain, no_tuple, no_array, value_in, with_value_in, array_at, with_array, intended}
use Rattle.dpl_memory.specs.Resolved.{IsOf, IsWhole, kind_takes, KindCombines, HasSlots, array_content, content_in}

-- A VALUE THAT IS PUT
pub content_in-set_same : {N : Type 0} (k : VariableKind) (slot : ℕ) (over : Option N) (v : Value) (slots : ℕ) (s : Memory) → IsOf k v → (IsWhole k → ⊥) → HasSlots slots s → slot < slots
    → content_in k slot over (with_value_in k slot v s) ≡ Plain v
content_in-set_same (PlainKind k) slot over v slots s p n h within =
    ap (λ w. Plain w) (value_at-set_same k slot v s.words p (subst (λ n. slot < n) (sym h.numbers) within) (subst (λ n. slot < n) (sym h.ranges) within))
content_in-set_same DomainKind slot over v slots s p n h within =
    ap (λ v. Plain (Domain (get_or (set s.domains slot (ranges_in v)) slot no_domain))) p.1
    ∙ ap (λ rs. Plain (Domain rs)) (get_or-set_same s.domains slot p.0 no_domain (subst (λ n. slot < n) (sym h.domains) within)) ∙ ap (λ w. Plain w) (sym p.1)
content_in-set_same TupleKind slot over v slots s p n h within =
    ap (λ v. Plain (Tuple (get_or (set s.tuples slot (coordinates v)) slot no_tuple))) p.1
    ∙ ap (λ t. Plain (Tuple t)) (get_or-set_same s.tuples slot p.0 no_tuple (subst (λ n. slot < n) (sym h.tuples) within)) ∙ ap (λ w. Plain w) (sym p.1)
content_in-set_same (ArrayKind k) slot over v slots s p n h within = absurd (n tt)
content_in-set_same (CellKind k) slot over v slots s p n h within = absurd p

pub content_in-set_other : {N : Type 0} (j k : VariableKind) (i slot : ℕ) (over : Option N) (v : Value) (s : Memory) → i ≢ slot → content_in j i over (with_value_in k slot v s) ≡ content_in j i over s
content_in-set_other (PlainKind j) (PlainKind k) i slot over v s ne = ap (λ w. Plain w) (value_at-set_other j k i slot v s.words ne)
content_in-set_other (PlainKind j) DomainKind i slot over v s ne = refl
content_in-set_other (PlainKind j) TupleKind i slot over v s ne = refl
content_in-set_other (PlainKind j) (CellKind k) i slot over v s ne = refl
content_in-set_other DomainKind (PlainKind k) i slot over v s ne = refl
content_in-set_other DomainKind DomainKind i slot over v s ne = ap (λ rs. Plain (Domain rs)) (get_or-set_other s.domains slot i (ranges_in v) no_domain ne)
content_in-set_other DomainKind TupleKind i slot over v s ne = refl
content_in-set_other DomainKind (CellKind k) i slot over v s ne = refl
content_in-set_other TupleKind (PlainKind k) i slot over v s ne = refl
content_in-set_other TupleKind DomainKind i slot over v s ne = refl
content_in-set_other TupleKind TupleKind i slot over v s ne = ap (λ t. Plain (Tuple t)) (get_or-set_other s.tuples slot i (coordinates v) no_tuple ne)
content_in-set_other TupleKind (CellKind k) i slot over v s ne = refl
content_in-set_other (ArrayKind j) (PlainKind k) i slot over v s ne = refl
content_in-set_other (ArrayKind j) DomainKind i slot over v s ne = refl
content_in-set_other (ArrayKind j) TupleKind i slot over v s ne = refl
content_in-set_other (ArrayKind j) (CellKind k) i slot over v s ne = refl
content_in-set_other (CellKind j) (PlainKind k) i slot over v s ne = refl
content_in-set_other (CellKind j) DomainKind i slot over v s ne = refl
content_in-set_other (CellKind j) TupleKind i slot over v s ne = refl
content_in-set_other (CellKind j) (CellKind k) i slot over v s ne = refl
content_in-set_other _ (ArrayKind k) i slot over v s ne = refl

-- AN ARRAY THAT IS PUT
pub content_in-array_same : {N : Type 0} (k : Kind) (slot : ℕ) (over : Option N) (a : Held) (slots : ℕ) (s : Memory) → HasSlots slots s → slot < slots
    → content_in (ArrayKind k) slot over (with_array slot a s) ≡ array_content over k a
content_in-array_same k slot over a slots s h within = ap (array_content over k) (get_or-set_same s.arrays slot a no_array (subst (λ n. slot < n) (sym h.arrays) within))

pub content_in-array_other : {N : Type 0} (j : VariableKind) (i slot : ℕ) (over : Option N) (a : Held) (s : Memory) → i ≢ slot → content_in j i over (with_array slot a s) ≡ content_in j i over s
content_in-array_other (ArrayKind j) i slot over a s ne = ap (array_content over j) (get_or-set_other s.arrays slot i a no_array ne)
content_in-array_other _ i slot over a s ne = refl

-- reduce variables are no contents of slots
pub content_in-intend : {N : Type 0} (j : VariableKind) (i : ℕ) (over : Option N) (is : List (ℕ × Op)) (s : Memory) → content_in j i over s ≡ content_in j i over (intended is s)
content_in-intend (PlainKind j) i over is s = ap (λ w. Plain w) (value_at-intend j i is s.words)
content_in-intend _ i over is s = refl

-- nor are the number of `here`, and what is to come
pub content_in-moved : {N : Type 0} (j : VariableKind) (i : ℕ) (over : Option N) (k : ℤ) (c : Coming) (s : Memory) → content_in j i over s ≡ content_in j i over (record s { here = k; coming = c })
content_in-moved (PlainKind j) i over k c s = refl
content_in-moved _ i over k c s = refl

pub slots-moved : (slots : ℕ) (k : ℤ) (c : Coming) (s : Memory) → HasSlots slots s → HasSlots slots (record s { here = k; coming = c })
slots-moved slots k c s h = record {
  numbers = h.numbers;
  ranges = h.ranges;
  domains = h.domains;
  tuples = h.tuples;
  arrays = h.arrays;
  roots = h.roots;
}

-- WHAT STAYS
pub slots-set : (k : VariableKind) (slot : ℕ) (v : Value) (slots : ℕ) (s : Memory) → HasSlots slots s → HasSlots slots (with_value_in k slot v s)
slots-set (PlainKind k) slot v slots s h = record {
  numbers = numbers-set k slot v s.words ∙ h.numbers;
  ranges = ranges-set k slot v s.words ∙ h.ranges;
  domains = h.domains;
  tuples = h.tuples;
  arrays = h.arrays;
  roots = h.roots;
}
slots-set DomainKind slot v slots s h = record {
  numbers = h.numbers;
  ranges = h.ranges;
  domains = length-set s.domains slot (ranges_in v) ∙ h.domains;
  tuples = h.tuples;
  arrays = h.arrays;
  roots = h.roots;
}
slots-set TupleKind slot v slots s h = record {
  numbers = h.numbers;
  ranges = h.ranges;
  domains = h.domains;
  tuples = length-set s.tuples slot (coordinates v) ∙ h.tuples;
  arrays = h.arrays;
  roots = h.roots;
}
slots-set (ArrayKind k) slot v slots s h = h
slots-set (CellKind k) slot v slots s h = h

pub slots-array : (slot : ℕ) (a : Held) (slots : ℕ) (s : Memory) → HasSlots slots s → HasSlots slots (with_array slot a s)
slots-array slot a slots s h = record {
  numbers = h.numbers;
  ranges = h.ranges;
  domains = h.domains;
  tuples = h.tuples;
  arrays = length-set s.arrays slot a ∙ h.arrays;
  roots = h.roots;
}

pub intents-set_in : (k : VariableKind) (slot : ℕ) (v : Value) (s : Memory) → (with_value_in k slot v s).words.intents ≡ s.words.intents
intents-set_in (PlainKind k) slot v s = intents-set k slot v s.words
intents-set_in _ slot v s = refl

pub sets-set_in : (k : VariableKind) (slot : ℕ) (v : Value) (s : Memory) → (with_value_in k slot v s).words.sets ≡ s.words.sets
sets-set_in (PlainKind k) slot v s = sets-set k slot v s.words
sets-set_in _ slot v s = refl

-- KINDS, by what a variable's value is
pub value_in-array : (k : VariableKind) (slot : ℕ) (s : Memory) (rs : List TextRange) → array_domain (value_in k slot s) ≡ Some rs → IsWhole k
value_in-array (PlainKind k) slot s rs = λ e. absurd (value_at-no_array k slot s.words rs e)
value_in-array DomainKind slot s rs = λ e. cc
value_in-array TupleKind slot s rs = λ e. cc
value_in-array (ArrayKind k) slot s rs = λ e. tt
value_in-array (CellKind k) slot s rs = λ e. cc

-- a variable that is no whole array is of no array's kind
pub value_in-plain : (k : VariableKind) (slot : ℕ) (s : Memory) → array_domain (value_in k slot s) ≡ None → IsWhole k → ⊥
value_in-plain (ArrayKind k) slot s e w = let f : Some (array_at slot s).ranges ≡ None = e in cc
value_in-plain _ slot s e w = w

pub value_in-domain : (k : VariableKind) (slot : ℕ) (s : Memory) → is_domain (value_in k slot s) ≡ true → k ≡ DomainKind
value_in-domain (PlainKind k) slot s = λ e. absurd (value_at-no_domain k slot s.words e)
value_in-domain DomainKind slot s = λ e. refl
value_in-domain TupleKind slot s = λ e. cc
value_in-domain (ArrayKind k) slot s = λ e. cc
value_in-domain (CellKind k) slot s = λ e. cc

-- ASSIGNMENTS to variables that are no whole arrays
only_set : (k : VariableKind) (op : Assign) (o : Option Op) (old v : Value) → kind_takes DomainKind op ≡ true → IsOf k v → IsOf k (assigned op o old v)
only_set k Set o old v t p = p
only_set k _ o old v t p = cc

pub assigned-of : (k : VariableKind) (op : Assign) (o : Option Op) (old v : Value) → (IsWhole k → ⊥) → kind_takes k op ≡ true → (op ≡ SetReduce → KindCombines k o) → IsOf k v → IsOf k (assigned op o old v)
assigned-of (PlainKind k) op o old v n t c p = assigned-kind k op o old v t c p
assigned-of DomainKind op o old v n t c p = only_set DomainKind op o old v t p
assigned-of TupleKind op o old v n t c p = only_set TupleKind op o old v t p
assigned-of (ArrayKind k) op o old v n t c p = absurd (n tt)
assigned-of (CellKind k) op o old v n t c p = absurd p
