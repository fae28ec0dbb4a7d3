-- A memory in which turns may be made apart, by what is tested of it.
use Rattle.std.proofs.Common.{◌≡◌, ◌⊎◌, inl, inr, ℕ, ◌+◌, ◌<◌, ◌≤◌, ◌==◌, Bool, true, false, List, [], ◌∷◌, length, map, drop, get_or, ℤ, FitsSigned, w64, refl, sym, subst, ap, ◌∙◌, arith}
use Rattle.std.specs.Prelude.{◌||◌}
use Rattle.std.specs.List.{AllByRecursion, list_any}
use Rattle.std.proofs.lemmas.Bool.{cases_eq}
use Rattle.std.proofs.lemmas.Bool.Decides.{nat_tests}
use Rattle.std.proofs.lemmas.List.{drop_more, drop_all}
use Rattle.std.proofs.Math.ListN.{get_or-eq_default}
use Rattle.dpl_sets.specs.Ranges.{RangeValue}
use Rattle.dpl_sets.specs.TextDomains.{values_of}
use Rattle.dpl_domain.proofs.DistinctLemmas.{AreRanges, indices-distinct}
use Rattle.dpl_contents.specs.Domains.{AreWritten}
use Rattle.dpl_contents.proofs.Sizes.{size_in-is}
use Rattle.dpl_language.specs.Tree.{Op, Sum, Product, AllOf, AnyOf, BitAnd, BitOr, BitXor, Least, Greatest}
use Rattle.dpl_language.specs.Ranges.{indices_in, size_in}
use Rattle.dpl_memory.specs.Memory.{Held, Memory, no_array, array_at, is_among}
use Rattle.dpl_apart.specs.Operands.{IsExact, AreExact}
use Rattle.dpl_apart.specs.Rows.{AreOnce, IsDistinct}
use Rattle.dpl_apart.specs.Memories.{Changes, IsPiece, IsFormed, words_in, operators_of}
use Rattle.dpl_apart.proofs.ReduceWords.{int-exact}
use Rattle.dpl_workers.specs.Formed.{IsWhole, HasPiece, AreReduced}

pub written-ranges : (ranges : List RangeValue) → AreWritten ranges → AreRanges ranges
written-ranges [] h = tt
written-ranges (r ∷ rs) h = (h.0, written-ranges rs h.2)

-- a whole array that has elements is there
pub piece-there : (m : Memory) (slot : ℕ) (a : Held) → a ≡ array_at slot m → a.keys ≡ indices_in a.ranges → length a.words ≡ size_in a.ranges → AreWritten (values_of a.ranges) → 0 < size_in a.ranges → HasPiece m slot
piece-there m slot a is keys words written some = (
  subst IsPiece is (record {
    distinct = subst IsDistinct (sym keys) (indices-distinct (values_of a.ranges) (written-ranges (values_of a.ranges) written));
    long = words ∙ size_in-is a.ranges written ∙ ap length (sym keys);
  }),
  by (λ past. let none : a ≡ no_array = is ∙ get_or-eq_default m.arrays no_array past in
      let size : size_in a.ranges ≡ 0 = ap (λ (a : Held). size_in a.ranges) none in omega (arith, size, some)),
  subst (λ (a : Held). a.keys ≡ indices_in a.ranges) is keys,
) where
  by : (length m.arrays ≤ slot → ⊥) → slot < length m.arrays
  by h = grind arith

-- a word of 64 bits is an int, which operators on ints combine
pub ints-exact : (op : Op) (w : ℤ) → (op ≡ AllOf → ⊥) → (op ≡ AnyOf → ⊥) → FitsSigned w64 w → IsExact op w
ints-exact Sum w all any f = int-exact Sum w refl f
ints-exact Product w all any f = int-exact Product w refl f
ints-exact AllOf w all any f = absurd (all refl)
ints-exact AnyOf w all any f = absurd (any refl)
ints-exact BitAnd w all any f = int-exact BitAnd w refl f
ints-exact BitOr w all any f = int-exact BitOr w refl f
ints-exact BitXor w all any f = int-exact BitXor w refl f
ints-exact Least w all any f = int-exact Least w refl f
ints-exact Greatest w all any f = int-exact Greatest w refl f

-- a slot that is among some has what they all have
among-has : (P : ℕ → Type 0) (slot : ℕ) (slots : List ℕ) → AllByRecursion P slots → is_among slot slots ≡ true → P slot
among-has P slot [] all among = absurd cc
among-has P slot (x ∷ xs) all among = by (slot == x) refl among (among-has P slot xs all.1) where
  by : (c : Bool) → (slot == x) ≡ c → (c || is_among slot xs) ≡ true → (is_among slot xs ≡ true → P slot) → P slot
  by true e h rest = let same : x ≡ slot = grind (arith, nat_tests) in subst P same all.0
  by false e h rest = rest h

pub all-whole : (m : Memory) (slots : List ℕ) → AllByRecursion (HasPiece m) slots → AllByRecursion (IsWhole m) slots
all-whole m [] all = tt
all-whole m (slot ∷ slots) all = (all.0.2, all-whole m slots all.1)

module _ (numbers : List ℕ) (m : Memory) where
  reduced-once : (ps : List (ℕ × Op)) → AreReduced numbers m ps → AreOnce (map (λ (p : ℕ × Op). p.0) ps)
  reduced-once [] h = tt
  reduced-once (p ∷ ps) h = (h.0.0, reduced-once ps h.1)

  reduced-there : (ps : List (ℕ × Op)) → AreReduced numbers m ps → AllByRecursion (λ (p : ℕ × Op). p.0 < length m.words.numbers) ps
  reduced-there [] h = tt
  reduced-there (p ∷ ps) h = (h.0.1, reduced-there ps h.1)

  reduced-stay : (ps : List (ℕ × Op)) → AreReduced numbers m ps → AllByRecursion (λ (p : ℕ × Op). is_among p.0 numbers ≡ false) ps
  reduced-stay [] h = tt
  reduced-stay (p ∷ ps) h = (h.0.2, reduced-stay ps h.1)

  pub reduced-exact : (ps : List (ℕ × Op)) → AreReduced numbers m ps → AreExact (operators_of ps) (words_in ps m)
  reduced-exact [] h = tt
  reduced-exact (p ∷ ps) h = (h.0.3, reduced-exact ps h.1)

pub memory-formed : (h : Changes) (m : Memory) → m.words.intents ≡ h.reduced → AllByRecursion (HasPiece m) h.written → AreReduced h.numbers m h.reduced
    → AllByRecursion (λ slot. slot < length m.words.numbers) h.numbers → AllByRecursion (λ slot. slot < length m.tuples) h.tuples → IsFormed h m
memory-formed h m intents written reduced numbers tuples = record {
  pieces = λ slot among. (among-has (HasPiece m) slot h.written written among).0;
  within = λ slot among. (among-has (HasPiece m) slot h.written written among).1;
  intents = intents;
  apart = reduced-once h.numbers m h.reduced reduced;
  there = reduced-there h.numbers m h.reduced reduced;
  stay = reduced-stay h.numbers m h.reduced reduced;
  room = numbers;
  tuple_room = tuples;
}

-- slots each of which stands there once, by the first of them
same-test : (x y : ℕ) → (x == y) ≡ (y == x)
same-test x y = by (cases_eq x y) where
  by : (x ≡ y) ⊎ (x ≡ y → ⊥) → (x == y) ≡ (y == x)
  by (inl same) = ap (λ z. x == z) (sym same) ∙ ap (λ z. z == x) same
  by (inr other) =
      let first : (x == y) ≡ false = grind (arith, nat_tests) in
      let second : (y == x) ≡ false = grind (arith, nat_tests) in
      first ∙ sym second

pub once-next : (x : ℕ) (xs : List ℕ) → list_any (λ y. y == x) xs ≡ false → AreOnce xs → AreOnce (x ∷ xs)
once-next x xs none once = (ap (λ test. list_any test xs) (λ i y. same-test x y i) ∙ none, once)

-- ONE BEHIND ANOTHER: what is so of a list if it is of those that are left, is so if it is of one fewer
pub left-next : {X : Type 0} (Q : List X → Type 0) (xs : List X) (k : ℕ) (d : X) → k < length xs → (Q (drop k xs) → Q xs) → (Q (drop (k + 1) xs) → Q (get_or xs k d ∷ drop (k + 1) xs)) → Q (drop (k + 1) xs) → Q xs
left-next Q xs k d below whole step left = whole (subst Q (sym (drop_more xs k d below)) (step left))

pub left-none : {X : Type 0} (Q : List X → Type 0) (xs : List X) (k : ℕ) → length xs ≤ k → (Q (drop k xs) → Q xs) → Q [] → Q xs
left-none Q xs k past whole none = whole (subst Q (sym (drop_all k xs past)) none)
