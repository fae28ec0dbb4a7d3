-- The parts of a map's locales, each of which is the part that the map gives it.
use Rattle.std.proofs.Common.{◌≡◌, ℕ, zero, suc, ◌+◌, ◌<◌, ◌≤◌, ◌==◌, ◌||◌, Bool, true, false, List, [], ◌∷◌, map, Result, length, get_or, Option, refl, ap, ◌∙◌, arith}
use Rattle.std.specs.List.{AllByRecursion, list_any, All}
use Rattle.std.proofs.lemmas.Bool.Decides.{nat_tests}
use Rattle.dpl_sets.specs.Ranges.{RangeValue}
use Rattle.dpl_sets.specs.Indices.{indices}
use Rattle.dpl_map.specs.Maps.{AxisValue, owner}
use Rattle.dpl_map.specs.Parts.{part}
use Rattle.dpl_map.specs.Cuts.{AreCut}
use Rattle.dpl_sets.specs.TextRanges.{TextRange}
use Rattle.dpl_language.specs.Tree.{Op}
use Rattle.dpl_language.specs.Values.{Value, Index, Fault}
use Rattle.dpl_language.specs.Arithmetic.{combined, unit_of}
use Rattle.dpl_language.specs.Ranges.{indices_in}
use Rattle.dpl_language.specs.Expressions.{fold_over}
use Rattle.dpl_language.specs.Outcome.{Deeds, Run, in_order, naming_value}
use Rattle.dpl_apart.specs.Operands.{IsCommutativeMonoid, IsOperand}
use Rattle.dpl_apart.specs.Rows.{Ran, Finished, Loop, run, onto, part_of, is_owned, dealt, merged, AreOnce, numbered, IsRising, AllAdd, IsReducing}
use Rattle.dpl_apart.specs.Apart.{Holding, loop_left, last_index, IsApart}
use Rattle.dpl_apart.proofs.Split.{all-add}
use Rattle.dpl_apart.proofs.InOrder.{in_order-run}
use Rattle.dpl_apart.specs.Folds.{fold_loop, no_rows, fold_of}
use Rattle.dpl_apart.proofs.Folds.{reduced-merged}
use Rattle.dpl_apart.proofs.Parts.{run-merged}

-- ---- locales that are numbered on
not-among : (m l n : ℕ) → m < l → list_any (λ k. m == k) (numbered l n) ≡ false
not-among m l zero below = refl
not-among m l (suc n) below =
    let other : (m == l) ≡ false = grind (arith, nat_tests) in
    rw other (not-among m (suc l) n (omega (arith, below)))

pub numbered-apart : (l n : ℕ) → AreOnce (numbered l n)
numbered-apart l zero = tt
numbered-apart l (suc n) = (not-among l (suc l) n (omega arith), numbered-apart (suc l) n)

pub among : (m l n : ℕ) → l ≤ m → m < l + n → list_any (λ k. m == k) (numbered l n) ≡ true
among m l zero from below = absurd (omega (arith, from, below))
among m l (suc n) from below = by (m == l) refl (λ later. among m (suc l) n later (omega (arith, below))) where
  by : (b : Bool) → (m == l) ≡ b → (suc l ≤ m → list_any (λ k. m == k) (numbered (suc l) n) ≡ true) → ((m == l) || list_any (λ k. m == k) (numbered (suc l) n)) ≡ true
  by true e rest = rw e refl
  by false e rest = let later : suc l ≤ m = grind (arith, nat_tests) in rw e (rest later)

pub of-each : (P : ℕ → Type 0) (ls : List ℕ) → ((l : ℕ) → P l) → AllByRecursion P ls
of-each P [] h = tt
of-each P (l ∷ ls) h = (h l, of-each P ls h)

-- the ranges of a domain of the language, as maps have them
abbrev pub values_of : List TextRange → List RangeValue
values_of rs = map (λ (r : TextRange). r.value) rs

module _ {T V : Type 0} {IsOne : V → Type 0} {unit : V} (loop : Loop T V) (monoid : IsCommutativeMonoid IsOne loop.join unit) (axes : List AxisValue) (ranges : List RangeValue) (rows : ℕ → Index → T) where
  -- what a locale's part of a domain comes to
  abbrev pub located : ℕ → Ran T V
  located l = run loop (part ranges axes l) (rows l) unit

  -- A loop over a domain is what the parts of a map's locales come to, put onto the reduce variables as they were.
  pub run-located : (n : ℕ) → ((t : Index) → owner axes t < n) → IsRising loop.place (indices ranges) → ((l : ℕ) → AllAdd IsOne loop (part ranges axes l) (rows l)) → (a : V) → IsOne a
      → run loop (indices ranges) (dealt (owner axes) rows) a ≡ onto loop.join a (merged loop.join (owner axes) located (Finished (dealt (owner axes) rows) unit) (numbered 0 n))
  unfolding part
  run-located n below rising add a ha =
      run-merged loop monoid (owner axes) rows (indices ranges) rising (numbered 0 n) (numbered-apart 0 n)
      (of-each (λ l. AllAdd IsOne loop (part_of (owner axes) l (indices ranges)) (rows l)) (numbered 0 n) add)
      (λ k d within. owned (get_or (indices ranges) k d)) a ha
    where
      owned : (t : Index) → is_owned (owner axes) (numbered 0 n) t ≡ true
      owned t = let less = below t in among (owner axes t) 0 n (omega arith) (omega (arith, less))

-- ---- over a state: all turns in order, by what the locales' parts come to
module _ {T V S : Type 0} {IsIndex : Index → Type 0} {IsOne : V → Type 0} {unit : V} (holding : Holding T V S) (loop : Loop T V) (turn : Index → Run S) (lawful : IsReducing IsOne unit loop) (apart : IsApart IsIndex IsOne holding loop turn) where
  pub in_order-located : (axes : List AxisValue) (ranges : List RangeValue) (rows : ℕ → Index → T) (n : ℕ) → ((t : Index) → owner axes t < n) → IsRising loop.place (indices ranges) → AllByRecursion IsIndex (indices ranges)
      → (last : Option Index) (a : V) (done : Deeds) → IsOne a
      → in_order turn (indices ranges) (holding last (dealt (owner axes) rows) a) done
      ≡ loop_left holding (last_index last (indices ranges)) done (onto loop.join a (merged loop.join (owner axes) (located loop lawful.monoid axes ranges rows) (Finished (dealt (owner axes) rows) unit) (numbered 0 n)))
  in_order-located axes ranges rows n below rising all last a done ha =
      in_order-run holding loop turn lawful apart (indices ranges) last (dealt (owner axes) rows) a done ha all
      ∙ ap (loop_left holding (last_index last (indices ranges)) done)
      (run-located loop lawful.monoid axes ranges rows n below rising (λ l. all-add IsOne loop lawful.adds (part ranges axes l) (rows l)) a ha)

-- ---- a reduction over a domain, by what the locales' parts come to
pub fold_over-located : (op : Op) (value : Index → Result Value Fault) (place : Index → ℕ) (axes : List AxisValue) (rs : List TextRange) (n : ℕ) → ((t : Index) → owner axes t < n) → IsRising place (indices_in rs)
    → ((l : ℕ) → AllAdd (IsOperand op) (fold_loop op (λ t. naming_value t (value t)) place) (part (values_of rs) axes l) no_rows)
    → fold_over op value rs
    ≡ fold_of (merged (combined op) (owner axes) (λ l. run (fold_loop op (λ t. naming_value t (value t)) place) (part (values_of rs) axes l) no_rows (unit_of op)) (Finished no_rows (unit_of op)) (numbered 0 n))
unfolding part
fold_over-located op value place axes rs n below rising add =
    reduced-merged op (λ t. naming_value t (value t)) place (owner axes) (indices_in rs) rising (numbered 0 n) (numbered-apart 0 n) (λ k d within. owned (get_or (indices_in rs) k d))
    (of-each (λ l. AllAdd (IsOperand op) (fold_loop op (λ t. naming_value t (value t)) place) (part_of (owner axes) l (indices_in rs)) no_rows) (numbered 0 n) add)
  where
    owned : (t : Index) → is_owned (owner axes) (numbered 0 n) t ≡ true
    owned t = let less = below t in among (owner axes t) 0 n (omega arith) (omega (arith, less))

-- ---- a part that is cut into domains, each of which has a number
pub cut-owned : {P : Type 0} (elements : P → List Index) (ts : List Index) (pieces : List P) (cut : AreCut elements ts pieces)
    → AreOnce (numbered 0 (length pieces)) × All (λ t. is_owned cut.number (numbered 0 (length pieces)) t ≡ true) ts
cut-owned elements ts pieces cut = (
  numbered-apart 0 (length pieces),
  λ k d within. let less = cut.numbered k d within in among (cut.number (get_or ts k d)) 0 (length pieces) (omega arith) (omega (arith, less)),
)
