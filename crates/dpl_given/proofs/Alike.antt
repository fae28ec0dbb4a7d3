-- By its slot a name is given what it is given by its text, where the sets fit the names in sight.
-- A name of no int and no bool is given nothing.
use Rattle.std.proofs.Common.{◌≡◌, ◌≢◌, ℕ, ℤ, pos, Bool, true, false, not, ◌&&◌, List, [], ◌∷◌, ◌++◌, Option, Some, None, refl, sym, ap, ◌∙◌, arith}
use Rattle.std.specs.Prelude.{◌==◌, bytes_eq, codes, if◌then◌else◌, option_map, option_and_then}
use Rattle.dpl_rules.specs.Verdicts.{where_given}
use Rattle.std.proofs.lemmas.Bool.Decides.{nat_tests}
use Rattle.std.proofs.lemmas.Slice.Eq.{bytes_eq-Decides}
use Rattle.dpl_language.specs.Tree.{Kind, IntKind, BoolKind}
use Rattle.dpl_language.specs.Values.{Value, Int, Truth}
use Rattle.dpl_language.specs.Names.{Text, paired}
use Rattle.dpl_rules.specs.Types.{ValueType, has, scalar_of}
use Rattle.dpl_rules.specs.Sights.{Declared, Scopes, lookup, type_declared}
use Rattle.dpl_rules.specs.Loops.{is_among}
use Rattle.dpl_rules.specs.Sound.{is_number_text, is_value_of, is_configured, fits_type, fits_declared, name_and_value, set_fits, and_name, sets_fit}
use Rattle.dpl_scopes.specs.Slots.{slot_in}
use Rattle.dpl_says.specs.Given.{number_by, value_by, word_by, words_by}
use Rattle.dpl_words.specs.Words.{LeafKind, IntLeaf, TruthLeaf, RangeLeaf, LocaleLeaf, is_true, set_at, given_as}
use Rattle.dpl_given.specs.Words.{word_of, word_at, word_in, words_in}
use Rattle.dpl_given.proofs.Slots.{slot_in-one}

-- the kind of an int's or a bool's name, by that of its leaf
abbrev pub kind_as : LeafKind → Option Kind
kind_as IntLeaf = Some IntKind
kind_as TruthLeaf = Some BoolKind
kind_as RangeLeaf = None
kind_as LocaleLeaf = None

both : (a b : Bool) → (a && b) ≡ true → (a ≡ true) × (b ≡ true)
both true true e = (refl, refl)
both true false e = absurd cc
both false b e = absurd cc

-- ---- a value
number-word : (text : List ℕ) (b : Bool) → b ≡ true → Int (number_by text) ≡ Int (if b then number_by text else pos 0)
number-word text true e = refl
number-word text false e = absurd cc

truth-word : (b : Bool) → Truth b ≡ is_true (if b then pos 1 else pos 0)
truth-word true = refl
truth-word false = refl

value-word : (k : LeafKind) (j : Kind) (text : List ℕ) → Some j ≡ kind_as k → is_value_of j text ≡ true → value_by j text ≡ given_as k (word_of j text)
value-word IntLeaf IntKind text e fits = number-word text (is_number_text text) fits
value-word IntLeaf BoolKind text e fits = absurd cc
value-word TruthLeaf IntKind text e fits = absurd cc
value-word TruthLeaf BoolKind text e fits = truth-word (bytes_eq text (codes "true"))
value-word RangeLeaf j text e fits = absurd cc
value-word LocaleLeaf j text e fits = absurd cc

typed-value : (j : Kind) (text : List ℕ) (t : Option ValueType) → option_and_then scalar_of t ≡ Some j → fits_type t text ≡ true → is_value_of j text ≡ true
typed-value j text None e fits = absurd cc
typed-value j text (Some t) e fits = sym (ap (λ o. has {A = Kind} (λ k. is_value_of k text) o) e) ∙ fits

declared-value : (j : Kind) (text : List ℕ) (o : Option Declared) → option_and_then scalar_of (type_declared o) ≡ Some j → fits_declared o text ≡ true → is_value_of j text ≡ true
declared-value j text None e fits = absurd cc
declared-value j text (Some d) e fits = typed-value j text d.type e (both (is_configured d.sort) (fits_type d.type text) fits).1

same_slot : (m n : ℕ) → m ≡ n → (m == n) ≡ true
same_slot m n e = grind (arith, nat_tests, e)

other_slot : (m n : ℕ) → m ≢ n → (m == n) ≡ false
other_slot m n e = grind (arith, nat_tests, e)

-- ---- one set
abbrev FitsWord : Scopes → Option (Text × List ℕ) → Type 0
FitsWord ss None = ⊥
FitsWord ss (Some p) = fits_declared (lookup ss p.0) p.1 ≡ true

module _ (ss : Scopes) (x : Text) (k : LeafKind) (slot : ℕ) (is : option_and_then scalar_of (type_declared (lookup ss x)) ≡ kind_as k) (at : slot_in ss x ≡ Some slot)
    (texts : List (Text × Value)) (words : List (ℕ × ℤ)) (behind : paired x texts ≡ option_map (given_as k) (set_at slot words)) where
  -- a set of the name itself
  own : (y : Text) (text : List ℕ) → fits_declared (lookup ss y) text ≡ true → x ≡ y → (j : Kind) → option_and_then scalar_of (type_declared (lookup ss y)) ≡ Some j → (m : ℕ) → slot_in ss y ≡ Some m
      → (if bytes_eq x y then Some (value_by j text) else paired x texts) ≡ option_map (given_as k) (if slot == m then Some (word_of j text) else set_at slot words)
  own y text fits same j kind m place =
      let one : Some slot ≡ Some m = sym at ∙ ap (slot_in ss) same ∙ place in
      let slots : slot ≡ m = cc in
      let kinds : Some j ≡ kind_as k = sym kind ∙ ap (λ z. option_and_then scalar_of (type_declared (lookup ss z))) (sym same) ∙ is in
      ap (λ b. if b then Some (value_by j text) else paired x texts) ((bytes_eq-Decides x y).1 same)
      ∙ ap Some (value-word k j text kinds (declared-value j text (lookup ss y) kind fits))
      ∙ sym (ap (λ b. option_map (given_as k) (if b then Some (word_of j text) else set_at slot words)) (same_slot slot m slots))

  -- a set of another name
  other : (y : Text) (text : List ℕ) → bytes_eq x y ≡ false → (j : Kind) (q : Option ℕ) → slot_in ss y ≡ q
      → (if bytes_eq x y then Some (value_by j text) else paired x texts) ≡ option_map (given_as k) (set_at slot (word_at (Some j) q text ++ words))
  other y text differ j None place = ap (λ b. if b then Some (value_by j text) else paired x texts) differ ∙ behind
  other y text differ j (Some m) place =
      let apart : slot ≢ m = λ e. (let same : x ≡ y = slot_in-one ss x y m (at ∙ ap Some e) place in let clash : true ≡ false = sym ((bytes_eq-Decides x y).1 same) ∙ differ in cc) in
      ap (λ b. if b then Some (value_by j text) else paired x texts) differ
      ∙ behind
      ∙ sym (ap (λ b. option_map (given_as k) (if b then Some (word_of j text) else set_at slot words)) (other_slot slot m apart))

  named : (y : Text) (text : List ℕ) → fits_declared (lookup ss y) text ≡ true → (o : Option Kind) → option_and_then scalar_of (type_declared (lookup ss y)) ≡ o → (q : Option ℕ) → slot_in ss y ≡ q
      → paired x (where_given o (λ j. (y, value_by j text) ∷ []) ++ texts) ≡ option_map (given_as k) (set_at slot (word_at o q text ++ words))
  named y text fits None kind q place = behind
  named y text fits (Some j) kind q place = by (bytes_eq x y) refl q place
    where
      by : (b : Bool) → bytes_eq x y ≡ b → (q : Option ℕ) → slot_in ss y ≡ q
          → (if bytes_eq x y then Some (value_by j text) else paired x texts) ≡ option_map (given_as k) (set_at slot (word_at (Some j) q text ++ words))
      by false e q place = other y text e j q place
      by true e None place =
          let same : x ≡ y = (bytes_eq-Decides x y).0 e in
          let clash : Some slot ≡ None = sym at ∙ ap (slot_in ss) same ∙ place in
          absurd cc
      by true e (Some m) place = own y text fits ((bytes_eq-Decides x y).0 e) j kind m place

  word : (p : Option (Text × List ℕ)) → FitsWord ss p → paired x (word_by ss p ++ texts) ≡ option_map (given_as k) (set_at slot (word_in ss p ++ words))
  word None fits = absurd fits
  word (Some p) fits = named p.0 p.1 fits (option_and_then scalar_of (type_declared (lookup ss p.0))) refl (slot_in ss p.0) refl

-- ---- all sets
fits-word : (ss : Scopes) (earlier : List Text) (p : Option (Text × List ℕ)) → set_fits ss earlier p ≡ true → FitsWord ss p
fits-word ss earlier None e = absurd cc
fits-word ss earlier (Some p) e = (both (not (is_among p.0 earlier)) (fits_declared (lookup ss p.0) p.1) e).1

module _ (ss : Scopes) (x : Text) (k : LeafKind) (slot : ℕ) (is : option_and_then scalar_of (type_declared (lookup ss x)) ≡ kind_as k) (at : slot_in ss x ≡ Some slot) where
  pub given-alike : (earlier : List Text) (sets : List (List ℕ)) → sets_fit ss earlier sets ≡ true → paired x (words_by ss sets) ≡ option_map (given_as k) (set_at slot (words_in ss sets))
  given-alike earlier [] fits = refl
  given-alike earlier (w ∷ ws) fits =
      let parts = both (set_fits ss earlier (name_and_value w)) (sets_fit ss (and_name (name_and_value w) earlier) ws) fits in
      word ss x k slot is at (words_by ss ws) (words_in ss ws) (given-alike (and_name (name_and_value w) earlier) ws parts.1) (name_and_value w) (fits-word ss earlier (name_and_value w) parts.0)
