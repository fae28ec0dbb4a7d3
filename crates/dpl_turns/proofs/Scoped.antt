-- What a turn may do with names, it does alike in two memories that go along.
use Rattle.std.proofs.Common.{◌≢◌, ◌≡◌, ℕ, ℤ, pos, Bool, true, false, List, [], ◌∷◌, Option, Some, None, Result, Ok, map, get_or, set, refl, sym, ap, ◌∙◌, subst, arith}
use Rattle.std.specs.Prelude.{not, ◌==◌, ◌&&◌, ◌||◌, option_map}
use Rattle.std.proofs.lemmas.Bool.Decides.{nat_tests}
use Rattle.std.proofs.lemmas.List.{append-nil, get_or-set_other, length-set}
use Rattle.dpl_sets.specs.TextRanges.{TextRange}
use Rattle.dpl_language.specs.Tree.{Op, Assign, Kind, Items}
use Rattle.dpl_language.specs.Values.{Value, Int, Range, Locale, Domain, Array, Tuple, Index, Fault, index_of, coordinates, number, kept_number, ranges_in, array_domain, is_domain}
use Rattle.dpl_language.specs.Arithmetic.{assigned}
use Rattle.dpl_language.specs.Ranges.{indices_in, loop_ranges}
use Rattle.dpl_language.specs.Distributions.{Root}
use Rattle.dpl_language.specs.Outcome.{with_ok}
use Rattle.dpl_language.specs.Environment.{Content, Plain, ArrayOf, CellOf, Limits}
use Rattle.dpl_language.specs.Expressions.{items_of, more_items}
use Rattle.dpl_words.specs.Words.{IntLeaf, TruthLeaf, RangeLeaf, LocaleLeaf, is_true, no_range, first_range, intent_at}
use Rattle.dpl_memory.specs.Memory.{VariableKind, PlainKind, DomainKind, TupleKind, CellKind, ArrayKind, Variable, int_leaf, truth_leaf, Memory, Rest, no_domain, no_tuple, array_at, held_at, element_as, value_in, with_value_in, element_in, with_element_in, undealt, root_in, with_root, anew, is_among, in_memory}
use Rattle.dpl_agreement.specs.Scopes.{form_of}
use Rattle.dpl_agreement.specs.Renamed.{renamed_content}
use Rattle.dpl_agreement.specs.Agreement.{Simulates}
use Rattle.dpl_agreement.proofs.RunsAlike.{All-every}
use Rattle.dpl_apart.specs.Operands.{all_combined, AreExact}
use Rattle.dpl_apart.specs.Memories.{Changes, Row, IsFormed, IsLike, operators_of}
use Rattle.dpl_turns.specs.Alongside.{slots_of, NumbersAlong, ValuesAlong, IsAlongside}
use Rattle.dpl_turns.specs.Bodies.{OwnNames, NoNames, OneInt, Ints, OneTuple, own_slots, more_ints, IsOwn, Hold, is_free, adds_by, is_none, is_reduced, begins_anew, may_assign, may_declare, ReadsAt, ReadsElement, AssignsAt, AssignsElement, turn_scoping}
use Rattle.dpl_turns.proofs.Lists.{set-alike}
use Rattle.dpl_turns.proofs.Ends.{apart-slots, kept-slots, element-along, lent-along, domains-along}
use Rattle.dpl_turns.proofs.Added.{word_after, int-added, truth-added, words-unset, added-both, intent-there}
use Rattle.dpl_turns.proofs.Begins.{put-along}

and-both : (a b : Bool) → (a && b) ≡ true → (a ≡ true) × (b ≡ true)
and-both true b e = (refl, e)
and-both false b e = absurd cc

not-true : (a : Bool) → not a ≡ true → a ≡ false
not-true true e = absurd cc
not-true false e = refl

apart-from : (slots : List ℕ) (i j : ℕ) → is_among i slots ≡ true → is_among j slots ≡ false → j ≢ i
apart-from slots i j among other same = let there : is_among j slots ≡ true = ap (λ i. is_among i slots) same ∙ among in let both : true ≡ false = sym there ∙ other in cc

-- ---- a loop's variables
others-unset : (slots : List ℕ) (ns : List ℤ) (slot : ℕ) (y : ℤ) → is_among slot slots ≡ false → map (λ i. get_or (set ns slot y) i (pos 0)) slots ≡ map (λ i. get_or ns i (pos 0)) slots
others-unset [] ns slot y h = refl
others-unset (i ∷ is) ns slot y h = by (slot == i) refl h (others-unset is ns slot y) where
  by : (c : Bool) → (slot == i) ≡ c → (c || is_among slot is) ≡ false → (is_among slot is ≡ false → map (λ i. get_or (set ns slot y) i (pos 0)) is ≡ map (λ i. get_or ns i (pos 0)) is)
      → map (λ i. get_or (set ns slot y) i (pos 0)) (i ∷ is) ≡ map (λ i. get_or ns i (pos 0)) (i ∷ is)
  by true e h rest = absurd cc
  by false e h rest =
      let other : i ≢ slot = grind (arith, nat_tests) in
      let here = get_or-set_other ns slot i y (pos 0) other in
      let behind = rest h in
      λ k. here k ∷ behind k

-- and not by what is put into another slot
apart-of : (slot i : ℕ) (c : Bool) → (slot == i) ≡ c → (c || false) ≡ false → i ≢ slot
apart-of slot i true e none = absurd cc
apart-of slot i false e none = grind (arith, nat_tests)

hold-number : (own : OwnNames) (t : Index) (ns : List ℤ) (ts : List Index) (slot : ℕ) (y : ℤ) → is_among slot (own_slots own) ≡ false → Hold own t ns ts → Hold own t (set ns slot y) ts
hold-number NoNames t ns ts slot y none held = tt
hold-number (OneInt i) t ns ts slot y none held = ap (λ w. w ∷ []) (get_or-set_other ns slot i y (pos 0) (apart-of slot i (slot == i) refl none)) ∙ held
hold-number (Ints first others) t ns ts slot y none held = others-unset (first ∷ others) ns slot y none ∙ held
hold-number (OneTuple i) t ns ts slot y none held = held

hold-tuple : (own : OwnNames) (t : Index) (ns : List ℤ) (ts : List Index) (slot : ℕ) (v : Index) → is_among slot (own_slots own) ≡ false → Hold own t ns ts → Hold own t ns (set ts slot v)
hold-tuple NoNames t ns ts slot v none held = tt
hold-tuple (OneInt i) t ns ts slot v none held = held
hold-tuple (Ints first others) t ns ts slot v none held = held
hold-tuple (OneTuple i) t ns ts slot v none held = get_or-set_other ts slot i v no_tuple (apart-of slot i (slot == i) refl none) ∙ held

module _ (limits : Limits) where
  ints-given : (slots : List ℕ) (s : Memory) → more_items limits in_memory (more_ints slots) s ≡ Ok (map (λ slot. Int (get_or s.words.numbers slot (pos 0))) slots)
  ints-given [] s = refl
  ints-given (slot ∷ slots) s = ap (λ r. with_ok r (λ vs. Ok (Int (get_or s.words.numbers slot (pos 0)) ∷ vs))) (ints-given slots s)

  ints-index : (slots : List ℕ) (s : Memory) → index_of (map (λ slot. Int (get_or s.words.numbers slot (pos 0))) slots) ≡ map (λ slot. get_or s.words.numbers slot (pos 0)) slots
  ints-index [] s = refl
  ints-index (slot ∷ slots) s = ap (λ is. get_or s.words.numbers slot (pos 0) ∷ is) (ints-index slots s)

  same-given : (r : Result (List Value) Fault) (vs ws : List Value) → r ≡ Ok vs → r ≡ Ok ws → vs ≡ ws
  same-given r vs ws e f = let both : Ok vs ≡ Ok ws = sym e ∙ f in cc

  -- their values are the turn's own index
  own-index : (own : OwnNames) (t : Index) (items : Items Variable) (vs : List Value) (s : Memory) → IsOwn own items → Hold own t s.words.numbers s.tuples → items_of limits in_memory items s ≡ Ok vs
      → index_of vs ≡ t
  own-index NoNames t items vs s is held given = absurd is
  own-index (OneInt slot) t items vs s is held given =
      ap index_of (same-given (items_of limits in_memory items s) vs (Int (get_or s.words.numbers slot (pos 0)) ∷ []) given (ap (λ items. items_of limits in_memory items s) is)) ∙ held
  own-index (Ints slot slots) t items vs s is held given =
      ap index_of
      (same-given (items_of limits in_memory items s) vs (map (λ slot. Int (get_or s.words.numbers slot (pos 0))) (slot ∷ slots)) given
      (ap (λ items. items_of limits in_memory items s) is ∙ ap (λ r. with_ok r (λ vs. Ok (Int (get_or s.words.numbers slot (pos 0)) ∷ vs))) (ints-given slots s)))
      ∙ ints-index (slot ∷ slots) s ∙ held
  own-index (OneTuple slot) t items vs s is held given =
      ap index_of (same-given (items_of limits in_memory items s) vs (Tuple (get_or s.tuples slot no_tuple) ∷ []) given (ap (λ items. items_of limits in_memory items s) is))
      ∙ append-nil (get_or s.tuples slot no_tuple) ∙ held

-- ---- numbers and other values
numbers-put : (h : Changes) (kept words ns ms : List ℤ) (slot : ℕ) (y : ℤ) → is_among slot h.numbers ≡ true → is_among slot (slots_of h.reduced) ≡ false → NumbersAlong h kept words ns ms
    → NumbersAlong h kept words (set ns slot y) (set ms slot y)
numbers-put h kept words ns ms slot y among apart along = record {
  same = λ j other. set-alike ns ms slot j y (pos 0) (along.first_slots ∙ sym along.second_slots) (λ e. along.same j other);
  reduced = words-unset h.reduced ms slot y apart ∙ along.reduced ∙ sym (ap (all_combined (operators_of h.reduced) words) (words-unset h.reduced ns slot y apart));
  exact = subst (AreExact (operators_of h.reduced)) (sym (words-unset h.reduced ns slot y apart)) along.exact;
  stay = λ j kept. get_or-set_other ms slot j y (pos 0) (apart-from h.numbers slot j among (kept-slots h j kept).0) ∙ along.stay j kept;
  first_slots = length-set ns slot y ∙ along.first_slots;
  second_slots = length-set ms slot y ∙ along.second_slots;
}

numbers-added : (h : Changes) (b : Memory) → IsFormed h b → (words ns ms : List ℤ) (slot : ℕ) (p : Op) (v : Value) → AreExact (operators_of h.reduced) words → is_free p ≡ true → intent_at slot h.reduced ≡ Some p
    → NumbersAlong h b.words.numbers words ns ms
    → NumbersAlong h b.words.numbers words (set ns slot (word_after p (get_or ns slot (pos 0)) v)) (set ms slot (word_after p (get_or ms slot (pos 0)) v))
numbers-added h b formed words ns ms slot p v exact free at along =
    let its = intent-there h.reduced slot p b.words.numbers at formed.there in
    let below = its.1 in
    let first = along.first_slots in
    let second = along.second_slots in
    let y1 : ℤ = word_after p (get_or ns slot (pos 0)) v in
    let y2 : ℤ = word_after p (get_or ms slot (pos 0)) v in
    let both = added-both h.reduced words ns ms slot p v formed.apart (omega (arith, below, first)) (omega (arith, below, second)) free at exact (along.reduced, along.exact) in
    record {
      same = λ j other.
          get_or-set_other ns slot j y1 (pos 0) (apart-from (slots_of h.reduced) slot j its.0 other) ∙ along.same j other
          ∙ sym (get_or-set_other ms slot j y2 (pos 0) (apart-from (slots_of h.reduced) slot j its.0 other));
      reduced = both.0;
      exact = both.1;
      stay = λ j kept. get_or-set_other ms slot j y2 (pos 0) (apart-from (slots_of h.reduced) slot j its.0 (kept-slots h j kept).1) ∙ along.stay j kept;
      first_slots = length-set ns slot y1 ∙ along.first_slots;
      second_slots = length-set ms slot y2 ∙ along.second_slots;
    }

values-put : {A : Type 0} (d : A) (slots : List ℕ) (kept xs ys : List A) (slot : ℕ) (v w : A) → is_among slot slots ≡ true → v ≡ w → ValuesAlong d slots kept xs ys → ValuesAlong d slots kept (set xs slot v) (set ys slot w)
values-put d slots kept xs ys slot v w among e along = record {
  same = (λ i. set (along.same i) slot (e i));
  stay = λ j none. get_or-set_other ys slot j w d (apart-from slots slot j among none) ∙ along.stay j none;
  long = length-set ys slot w ∙ along.long;
}

-- ---- the laws of environments that agree
module _ (limits : Limits) (h : Changes) (own : OwnNames) (t : Index) (first second : Memory) (formed_first : IsFormed h first) (formed : IsFormed h second) (like : IsLike h t first second) (rows : Index → Row) (words : List ℤ) (exact : AreExact (operators_of h.reduced) words) where
  abbrev pub GoAlong : Unit {0} → Memory → Memory → Type 0
  GoAlong g s u = IsAlongside h t first second rows words s u × Hold own t u.words.numbers u.tuples

  gets : (k : VariableKind) (slot : ℕ) (s u : Memory) → GoAlong tt s u → is_reduced h own k slot ≡ false → value_in k slot s ≡ value_in k slot u
  gets (PlainKind IntLeaf) slot s u r e = ap (λ w. Int w) (r.0.numbers.same slot e)
  gets (PlainKind TruthLeaf) slot s u r e = ap is_true (r.0.numbers.same slot e)
  gets (PlainKind RangeLeaf) slot s u r e = ap (λ rs. Range (get_or rs slot no_range)) r.0.ranges.same
  gets (PlainKind LocaleLeaf) slot s u r e = ap (λ w. Locale w) (r.0.numbers.same slot e)
  gets DomainKind slot s u r e = ap (λ ds. Domain (get_or ds slot no_domain)) r.0.domains.0
  gets TupleKind slot s u r e = ap (λ ts. Tuple (get_or ts slot no_tuple)) r.0.tuples.same
  gets (ArrayKind k) slot s u r e = ap (λ rs. Array k rs) (domains-along h t first second formed_first formed like rows words s u r.0 slot)
  gets (CellKind k) slot s u r e = refl

  whole-targets : (k : VariableKind) (slot : ℕ) (s u : Memory) → GoAlong tt s u → array_domain (value_in k slot s) ≡ array_domain (value_in k slot u)
  whole-targets (PlainKind IntLeaf) slot s u r = refl
  whole-targets (PlainKind TruthLeaf) slot s u r = refl
  whole-targets (PlainKind RangeLeaf) slot s u r = refl
  whole-targets (PlainKind LocaleLeaf) slot s u r = refl
  whole-targets DomainKind slot s u r = refl
  whole-targets TupleKind slot s u r = refl
  whole-targets (ArrayKind k) slot s u r = ap (λ rs. Some rs) (domains-along h t first second formed_first formed like rows words s u r.0 slot)
  whole-targets (CellKind c) slot s u r = refl

  domain-targets : (k : VariableKind) (slot : ℕ) (s u : Memory) → is_domain (value_in k slot s) ≡ is_domain (value_in k slot u)
  domain-targets (PlainKind IntLeaf) slot s u = refl
  domain-targets _ slot s u = refl

  no-domain : (k : VariableKind) (slot : ℕ) (op : Assign) (s : Memory) → may_assign h own k slot op ≡ true → is_domain (value_in k slot s) ≡ true → ⊥
  no-domain (PlainKind IntLeaf) slot op s may is = cc
  no-domain _ slot op s may is = cc

  -- a number that is put to both
  with-numbers : (s u : Memory) (slot : ℕ) (y z : ℤ) → GoAlong tt s u → is_among slot (own_slots own) ≡ false
      → NumbersAlong h second.words.numbers words (set s.words.numbers slot y) (set u.words.numbers slot z)
      → GoAlong tt (record s { words = record s.words { numbers = set s.words.numbers slot y } }) (record u { words = record u.words { numbers = set u.words.numbers slot z } })
  with-numbers s u slot y z r none numbers = (
    record {
      arrays = r.0.arrays;
      numbers = numbers;
      ranges = r.0.ranges;
      tuples = r.0.tuples;
      domains = r.0.domains;
      rest = r.0.rest;
      intents = r.0.intents;
      sets = r.0.sets;
    },
    hold-number own t u.words.numbers u.tuples slot z none r.1,
  )

  begun-number : (s u : Memory) (slot : ℕ) (y z : ℤ) → GoAlong tt s u → (is_among slot h.numbers && not (is_among slot (own_slots own))) ≡ true → y ≡ z
      → GoAlong tt (record s { words = record s.words { numbers = set s.words.numbers slot y } }) (record u { words = record u.words { numbers = set u.words.numbers slot z } })
  begun-number s u slot y z r begins e =
      let both = and-both (is_among slot h.numbers) (not (is_among slot (own_slots own))) begins in
      with-numbers s u slot y z r (not-true (is_among slot (own_slots own)) both.1)
      (subst (λ z. NumbersAlong h second.words.numbers words (set s.words.numbers slot y) (set u.words.numbers slot z)) e
      (numbers-put h second.words.numbers words s.words.numbers u.words.numbers slot y both.0 (apart-slots h.reduced h.numbers slot formed.stay both.0) r.0.numbers))

  added-number : (s u : Memory) (slot : ℕ) (p : Op) (v : Value) (y z : ℤ) → GoAlong tt s u → not (is_among slot (own_slots own)) ≡ true → is_free p ≡ true → intent_at slot h.reduced ≡ Some p
      → y ≡ word_after p (get_or s.words.numbers slot (pos 0)) v → z ≡ word_after p (get_or u.words.numbers slot (pos 0)) v
      → GoAlong tt (record s { words = record s.words { numbers = set s.words.numbers slot y } }) (record u { words = record u.words { numbers = set u.words.numbers slot z } })
  added-number s u slot p v y z r none free at first_word second_word =
      with-numbers s u slot y z r (not-true (is_among slot (own_slots own)) none)
      (subst (λ y. NumbersAlong h second.words.numbers words (set s.words.numbers slot y) (set u.words.numbers slot z)) (sym first_word)
      (subst (λ z. NumbersAlong h second.words.numbers words (set s.words.numbers slot (word_after p (get_or s.words.numbers slot (pos 0)) v)) (set u.words.numbers slot z)) (sym second_word)
      (numbers-added h second formed words s.words.numbers u.words.numbers slot p v exact free at r.0.numbers)))

  begun-range : (s u : Memory) (slot : ℕ) (v w : TextRange) → GoAlong tt s u → (is_among slot h.ranges && not (is_among slot (own_slots own))) ≡ true → v ≡ w
      → GoAlong tt (record s { words = record s.words { ranges = set s.words.ranges slot v } }) (record u { words = record u.words { ranges = set u.words.ranges slot w } })
  begun-range s u slot v w r begins e = (
    record {
      arrays = r.0.arrays;
      numbers = r.0.numbers;
      ranges = values-put no_range h.ranges second.words.ranges s.words.ranges u.words.ranges slot v w (and-both (is_among slot h.ranges) (not (is_among slot (own_slots own))) begins).0 e r.0.ranges;
      tuples = r.0.tuples;
      domains = r.0.domains;
      rest = r.0.rest;
      intents = r.0.intents;
      sets = r.0.sets;
    },
    r.1,
  )

  begun-tuple : (s u : Memory) (slot : ℕ) (v : Index) → GoAlong tt s u → (is_among slot h.tuples && not (is_among slot (own_slots own))) ≡ true
      → GoAlong tt (record s { tuples = set s.tuples slot v }) (record u { tuples = set u.tuples slot v })
  begun-tuple s u slot v r begins =
      let both = and-both (is_among slot h.tuples) (not (is_among slot (own_slots own))) begins in (
        record {
          arrays = r.0.arrays;
          numbers = r.0.numbers;
          ranges = r.0.ranges;
          tuples = values-put no_tuple h.tuples second.tuples s.tuples u.tuples slot v v both.0 refl r.0.tuples;
          domains = r.0.domains;
          rest = r.0.rest;
          intents = r.0.intents;
          sets = r.0.sets;
        },
        hold-tuple own t u.words.numbers u.tuples slot v (not-true (is_among slot (own_slots own)) both.1) r.1,
      )

  -- a reduce variable that is changed by its operator
  added-int : (s u : Memory) (slot : ℕ) (op : Assign) (v : Value) (o : Option Op) → GoAlong tt s u → intent_at slot h.reduced ≡ o → (not (is_among slot (own_slots own)) && adds_by IntLeaf op o) ≡ true
      → GoAlong tt (in_memory.update (int_leaf slot) op v s) (in_memory.update (int_leaf slot) op v u)
  added-int s u slot op v None r at may = absurd (let no = (and-both (not (is_among slot (own_slots own))) false may).1 in cc)
  added-int s u slot op v (Some p) r at may =
      let parts = and-both (not (is_among slot (own_slots own))) (adds_by IntLeaf op (Some p)) may in
      let its : (m : Memory) → m.words.intents ≡ h.reduced → (number (assigned op (intent_at slot m.words.intents) (Int (get_or m.words.numbers slot (pos 0))) v) ≡ word_after p (get_or m.words.numbers slot (pos 0)) v) =
      λ m e. ap (λ o. number (assigned op o (Int (get_or m.words.numbers slot (pos 0))) v)) (ap (intent_at slot) e ∙ at) ∙ (int-added op p (get_or m.words.numbers slot (pos 0)) v parts.1).0 in
      let second_intents : u.words.intents ≡ h.reduced = r.0.intents.1 ∙ formed.intents in
      added-number s u slot p v (number (assigned op (intent_at slot s.words.intents) (Int (get_or s.words.numbers slot (pos 0))) v)) (number (assigned op (intent_at slot u.words.intents) (Int (get_or u.words.numbers slot (pos 0))) v))
      r parts.0 (int-added op p (pos 0) v parts.1).1 at (its s (r.0.intents.0 ∙ second_intents)) (its u second_intents)

  added-truth : (s u : Memory) (slot : ℕ) (op : Assign) (v : Value) (o : Option Op) → GoAlong tt s u → intent_at slot h.reduced ≡ o → (not (is_among slot (own_slots own)) && adds_by TruthLeaf op o) ≡ true
      → GoAlong tt (in_memory.update (truth_leaf slot) op v s) (in_memory.update (truth_leaf slot) op v u)
  added-truth s u slot op v None r at may = absurd (let no = (and-both (not (is_among slot (own_slots own))) false may).1 in cc)
  added-truth s u slot op v (Some p) r at may =
      let parts = and-both (not (is_among slot (own_slots own))) (adds_by TruthLeaf op (Some p)) may in
      let its : (m : Memory) → m.words.intents ≡ h.reduced → (kept_number (assigned op (intent_at slot m.words.intents) (is_true (get_or m.words.numbers slot (pos 0))) v) ≡ word_after p (get_or m.words.numbers slot (pos 0)) v) =
      λ m e. ap (λ o. kept_number (assigned op o (is_true (get_or m.words.numbers slot (pos 0))) v)) (ap (intent_at slot) e ∙ at) ∙ (truth-added op p (get_or m.words.numbers slot (pos 0)) v parts.1).0 in
      let second_intents : u.words.intents ≡ h.reduced = r.0.intents.1 ∙ formed.intents in
      added-number s u slot p v (kept_number (assigned op (intent_at slot s.words.intents) (is_true (get_or s.words.numbers slot (pos 0))) v)) (kept_number (assigned op (intent_at slot u.words.intents) (is_true (get_or u.words.numbers slot (pos 0))) v))
      r parts.0 (truth-added op p (pos 0) v parts.1).1 at (its s (r.0.intents.0 ∙ second_intents)) (its u second_intents)

  -- what is assigned, from old values that are the same
  assigned-same : (k : VariableKind) (slot : ℕ) (op : Assign) (v : Value) (s u : Memory) → GoAlong tt s u → is_reduced h own k slot ≡ false
      → assigned op (intent_at slot s.words.intents) (value_in k slot s) v ≡ assigned op (intent_at slot u.words.intents) (value_in k slot u) v
  assigned-same k slot op v s u r e = let old = gets k slot s u r e in let intents = r.0.intents.0 in λ i. assigned op (intent_at slot (intents i)) (old i) v

  begins-apart : (slot : ℕ) → (is_among slot h.numbers && not (is_among slot (own_slots own))) ≡ true → is_among slot (slots_of h.reduced) ≡ false
  begins-apart slot begins = apart-slots h.reduced h.numbers slot formed.stay (and-both (is_among slot h.numbers) (not (is_among slot (own_slots own))) begins).0

  updates : (k : VariableKind) (slot : ℕ) (op : Assign) (v : Value) (s u : Memory) → GoAlong tt s u → may_assign h own k slot op ≡ true
      → GoAlong tt (with_value_in k slot (assigned op (intent_at slot s.words.intents) (value_in k slot s) v) s) (with_value_in k slot (assigned op (intent_at slot u.words.intents) (value_in k slot u) v) u)
  updates (PlainKind IntLeaf) slot op v s u r may = by (begins_anew h own (PlainKind IntLeaf) slot) refl may where
    by : (c : Bool) → begins_anew h own (PlainKind IntLeaf) slot ≡ c → (c || (not (is_among slot (own_slots own)) && adds_by IntLeaf op (intent_at slot h.reduced))) ≡ true
        → GoAlong tt (in_memory.update (int_leaf slot) op v s) (in_memory.update (int_leaf slot) op v u)
    by true begins may = begun-number s u slot _ _ r begins (ap number (assigned-same (PlainKind IntLeaf) slot op v s u r (begins-apart slot begins)))
    by false begins may = added-int s u slot op v (intent_at slot h.reduced) r refl may
  updates (PlainKind TruthLeaf) slot op v s u r may = by (begins_anew h own (PlainKind TruthLeaf) slot) refl may where
    by : (c : Bool) → begins_anew h own (PlainKind TruthLeaf) slot ≡ c → (c || (not (is_among slot (own_slots own)) && adds_by TruthLeaf op (intent_at slot h.reduced))) ≡ true
        → GoAlong tt (in_memory.update (truth_leaf slot) op v s) (in_memory.update (truth_leaf slot) op v u)
    by true begins may = begun-number s u slot _ _ r begins (ap kept_number (assigned-same (PlainKind TruthLeaf) slot op v s u r (begins-apart slot begins)))
    by false begins may = added-truth s u slot op v (intent_at slot h.reduced) r refl may
  updates (PlainKind RangeLeaf) slot op v s u r may = begun-range s u slot _ _ r may (ap (λ v. first_range (ranges_in v)) (assigned-same (PlainKind RangeLeaf) slot op v s u r refl))
  updates (PlainKind LocaleLeaf) slot op v s u r may = begun-number s u slot _ _ r may (ap number (assigned-same (PlainKind LocaleLeaf) slot op v s u r (begins-apart slot may)))
  updates DomainKind slot op v s u r may = absurd cc
  updates TupleKind slot op v s u r may = absurd cc
  updates (ArrayKind k) slot op v s u r may = r
  updates (CellKind c) slot op v s u r may = absurd cc

  -- ---- elements
  element-same : (slot : ℕ) (i : Index) (s u : Memory) → GoAlong tt s u → (is_among slot h.written ≡ true → i ≡ t) → held_at i (array_at slot s) ≡ held_at i (array_at slot u)
  element-same slot i s u r may = by (is_among slot h.written) refl where
    by : (c : Bool) → is_among slot h.written ≡ c → held_at i (array_at slot s) ≡ held_at i (array_at slot u)
    by true e = subst (λ i. held_at i (array_at slot s) ≡ held_at i (array_at slot u)) (sym (may e)) (element-along h t first second formed_first formed like rows words s u r.0 slot e)
    by false e = lent-along h t first second formed_first formed like rows words s u r.0 slot e i

  elements-at : (k : VariableKind) (slot : ℕ) (i : Index) (s u : Memory) → GoAlong tt s u → ReadsAt h own k slot i t → element_in k slot i s ≡ element_in k slot i u
  elements-at (ArrayKind k) slot i s u r may = ap (option_map (element_as k)) (element-same slot i s u r may)
  elements-at _ slot i s u r may = refl

  elements : (k : VariableKind) (slot : ℕ) (items : Items Variable) (vs : List Value) (s u : Memory) → GoAlong tt s u → ReadsElement h own k slot items → items_of limits in_memory items u ≡ Ok vs
      → element_in k slot (index_of vs) s ≡ element_in k slot (index_of vs) u
  elements (ArrayKind k) slot items vs s u r may given = ap (option_map (element_as k)) (element-same slot (index_of vs) s u r (λ e. own-index limits own t items vs u (may e) r.1 given))
  elements _ slot items vs s u r may given = refl

  puts-array : (k : Kind) (slot : ℕ) (i : Index) (v : Value) (s u : Memory) → GoAlong tt s u → is_among slot h.written ≡ true → i ≡ t
      → GoAlong tt (with_element_in (ArrayKind k) slot i v s) (with_element_in (ArrayKind k) slot i v u)
  puts-array k slot i v s u r written here =
      subst (λ i. GoAlong tt (with_element_in (ArrayKind k) slot i v s) (with_element_in (ArrayKind k) slot i v u)) (sym here)
      (put-along h t first second formed_first formed rows words slot k v s u written r.0, r.1)

  puts-at : (k : VariableKind) (slot : ℕ) (i : Index) (v : Value) (s u : Memory) → GoAlong tt s u → AssignsAt h own k slot i t → GoAlong tt (with_element_in k slot i v s) (with_element_in k slot i v u)
  puts-at (ArrayKind k) slot i v s u r may = puts-array k slot i v s u r may.0 may.1
  puts-at _ slot i v s u r may = r

  puts : (k : VariableKind) (slot : ℕ) (items : Items Variable) (vs : List Value) (v : Value) (s u : Memory) → GoAlong tt s u → AssignsElement h own k slot items → items_of limits in_memory items u ≡ Ok vs
      → GoAlong tt (with_element_in k slot (index_of vs) v s) (with_element_in k slot (index_of vs) v u)
  puts (ArrayKind k) slot items vs v s u r may given = puts-array k slot (index_of vs) v s u r may.0 (own-index limits own t items vs u may.1 r.1 given)
  puts _ slot items vs v s u r may given = r

  -- ---- declarations
  declares-value : (k : VariableKind) (slot : ℕ) (along : List ℕ) (v : Value) (s u : Memory) → GoAlong tt s u → (begins_anew h own k slot && is_none along) ≡ true
      → GoAlong tt (undealt k slot (with_value_in k slot v (anew along s))) (undealt k slot (with_value_in k slot v (anew along u)))
  declares-value k slot (i ∷ is) v s u r may = absurd (let no = (and-both (begins_anew h own k slot) false may).1 in cc)
  declares-value (PlainKind IntLeaf) slot [] v s u r may = begun-number s u slot (number v) (number v) r (and-both (begins_anew h own (PlainKind IntLeaf) slot) true may).0 refl
  declares-value (PlainKind TruthLeaf) slot [] v s u r may = begun-number s u slot (kept_number v) (kept_number v) r (and-both (begins_anew h own (PlainKind TruthLeaf) slot) true may).0 refl
  declares-value (PlainKind RangeLeaf) slot [] v s u r may =
      begun-range s u slot (first_range (ranges_in v)) (first_range (ranges_in v)) r (and-both (begins_anew h own (PlainKind RangeLeaf) slot) true may).0 refl
  declares-value (PlainKind LocaleLeaf) slot [] v s u r may = begun-number s u slot (number v) (number v) r (and-both (begins_anew h own (PlainKind LocaleLeaf) slot) true may).0 refl
  declares-value DomainKind slot [] v s u r may = absurd cc
  declares-value TupleKind slot [] v s u r may = begun-tuple s u slot (coordinates v) r (and-both (begins_anew h own TupleKind slot) true may).0
  declares-value (ArrayKind k) slot [] v s u r may = absurd cc
  declares-value (CellKind k) slot [] v s u r may = absurd cc

  declares : (x : Variable) (c : Content Variable) (s u : Memory) → GoAlong tt s u → may_declare h own x (form_of c) ≡ true
      → GoAlong tt (in_memory.declare x (renamed_content (λ x. x) c) s) (in_memory.declare x c u)
  declares x (Plain v) s u r may = declares-value x.kind x.slot x.along v s u r may
  declares x (ArrayOf over k rs vs) s u r may = absurd cc
  declares x (CellOf k c) s u r may = absurd cc

  deals : (slot : ℕ) (root : Root) (s u : Memory) → GoAlong tt s u → GoAlong tt (with_root slot root s) (with_root slot root u)
  deals slot root s u r = (
    record {
      arrays = r.0.arrays;
      numbers = r.0.numbers;
      ranges = r.0.ranges;
      tuples = r.0.tuples;
      domains = r.0.domains;
      rest = ap (λ (m : Rest). record m { roots = set m.roots slot root }) r.0.rest;
      intents = r.0.intents;
      sets = r.0.sets;
    },
    r.1,
  )

  -- So the two memories agree on whatever fits in a turn.
  pub turn-simulates : Simulates limits (λ x. x) (turn_scoping h own t) in_memory in_memory GoAlong
  turn-simulates = record {
    lawful = record { leave-enter = λ g. refl; leave-add = λ x form g. refl; reads-add = λ x form g f. f.1 };
    gets = λ x g s u r f. gets x.kind x.slot s u r f;
    whole_targets = λ x op g s u r f. whole-targets x.kind x.slot s u r;
    domain_targets = λ x op g s u r f. domain-targets x.kind x.slot s u;
    updates = λ x op v g s u r f held. updates x.kind x.slot op v s u r f;
    elements_at = λ x i g s u r f. elements-at x.kind x.slot i s u r f;
    elements = λ x items vs g s u r f given. elements x.kind x.slot items vs s u r f given;
    puts_at = λ x i v g s u r f held. puts-at x.kind x.slot i v s u r f;
    puts = λ x items vs v g s u r f given held. puts x.kind x.slot items vs v s u r f given;
    declares = λ x c g s u r f held. declares x c s u r f.0;
    roots = λ x g s u r f d. ap (λ (m : Rest). root_in x.kind x.slot m.roots) r.0.rest;
    deals = λ x root g s u r f d. deals x.slot root s u r;
    gives = λ x g s u r f. absurd f;
    suited = λ x item v g s u r f w e. tt;
    suited_new = λ x item v g s u r f d e. tt;
    suited_element = λ x item v g s u r f e. tt;
    suited_once = λ x item v g s u r f w e. tt;
    suited_turn = λ x item i v g s u r f w p e. tt;
    suited_initial = λ x over item i v g s u r f d p e. tt;
    changed = λ x op i old w g s u r f e held. tt;
    turned = λ x item over g s u r f e. All-every (λ i. Unit {0}) (λ i. tt) (indices_in (loop_ranges limits.locales over));
    spanned = λ x from items v g s u r f d e. tt;
    spanned_array = λ x over k from items v vs g s u r f e held. tt;
    given_holds = λ x v g s u r f e. tt;
    enters = λ g s u r. r;
    leaves = λ g in_scope s u s2 u2 before out r. r;
    intends = λ is g s u r f. absurd f;
    ends_forall = λ is g s u r f. absurd f;
    notes = λ at rs done g s u r. refl;
    has = λ x op g s u r f w. refl;
    redomains = λ x op v g s u r f w held. absurd (no-domain x.kind x.slot op w.1 f w.3);
    heres = λ g s u r. ap (λ (m : Rest). m.here) r.0.rest;
    moves = λ k g s u r f. absurd f;
    calls = λ x op g s u r f. absurd f;
    cells = λ x g s u r f. absurd f;
    histories = λ x g s u r f. absurd f;
    begins = λ x rs g s u r f. absurd f;
    settles = λ x past g s u r f. absurd f;
  }
