-- Values of a kind, as words keep them: what is put into a slot of its kind is what is read there.
-- And what an assignment makes of values of a kind is one of that kind.
use Rattle.std.proofs.Common.{◌≡◌, ◌≢◌, ℕ, ◌<◌, ℤ, pos, Bool, true, false, refl, sym, ap, ◌∙◌, subst, Some, None, Option, List, length}
use Rattle.std.specs.Prelude.{get_or, set, option_map}
use Rattle.std.proofs.lemmas.List.{get_or-set_same, get_or-set_other, length-set}
use Rattle.dpl_sets.specs.TextRanges.{TextRange}
use Rattle.dpl_language.specs.Tree.{Op, Sum, Product, AllOf, AnyOf, BitAnd, BitOr, BitXor, Least, Greatest, Assign, Set, SetAdd, SetSubtract, SetMultiply, SetDivide, SetRemainder, SetReduce}
use Rattle.dpl_language.specs.Values.{Value, Int, Truth, Range, Locale, number, kept_number, ranges_in, array_domain, is_domain}
use Rattle.dpl_language.specs.Arithmetic.{combined, assigned}
use Rattle.dpl_words.specs.Words.{LeafKind, IntLeaf, TruthLeaf, RangeLeaf, LocaleLeaf, Words, no_range, first_range, is_true, value_at, with_value_at, given_as, IsOfKind, takes, combines, Combines}

-- READS AND WRITES
pub value_at-kind : (k : LeafKind) (slot : ℕ) (s : Words) → IsOfKind k (value_at k slot s)
value_at-kind IntLeaf slot s = (_, refl)
value_at-kind TruthLeaf slot s = (_, refl)
value_at-kind RangeLeaf slot s = (_, refl)
value_at-kind LocaleLeaf slot s = (_, refl)

pub value_at-no_domain : (k : LeafKind) (slot : ℕ) (s : Words) → is_domain (value_at k slot s) ≡ true → ⊥
value_at-no_domain IntLeaf slot s = λ e. cc
value_at-no_domain TruthLeaf slot s = λ e. cc
value_at-no_domain RangeLeaf slot s = λ e. cc
value_at-no_domain LocaleLeaf slot s = λ e. cc

pub value_at-no_array : (k : LeafKind) (slot : ℕ) (s : Words) (rs : List TextRange) → array_domain (value_at k slot s) ≡ Some rs → ⊥
value_at-no_array IntLeaf slot s rs = λ e. cc
value_at-no_array TruthLeaf slot s rs = λ e. cc
value_at-no_array RangeLeaf slot s rs = λ e. cc
value_at-no_array LocaleLeaf slot s rs = λ e. cc

is_true-kept : (b : Bool) → is_true (kept_number (Truth b)) ≡ Truth b
is_true-kept true = refl
is_true-kept false = refl

pub value_at-set_same : (k : LeafKind) (slot : ℕ) (v : Value) (s : Words) → IsOfKind k v → slot < length s.numbers → slot < length s.ranges → value_at k slot (with_value_at k slot v s) ≡ v
value_at-set_same IntLeaf slot v s p n r =
    ap (λ v. Int (get_or (set s.numbers slot (number v)) slot (pos 0))) p.1 ∙ ap (λ w. Int w) (get_or-set_same s.numbers slot p.0 (pos 0) n) ∙ sym p.1
value_at-set_same TruthLeaf slot v s p n r =
    ap (λ v. is_true (get_or (set s.numbers slot (kept_number v)) slot (pos 0))) p.1
    ∙ ap is_true (get_or-set_same s.numbers slot (kept_number (Truth p.0)) (pos 0) n) ∙ is_true-kept p.0 ∙ sym p.1
value_at-set_same RangeLeaf slot v s p n r =
    ap (λ v. Range (get_or (set s.ranges slot (first_range (ranges_in v))) slot no_range)) p.1 ∙ ap (λ w. Range w) (get_or-set_same s.ranges slot p.0 no_range r) ∙ sym p.1
value_at-set_same LocaleLeaf slot v s p n r =
    ap (λ v. Locale (get_or (set s.numbers slot (number v)) slot (pos 0))) p.1 ∙ ap (λ w. Locale w) (get_or-set_same s.numbers slot p.0 (pos 0) n) ∙ sym p.1

pub value_at-set_other : (j k : LeafKind) (i slot : ℕ) (v : Value) (s : Words) → i ≢ slot → value_at j i (with_value_at k slot v s) ≡ value_at j i s
value_at-set_other IntLeaf IntLeaf i slot v s ne = ap (λ w. Int w) (get_or-set_other s.numbers slot i (number v) (pos 0) ne)
value_at-set_other IntLeaf TruthLeaf i slot v s ne = ap (λ w. Int w) (get_or-set_other s.numbers slot i (kept_number v) (pos 0) ne)
value_at-set_other IntLeaf RangeLeaf i slot v s ne = refl
value_at-set_other IntLeaf LocaleLeaf i slot v s ne = ap (λ w. Int w) (get_or-set_other s.numbers slot i (number v) (pos 0) ne)
value_at-set_other TruthLeaf IntLeaf i slot v s ne = ap is_true (get_or-set_other s.numbers slot i (number v) (pos 0) ne)
value_at-set_other TruthLeaf TruthLeaf i slot v s ne = ap is_true (get_or-set_other s.numbers slot i (kept_number v) (pos 0) ne)
value_at-set_other TruthLeaf RangeLeaf i slot v s ne = refl
value_at-set_other TruthLeaf LocaleLeaf i slot v s ne = ap is_true (get_or-set_other s.numbers slot i (number v) (pos 0) ne)
value_at-set_other RangeLeaf IntLeaf i slot v s ne = refl
value_at-set_other RangeLeaf TruthLeaf i slot v s ne = refl
value_at-set_other RangeLeaf LocaleLeaf i slot v s ne = refl
value_at-set_other RangeLeaf RangeLeaf i slot v s ne = ap (λ r. Range r) (get_or-set_other s.ranges slot i (first_range (ranges_in v)) no_range ne)
value_at-set_other LocaleLeaf IntLeaf i slot v s ne = ap (λ w. Locale w) (get_or-set_other s.numbers slot i (number v) (pos 0) ne)
value_at-set_other LocaleLeaf TruthLeaf i slot v s ne = ap (λ w. Locale w) (get_or-set_other s.numbers slot i (kept_number v) (pos 0) ne)
value_at-set_other LocaleLeaf RangeLeaf i slot v s ne = refl
value_at-set_other LocaleLeaf LocaleLeaf i slot v s ne = ap (λ w. Locale w) (get_or-set_other s.numbers slot i (number v) (pos 0) ne)

pub value_at-intend : (k : LeafKind) (slot : ℕ) (is : List (ℕ × Op)) (s : Words) → value_at k slot s ≡ value_at k slot (record s { intents = is })
value_at-intend IntLeaf slot is s = refl
value_at-intend TruthLeaf slot is s = refl
value_at-intend RangeLeaf slot is s = refl
value_at-intend LocaleLeaf slot is s = refl

pub numbers-set : (k : LeafKind) (slot : ℕ) (v : Value) (s : Words) → length (with_value_at k slot v s).numbers ≡ length s.numbers
numbers-set IntLeaf slot v s = length-set s.numbers slot (number v)
numbers-set TruthLeaf slot v s = length-set s.numbers slot (kept_number v)
numbers-set RangeLeaf slot v s = refl
numbers-set LocaleLeaf slot v s = length-set s.numbers slot (number v)

pub ranges-set : (k : LeafKind) (slot : ℕ) (v : Value) (s : Words) → length (with_value_at k slot v s).ranges ≡ length s.ranges
ranges-set IntLeaf slot v s = refl
ranges-set TruthLeaf slot v s = refl
ranges-set RangeLeaf slot v s = length-set s.ranges slot (first_range (ranges_in v))
ranges-set LocaleLeaf slot v s = refl

pub intents-set : (k : LeafKind) (slot : ℕ) (v : Value) (s : Words) → (with_value_at k slot v s).intents ≡ s.intents
intents-set IntLeaf slot v s = refl
intents-set TruthLeaf slot v s = refl
intents-set RangeLeaf slot v s = refl
intents-set LocaleLeaf slot v s = refl

pub sets-set : (k : LeafKind) (slot : ℕ) (v : Value) (s : Words) → (with_value_at k slot v s).sets ≡ s.sets
sets-set IntLeaf slot v s = refl
sets-set TruthLeaf slot v s = refl
sets-set RangeLeaf slot v s = refl
sets-set LocaleLeaf slot v s = refl

-- THE COMMAND LINE
given_as-kind : (k : LeafKind) (w : ℤ) → IsOfKind k (given_as k w)
given_as-kind IntLeaf w = (_, refl)
given_as-kind TruthLeaf w = (_, refl)
given_as-kind RangeLeaf w = (_, refl)
given_as-kind LocaleLeaf w = (_, refl)

pub given-kind : (k : LeafKind) (o : Option ℤ) (v : Value) → option_map (given_as k) o ≡ Some v → IsOfKind k v
given-kind k None v e = cc
given-kind k (Some w) v e = let same : given_as k w ≡ v = cc in subst (IsOfKind k) same (given_as-kind k w)

-- ASSIGNMENTS
combined-kind : (k : LeafKind) (op : Op) (old v : Value) → combines k op ≡ true → IsOfKind k (combined op old v)
combined-kind IntLeaf Sum old v c = (_, refl)
combined-kind IntLeaf Product old v c = (_, refl)
combined-kind IntLeaf AllOf old v c = cc
combined-kind IntLeaf AnyOf old v c = cc
combined-kind IntLeaf BitAnd old v c = (_, refl)
combined-kind IntLeaf BitOr old v c = (_, refl)
combined-kind IntLeaf BitXor old v c = (_, refl)
combined-kind IntLeaf Least old v c = (_, refl)
combined-kind IntLeaf Greatest old v c = (_, refl)
combined-kind TruthLeaf Sum old v c = cc
combined-kind TruthLeaf Product old v c = cc
combined-kind TruthLeaf AllOf old v c = (_, refl)
combined-kind TruthLeaf AnyOf old v c = (_, refl)
combined-kind TruthLeaf BitAnd old v c = cc
combined-kind TruthLeaf BitOr old v c = cc
combined-kind TruthLeaf BitXor old v c = cc
combined-kind TruthLeaf Least old v c = cc
combined-kind TruthLeaf Greatest old v c = cc
combined-kind RangeLeaf op old v c = cc
combined-kind LocaleLeaf op old v c = cc

reduced-kind : (k : LeafKind) (o : Option Op) (old v : Value) → Combines k o → IsOfKind k v → IsOfKind k (assigned SetReduce o old v)
reduced-kind k None old v c p = p
reduced-kind k (Some op) old v c p = combined-kind k op old v c

-- an arithmetic assignment is of ints
arithmetic-kind : (k : LeafKind) (n : ℤ) → takes k SetAdd ≡ true → IsOfKind k (Int n)
arithmetic-kind IntLeaf n t = (n, refl)
arithmetic-kind TruthLeaf n t = cc
arithmetic-kind RangeLeaf n t = cc
arithmetic-kind LocaleLeaf n t = cc

takes_add : (k : LeafKind) (op : Assign) → takes k op ≡ takes k SetAdd → takes k op ≡ true → takes k SetAdd ≡ true
takes_add k op e t = sym e ∙ t

-- operators of which none is `=` or `reduce=` are taken alike
alike : (k : LeafKind) → (takes k SetSubtract ≡ takes k SetAdd) × (takes k SetMultiply ≡ takes k SetAdd) × (takes k SetDivide ≡ takes k SetAdd) × (takes k SetRemainder ≡ takes k SetAdd)
alike IntLeaf = (refl, refl, refl, refl)
alike TruthLeaf = (refl, refl, refl, refl)
alike RangeLeaf = (refl, refl, refl, refl)
alike LocaleLeaf = (refl, refl, refl, refl)

pub assigned-kind : (k : LeafKind) (op : Assign) (o : Option Op) (old v : Value) → takes k op ≡ true → (op ≡ SetReduce → Combines k o) → IsOfKind k v → IsOfKind k (assigned op o old v)
assigned-kind k Set o old v t c p = p
assigned-kind k SetAdd o old v t c p = arithmetic-kind k _ t
assigned-kind k SetSubtract o old v t c p = arithmetic-kind k _ (takes_add k SetSubtract (alike k).0 t)
assigned-kind k SetMultiply o old v t c p = arithmetic-kind k _ (takes_add k SetMultiply (alike k).1 t)
assigned-kind k SetDivide o old v t c p = arithmetic-kind k _ (takes_add k SetDivide (alike k).2 t)
assigned-kind k SetRemainder o old v t c p = arithmetic-kind k _ (takes_add k SetRemainder (alike k).3 t)
assigned-kind k SetReduce o old v t c p = reduced-kind k o old v (c refl) p
