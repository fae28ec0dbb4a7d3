-- What the parts of a form are where its rule is met, and how many they are.
-- Each lemma is stated of the types of the parts.
use Rattle.std.proofs.Common.{◌≡◌, ℕ, ◌<◌, ◌==◌, Bool, true, false, ◌&&◌, List, [], ◌∷◌, length, Option, Some, None, is_some, refl, sym, ap, ◌∙◌, arith}
use Rattle.std.specs.Prelude.{nat_lt, ◌||◌, if◌then◌else◌}
use Rattle.std.proofs.lemmas.Bool.Decides.{nat_tests}
use Rattle.dpl_syntax.specs.declared.place.Place.{Place}
use Rattle.dpl_syntax.specs.declared.refusal.Breach.{Breach}
use Rattle.dpl_syntax.specs.declared.refusal.Code.{Code}
use Rattle.dpl_syntax.specs.declared.refusal.Code.TheVariants.{WrongType, WrongRank}
use Rattle.dpl_rules.specs.Types.{ValueType, Range, Tuple, has, is_int, is_range, is_plain_range, tuple_of}
use Rattle.dpl_rules.specs.Verdicts.{Part, type_by, broken_by, judged, all_known, owed, breach, owed_type, wanted, each_wanted}
use Rattle.dpl_rules.specs.Operators.{single_breaches, index_breaches, slice_breaches, ranges_breaches}
use Rattle.dpl_rules.specs.Breaches.{least_from}
use Rattle.dpl_types.specs.Owes.{are_none}
use Rattle.dpl_types.proofs.Breaches.{are_none_append}
use Rattle.dpl_typed.specs.Typed.{is_rank, is_tuple_rank}
use Rattle.dpl_brackets.specs.Parts.{all_are, is_tuple, are_index}

-- ---- tests
pub and-both : (a b : Bool) → a && b ≡ true → (a ≡ true) × (b ≡ true)
and-both true b e = (refl, e)
and-both false b e = absurd (let f : false ≡ true = e in cc)

or-left : (a b : Bool) → a ≡ true → a || b ≡ true
or-left a b e = ap (λ x. x || b) e

or-right : (a : Bool) → a || true ≡ true
or-right true = refl
or-right false = refl

-- a rule that is met, and whose parts have types
pub met : (known : Bool) (bs : List Breach) → true ≡ (known && are_none bs) → (known ≡ true) × (are_none bs ≡ true)
met known bs e = and-both known (are_none bs) (sym e)

-- a rule that isn't
pub unmet : (known : Bool) (bs : List Breach) (t : ValueType) (o p : Option Breach) → false ≡ (known && are_none bs) → p ≡ least_from o bs
    → (None ≡ type_by (judged known bs t)) × (p ≡ least_from o (broken_by (judged known bs t)))
unmet true [] t o p h e = absurd (let f : false ≡ true = h in cc)
unmet false [] t o p h e = (refl, e)
unmet known (c ∷ bs) t o p h e = (refl, e)

owed-true : (b : Bool) (at : Place) (code : Code) → are_none (owed b at code) ≡ true → b ≡ true
owed-true true at code e = refl
owed-true false at code e = absurd (let f : false ≡ true = e in cc)

if-met : (b : Bool) (bs : List Breach) (at : Place) (code : Code) → are_none (if b then bs else breach at code) ≡ true → (b ≡ true) × (are_none bs ≡ true)
if-met true bs at code e = (refl, e)
if-met false bs at code e = absurd (let f : false ≡ true = e in cc)

-- ---- parts of one type
known-wanted : (test : ValueType → Bool) (at : Place) (o : Option ValueType) → is_some o ≡ true → are_none (owed_type test at o) ≡ true → has test o ≡ true
known-wanted test at None k e = absurd (let f : false ≡ true = k in cc)
known-wanted test at (Some t) k e = owed-true (test t) at WrongType e

pub all-wanted : (test : ValueType → Bool) (ps : List Part) → all_known ps ≡ true → are_none (each_wanted test ps) ≡ true → all_are test ps ≡ true
all-wanted test [] k e = refl
all-wanted test (p ∷ ps) k e =
    let known = and-both (is_some p.type) (all_known ps) k in
    let none = and-both (are_none (wanted test p)) (are_none (each_wanted test ps)) (sym (are_none_append (wanted test p) (each_wanted test ps)) ∙ e) in
    ap (λ b. b && all_are test ps) (known-wanted test p.at p.type known.0 none.0) ∙ all-wanted test ps known.1 none.1

plain-range : (o : Option ValueType) → has is_plain_range o ≡ true → has is_range o ≡ true
plain-range (Some (Range strided)) e = refl
plain-range _ e = absurd (let f : false ≡ true = e in cc)

plain-ranges : (ps : List Part) → all_are is_plain_range ps ≡ true → all_are is_range ps ≡ true
plain-ranges [] e = refl
plain-ranges (p ∷ ps) e =
    let both = and-both (has is_plain_range p.type) (all_are is_plain_range ps) e in
    ap (λ b. b && all_are is_range ps) (plain-range p.type both.0) ∙ plain-ranges ps both.1

-- ---- an index
one-index : (last : Place) (rank : ℕ) (at : Place) (o : Option ValueType) → is_some o ≡ true → are_none (index_breaches last rank (record { at = at; type = o } ∷ [])) ≡ true
    → (has is_int o || has is_tuple o) ≡ true
one-index last rank at None k e = absurd (let f : false ≡ true = k in cc)
one-index last rank at (Some t) k e = by (tuple_of t) e
  where
    by : (n : Option ℕ) → are_none (single_breaches last rank at t n) ≡ true → (is_int t || is_some n) ≡ true
    by None e = or-left (is_int t) false (owed-true (is_int t) at WrongType (if-met (rank == 1) (owed (is_int t) at WrongType) last WrongRank e).1)
    by (Some n) e = or-right (is_int t)

pub index-met : (last : Place) (rank : ℕ) (ps : List Part) → all_known ps ≡ true → are_none (index_breaches last rank ps) ≡ true → are_index ps ≡ true
index-met last rank [] k e = absurd (let f : false ≡ true = e in cc)
index-met last rank (p ∷ []) k e = one-index last rank p.at p.type (and-both (is_some p.type) true k).0 e
index-met last rank (p ∷ q ∷ ps) k e = all-wanted is_int (p ∷ q ∷ ps) k (if-met (length (p ∷ q ∷ ps) == rank) (each_wanted is_int (p ∷ q ∷ ps)) last WrongRank e).1

few : (n rank : ℕ) → (n == rank) ≡ true → nat_lt rank 4 ≡ true → n < 4
few n rank e f = grind (arith, nat_tests)

pub index-few : (last : Place) (rank : ℕ) (ps : List Part) → is_rank rank ≡ true → are_none (index_breaches last rank ps) ≡ true → length ps < 4
index-few last rank [] r e = absurd (let f : false ≡ true = e in cc)
index-few last rank (p ∷ []) r e = omega arith
index-few last rank (p ∷ q ∷ ps) r e =
    few (length (p ∷ q ∷ ps)) rank (if-met (length (p ∷ q ∷ ps) == rank) (each_wanted is_int (p ∷ q ∷ ps)) last WrongRank e).0 (and-both (nat_lt 0 rank) (nat_lt rank 4) r).1

-- ---- the ranges of a slice, and of a domain
pub slice-met : (last : Place) (rank : ℕ) (ps : List Part) → all_known ps ≡ true → are_none (slice_breaches last rank ps) ≡ true → all_are is_range ps ≡ true
slice-met last rank ps k e = plain-ranges ps (all-wanted is_plain_range ps k (if-met (length ps == rank) (each_wanted is_plain_range ps) last WrongRank e).1)

pub slice-few : (last : Place) (rank : ℕ) (ps : List Part) → is_rank rank ≡ true → are_none (slice_breaches last rank ps) ≡ true → length ps < 4
slice-few last rank ps r e =
    few (length ps) rank (if-met (length ps == rank) (each_wanted is_plain_range ps) last WrongRank e).0 (and-both (nat_lt 0 rank) (nat_lt rank 4) r).1

same_number : (n k : ℕ) → (n == k) ≡ true → n ≡ k
same_number n k e = grind (arith, nat_tests)

pub slice-one : (last : Place) (ps : List Part) → are_none (slice_breaches last 1 ps) ≡ true → length ps ≡ 1
slice-one last ps e = same_number (length ps) 1 (if-met (length ps == 1) (each_wanted is_plain_range ps) last WrongRank e).0

below_four : (n : ℕ) → nat_lt n 4 ≡ true → n < 4
below_four n e = grind (arith, nat_tests)

ranges-both : (from : Place) (ps : List Part) → are_none (ranges_breaches from ps) ≡ true → (are_none (each_wanted is_range ps) ≡ true) × (are_none (owed (nat_lt (length ps) 4) from WrongRank) ≡ true)
ranges-both from ps e =
    and-both (are_none (each_wanted is_range ps)) (are_none (owed (nat_lt (length ps) 4) from WrongRank))
    (sym (are_none_append (each_wanted is_range ps) (owed (nat_lt (length ps) 4) from WrongRank)) ∙ e)

pub ranges-met : (from : Place) (ps : List Part) → all_known ps ≡ true → are_none (ranges_breaches from ps) ≡ true → all_are is_range ps ≡ true
ranges-met from ps k e = all-wanted is_range ps k (ranges-both from ps e).0

pub ranges-few : (from : Place) (ps : List Part) → are_none (ranges_breaches from ps) ≡ true → length ps < 4
ranges-few from ps e = below_four (length ps) (owed-true (nat_lt (length ps) 4) from WrongRank (ranges-both from ps e).1)

-- ---- what a range contains: one int, where no tuple has one number alone
tuple_is : (t : ValueType) (n : ℕ) → tuple_of t ≡ Some n → t ≡ Tuple n
tuple_is (Tuple m) n e = let f : Some m ≡ Some n = e in cc
tuple_is _ n e = absurd (let f : None ≡ Some n = e in cc)

pub single-int : (at : Place) (p : Part) → are_none (index_breaches at 1 (p ∷ [])) ≡ true → is_some p.type ≡ true → ((n : ℕ) → p.type ≡ Some (Tuple n) → is_tuple_rank n ≡ true) → has is_int p.type ≡ true
single-int at p e k none = by p.type refl e k
  where
    not_one : (n : ℕ) → (n == 1) ≡ true → is_tuple_rank n ≡ true → ⊥
    not_one n e t = let u : nat_lt 1 n ≡ true = (and-both (nat_lt 1 n) (nat_lt n 4) t).0 in grind (arith, nat_tests)

    other : (t : ValueType) (n : Option ℕ) → (tuple_of t ≡ n) → p.type ≡ Some t → are_none (single_breaches at 1 p.at t n) ≡ true → is_int t ≡ true
    other t None is same e = owed-true (is_int t) p.at WrongType (if-met (1 == 1) (owed (is_int t) p.at WrongType) at WrongRank e).1
    other t (Some n) is same e = absurd (not_one n (owed-true (n == 1) at WrongRank e) (none n (same ∙ ap Some (tuple_is t n is))))

    by : (o : Option ValueType) → p.type ≡ o → are_none (index_breaches at 1 (record { at = p.at; type = o } ∷ [])) ≡ true → is_some o ≡ true → has is_int o ≡ true
    by None is e k = absurd (let f : false ≡ true = k in cc)
    by (Some t) is e k = other t (tuple_of t) refl is e

-- an index of one number is one part
pub index-one : (at : Place) (ps : List Part) → are_none (index_breaches at 1 ps) ≡ true → length ps ≡ 1
index-one at [] e = absurd (let f : false ≡ true = e in cc)
index-one at (p ∷ []) e = refl
index-one at (p ∷ q ∷ ps) e = same_number (length (p ∷ q ∷ ps)) 1 (if-met (length (p ∷ q ∷ ps) == 1) (each_wanted is_int (p ∷ q ∷ ps)) at WrongRank e).0

-- ---- ranks
lt_true : (a b : ℕ) → a < b → nat_lt a b ≡ true
lt_true a b h = grind (arith, nat_tests)

pub rank-of : (n : ℕ) → 0 < n → n < 4 → is_rank n ≡ true
rank-of n h k = ap (λ b. b && nat_lt n 4) (lt_true 0 n h) ∙ lt_true n 4 k
