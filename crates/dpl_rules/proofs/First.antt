-- The first of some breaches: it is one of them, and none of them is before it.
-- The order is by line, by column and by code, so that in whatever order breaches are told the first is the same.
use Rattle.std.proofs.Common.{◌≡◌, ◌⊎◌, ℕ, Bool, get_or, true, false, is_some, if◌then◌else◌, List, [], ◌∷◌, Option, Some, None, refl, sym, ap, subst, ◌∙◌, inl, inr, arith}
use Rattle.std.proofs.lemmas.Bool.Decides.{nat_tests}
use Rattle.std.proofs.lemmas.Option.{none-some, same_Some}
use Rattle.dpl_syntax.specs.declared.refusal.Code.{Code}
use Rattle.dpl_syntax.specs.declared.refusal.Code.TheVariants.{NotText, BadCharacter, NumberTooLarge, Unexpected, TooDeep, UnknownName, NameTwice, WrongType, ConstantWritten, WrongRank, WrittenElsewhere, ReadElsewhere, OuterChanged, NotInForall, NotInCoforall, CellMisused, TooMany, BadSet}
use Rattle.dpl_syntax.specs.declared.refusal.Breach.{Breach}
use Rattle.dpl_language.specs.Tree.{ProgramTree}
use Rattle.dpl_language.specs.Names.{Text}
use Rattle.dpl_rules.specs.Breaches.{rank, before, lesser, or_lesser, least_from, IsAmong, NoneBefore, IsFirst, breaches, first_breach}

-- ---- the order
before_asym : (a b : Breach) → before b a ≡ true → before a b ≡ false
before_asym a b h = grind (arith, nat_tests, h)

-- what isn't before something that isn't before a third isn't before the third
before_over : (a b c : Breach) → before c b ≡ false → before b a ≡ false → before c a ≡ false
before_over a b c h k = grind (arith, nat_tests, h, k)

before_trans : (a b c : Breach) → before c b ≡ true → before b a ≡ true → before c a ≡ true
before_trans a b c h k = by_test (before c a) refl
  where
    by_test : (t : Bool) → before c a ≡ t → t ≡ true
    by_test true e = refl
    by_test false e = sym (before_over b a c e (before_asym a b k)) ∙ h

-- ---- of two
abbrev least : Breach → Breach → Breach
least a b = if before b a then b else a

least_assoc : (a b c : Breach) → least (least a b) c ≡ least a (least b c)
least_assoc a b c = by_tests (before b a) (before c b) (before c a) refl refl refl
  where
    by_tests : (p q r : Bool) → before b a ≡ p → before c b ≡ q → before c a ≡ r → least (least a b) c ≡ least a (least b c)
    by_tests true true true h k l = rw h (rw k (rw l refl))
    by_tests true true false h k l = absurd (let e : false ≡ true = sym l ∙ before_trans a b c k h in cc)
    by_tests true false r h k l = rw h (rw k (rw h refl))
    by_tests false true true h k l = rw h (rw k (rw l refl))
    by_tests false true false h k l = rw h (rw k (rw l refl))
    by_tests false false true h k l = absurd (let e : false ≡ true = sym (before_over a b c k h) ∙ l in cc)
    by_tests false false false h k l = rw h (rw k (rw l (rw h refl)))

lesser_least : (o : Option Breach) (b c : Breach) → lesser (lesser o b) c ≡ lesser o (least b c)
lesser_least None b c = refl
lesser_least (Some a) b c = ap Some (least_assoc a b c)

-- ---- of several, told at once or one by one
or_lesser_assoc : (o : Option Breach) (b : Breach) (r : Option Breach) → or_lesser (lesser o b) r ≡ or_lesser o (or_lesser (Some b) r)
or_lesser_assoc o b None = refl
or_lesser_assoc o b (Some c) = lesser_least o b c

pub least_from_none : (o : Option Breach) (bs : List Breach) → least_from o bs ≡ or_lesser o (least_from None bs)
least_from_none o [] = refl
least_from_none o (b ∷ bs) =
    least_from_none (lesser o b) bs ∙ or_lesser_assoc o b (least_from None bs) ∙ ap (or_lesser o) (sym (least_from_none (Some b) bs))

pub least_from_some : (a : Breach) (bs : List Breach) → is_some (least_from (Some a) bs) ≡ true
least_from_some a [] = refl
least_from_some a (b ∷ bs) = least_from_some (least a b) bs

-- ---- of two lists, in either order
-- the codes, each at its rank
abbrev ranked : List Code
ranked = NotText ∷ BadCharacter ∷ NumberTooLarge ∷ Unexpected ∷ TooDeep ∷ UnknownName ∷ NameTwice ∷ WrongType ∷ ConstantWritten ∷ WrongRank
    ∷ WrittenElsewhere ∷ ReadElsewhere ∷ OuterChanged ∷ NotInForall ∷ NotInCoforall ∷ CellMisused ∷ TooMany ∷ BadSet ∷ []

code_at_rank : (c : Code) → get_or ranked (rank c) NotText ≡ c
code_at_rank NotText = refl
code_at_rank BadCharacter = refl
code_at_rank NumberTooLarge = refl
code_at_rank Unexpected = refl
code_at_rank TooDeep = refl
code_at_rank UnknownName = refl
code_at_rank NameTwice = refl
code_at_rank WrongType = refl
code_at_rank ConstantWritten = refl
code_at_rank WrongRank = refl
code_at_rank WrittenElsewhere = refl
code_at_rank ReadElsewhere = refl
code_at_rank OuterChanged = refl
code_at_rank NotInForall = refl
code_at_rank NotInCoforall = refl
code_at_rank CellMisused = refl
code_at_rank TooMany = refl
code_at_rank BadSet = refl

rank_same : (c d : Code) → rank c ≡ rank d → c ≡ d
rank_same c d e = sym (code_at_rank c) ∙ ap (λ n. get_or ranked n NotText) e ∙ code_at_rank d

-- of two breaches of which none is before the other both are one
same_line : (a b : Breach) → before a b ≡ false → before b a ≡ false → a.at.line ≡ b.at.line
same_line a b h k = grind (arith, nat_tests, h, k)

same_column : (a b : Breach) → before a b ≡ false → before b a ≡ false → a.at.column ≡ b.at.column
same_column a b h k = grind (arith, nat_tests, h, k)

same_rank : (a b : Breach) → before a b ≡ false → before b a ≡ false → rank a.code ≡ rank b.code
same_rank a b h k = grind (arith, nat_tests, h, k)

before_neither : (a b : Breach) → before a b ≡ false → before b a ≡ false → a ≡ b
before_neither a b h k =
    ap (λ (n : ℕ). record { at = record { line = n; column = a.at.column }; code = a.code }) (same_line a b h k)
    ∙ ap (λ (n : ℕ). record { at = record { line = b.at.line; column = n }; code = a.code }) (same_column a b h k)
    ∙ ap (λ (c : Code). record { at = b.at; code = c }) (rank_same a.code b.code (same_rank a b h k))

least_comm : (a b : Breach) → least a b ≡ least b a
least_comm a b = by_tests (before b a) (before a b) refl refl
  where
    by_tests : (p q : Bool) → before b a ≡ p → before a b ≡ q → least a b ≡ least b a
    by_tests true true h k = absurd (let e : true ≡ false = sym k ∙ before_asym a b h in cc)
    by_tests true false h k = rw h (rw k refl)
    by_tests false true h k = rw h (rw k refl)
    by_tests false false h k = rw h (rw k (before_neither a b k h))

or_lesser_comm : (a b : Option Breach) → or_lesser a b ≡ or_lesser b a
or_lesser_comm None None = refl
or_lesser_comm None (Some b) = refl
or_lesser_comm (Some a) None = refl
or_lesser_comm (Some a) (Some b) = ap Some (least_comm a b)

or_lesser_last : (o p q : Option Breach) → or_lesser (or_lesser o p) q ≡ or_lesser o (or_lesser p q)
or_lesser_last o None None = refl
or_lesser_last o None (Some c) = refl
or_lesser_last o (Some b) q = or_lesser_assoc o b q

-- two lists of breaches may be told in either order
pub least_from_swap : (o : Option Breach) (bs cs : List Breach) → least_from (least_from o bs) cs ≡ least_from (least_from o cs) bs
least_from_swap o bs cs =
    let first = least_from None bs in
    let second = least_from None cs in
    least_from_none (least_from o bs) cs
    ∙ ap (λ p. or_lesser p second) (least_from_none o bs)
    ∙ or_lesser_last o first second
    ∙ ap (or_lesser o) (or_lesser_comm first second)
    ∙ sym (or_lesser_last o second first)
    ∙ ap (λ p. or_lesser p first) (sym (least_from_none o cs))
    ∙ sym (least_from_none (least_from o cs) bs)

-- ---- the first is one of them, and none of them is before it
abbrev IsKept : Breach → List Breach → Breach → Type 0
IsKept a bs b = ((b ≡ a) ⊎ IsAmong b bs) × (before a b ≡ false) × NoneBefore b bs

before_irrefl : (a : Breach) → before a a ≡ false
before_irrefl a = grind (arith, nat_tests)

least_before : (a c b : Breach) → before (least a c) b ≡ false → (before a b ≡ false) × (before c b ≡ false)
least_before a c b h = by_test (before c a) refl h
  where
    by_test : (t : Bool) → before c a ≡ t → before (if t then c else a) b ≡ false → (before a b ≡ false) × (before c b ≡ false)
    by_test true e k = (not_before (before a b) refl, k)
      where
        not_before : (t : Bool) → before a b ≡ t → before a b ≡ false
        not_before false f = f
        not_before true f = absurd (let x : false ≡ true = sym k ∙ before_trans b a c e f in cc)
    by_test false e k = (k, before_over b a c e k)

least_among : (a c b : Breach) (cs : List Breach) → (b ≡ least a c) ⊎ IsAmong b cs → (b ≡ a) ⊎ IsAmong b (c ∷ cs)
least_among a c b cs (inr among) = inr (inr among)
least_among a c b cs (inl is) = by_test (before c a) is
  where
    by_test : (t : Bool) → b ≡ (if t then c else a) → (b ≡ a) ⊎ IsAmong b (c ∷ cs)
    by_test true e = inr (inl e)
    by_test false e = inl e

kept : (a : Breach) (bs : List Breach) (b : Breach) → least_from (Some a) bs ≡ Some b → IsKept a bs b
kept a [] b h = let is : a ≡ b = same_Some a b h in (inl (sym is), subst (λ x. before a x ≡ false) is (before_irrefl a), tt)
kept a (c ∷ cs) b h =
    let (among, first, rest) = kept (least a c) cs b h in
    let (a_after, c_after) = least_before a c b first in
    (least_among a c b cs among, a_after, (c_after, rest))

pub least_from_first : (bs : List Breach) (b : Breach) → least_from None bs ≡ Some b → IsFirst bs b
least_from_first [] b h = absurd (none-some b h)
least_from_first (a ∷ bs) b h = let (among, first, rest) = kept a bs b h in record { among = among; none_before = (first, rest) }

-- the breach that a program is told is the first of its breaches
pub first_breach_first : (t : ProgramTree Text) (b : Breach) → first_breach t ≡ Some b → IsFirst (breaches t) b
first_breach_first t b h = least_from_first (breaches t) b h
