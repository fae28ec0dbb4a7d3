-- Bytes that pass a test, and what a text begins with.
use Rattle.std.proofs.Common.{◌≡◌, ℕ, ◌<◌, ◌≤◌, Bool, true, false, ◌&&◌, List, [], ◌∷◌, ◌++◌, length, refl, sym, ap, subst, eqb, eq-eqb, arith}
use Rattle.std.proofs.lemmas.Bool.{eqb-true, and_from, and_parts}
use Rattle.std.specs.Prelude.{bytes_eq}
use Rattle.std.proofs.lemmas.Bool.Decides.{nat_tests}
use Rattle.dpl_syntax.specs.Gaps.{is_space, all_are, next_is}
use Rattle.dpl_syntax.specs.Text.{is_letter, is_digit, is_quote, goes_on, is_digit_of, goes_on_in, base_named}

-- ---- bytes that each pass a test

module _ (p : ℕ → Bool) where
  pub all_are-cons : (c : ℕ) (cs : List ℕ) → p c ≡ true → all_are p cs ≡ true → all_are p (c ∷ cs) ≡ true
  all_are-cons c cs h hs = and_from (p c) (all_are p cs) h hs

  pub all_are-head : (c : ℕ) (cs : List ℕ) → all_are p (c ∷ cs) ≡ true → p c ≡ true
  all_are-head c cs h = (and_parts (p c) (all_are p cs) h).0

  pub all_are-tail : (c : ℕ) (cs : List ℕ) → all_are p (c ∷ cs) ≡ true → all_are p cs ≡ true
  all_are-tail c cs h = (and_parts (p c) (all_are p cs) h).1

  pub all_are-append : (a b : List ℕ) → all_are p a ≡ true → all_are p b ≡ true → all_are p (a ++ b) ≡ true
  all_are-append [] b h hs = hs
  all_are-append (c ∷ a) b h hs = all_are-cons c (a ++ b) (all_are-head c a h) (all_are-append a b (all_are-tail c a h) hs)

  -- bytes that pass the test reach no further than to one that fails it
  pub no_further : (u rest v w : List ℕ) → next_is p rest ≡ false → all_are p v ≡ true → u ++ rest ≡ v ++ w → length v ≤ length u
  no_further u rest [] w stop h e = omega arith
  no_further [] [] (d ∷ v) w stop h e = absurd cc
  no_further [] (c ∷ rest) (d ∷ v) w stop h e =
      let yes : p d ≡ true = all_are-head d v h in
      let same : c ≡ d = cc in
      absurd (cc (stop, yes, ap p same))
  no_further (c ∷ u) rest (d ∷ v) w stop h e =
      let others : u ++ rest ≡ v ++ w = cc in
      let ih = no_further u rest v w stop (all_are-tail d v h) others in
      omega (arith, ih)

-- the same bytes pass the test that compares them
pub bytes_eq-same : (a b : List ℕ) → a ≡ b → bytes_eq a b ≡ true
bytes_eq-same a b e = subst (λ (l : List ℕ). bytes_eq a l ≡ true) e (with_itself a)
  where
    with_itself : (l : List ℕ) → bytes_eq l l ≡ true
    with_itself [] = refl
    with_itself (c ∷ l) = and_from (eqb c c) (bytes_eq l l) (eq-eqb c c refl) (with_itself l)

-- and bytes that pass it are the same
pub bytes_eq-true : (a b : List ℕ) → bytes_eq a b ≡ true → a ≡ b
bytes_eq-true [] [] h = refl
bytes_eq-true [] (d ∷ b) h = absurd cc
bytes_eq-true (c ∷ a) [] h = absurd cc
bytes_eq-true (c ∷ a) (d ∷ b) h =
    let first : c ≡ d = eqb-true c d ((and_parts (eqb c d) (bytes_eq a b) h).0) in
    let others : a ≡ b = bytes_eq-true a b ((and_parts (eqb c d) (bytes_eq a b) h).1) in
    cc

-- ---- kinds of bytes

pub letter_no_digit : (c : ℕ) → is_letter c ≡ true → is_digit c ≡ false
letter_no_digit c h = grind (arith, nat_tests)

pub quote_no_letter : (c : ℕ) → is_quote c ≡ true → is_letter c ≡ false
quote_no_letter c h = grind (arith, nat_tests)

pub quote_no_digit : (c : ℕ) → is_quote c ≡ true → is_digit c ≡ false
quote_no_digit c h = grind (arith, nat_tests)

pub letter_no_space : (c : ℕ) → is_letter c ≡ true → is_space c ≡ false
letter_no_space c h = grind (arith, nat_tests)

pub digit_no_space : (c : ℕ) → is_digit c ≡ true → is_space c ≡ false
digit_no_space c h = grind (arith, nat_tests)

pub quote_no_space : (c : ℕ) → is_quote c ≡ true → is_space c ≡ false
quote_no_space c h = grind (arith, nat_tests)

pub letter_goes_on : (c : ℕ) → is_letter c ≡ true → goes_on c ≡ true
letter_goes_on c h = rw h refl

pub digit_of_ten : (c : ℕ) → is_digit_of 10 c ≡ true → is_digit c ≡ true
digit_of_ten c h = grind (arith, nat_tests)

pub ten_of_digit : (c : ℕ) → is_digit c ≡ true → is_digit_of 10 c ≡ true
ten_of_digit c h = rw h (grind (arith, nat_tests))

-- a letter that stands for a base is no digit, and no _
pub base_no_digit : (l c : ℕ) → is_digit_of (base_named l) c ≡ true → goes_on_in 10 l ≡ true → ⊥
base_no_digit l c h k = grind (arith, nat_tests)

-- a base has a digit, and 16 of them at the most
pub base_some : (l c : ℕ) → is_digit_of (base_named l) c ≡ true → 0 < base_named l
base_some l c h = grind (arith, nat_tests)

-- ---- what a text begins with

abbrev pub begins : List ℕ → List ℕ → Bool
begins [] text = true
begins (c ∷ u) [] = false
begins (c ∷ u) (d ∷ text) = eqb c d && begins u text

pub begins-append : (u w : List ℕ) → begins u (u ++ w) ≡ true
begins-append [] w = refl
begins-append (c ∷ u) w = and_from (eqb c c) (begins u (u ++ w)) (eq-eqb c c refl) (begins-append u w)

pub begins_front : (u w text : List ℕ) → text ≡ u ++ w → begins u text ≡ true
begins_front u w text e = subst (λ (l : List ℕ). begins u l ≡ true) (sym e) (begins-append u w)
