-- Numbers: each is as long as it can be where its digits end.
use Rattle.std.proofs.Common.{◌≡◌, ◌⊎◌, inl, inr, ℕ, zero, suc, ◌+◌, ◌*◌, ◌<◌, ◌≤◌, Bool, true, false, List, [], ◌∷◌, ◌++◌, length, take, drop, get_or, refl, ap, ◌∙◌, mul-suc, arith}
use Rattle.std.specs.Prelude.{eqb}
use Rattle.std.proofs.lemmas.Bool.{and_from, and_parts, or_cases}
use Rattle.std.proofs.Math.Bool.{or-true}
use Rattle.std.proofs.lemmas.List.{take-append-drop}
use Rattle.dpl_syntax.specs.Gaps.{all_are, next_is}
use Rattle.dpl_syntax.specs.Text.{is_digit, is_digit_of, goes_on_in, base_named, digit_value, is_digits, is_based, is_number, value_after, number_value, Longest}
use Rattle.dpl_lexer.specs.Scan.{starts_based, IsStart}
use Rattle.dpl_lexer.proofs.ByteTests.{no_further, all_are-head, all_are-tail, ten_of_digit, base_no_digit}
use Rattle.dpl_lexer.proofs.Sorts.{Digital, IsSort, number_sort, of_sort}

digit_goes_on : (base c : ℕ) → is_digit_of base c ≡ true → goes_on_in base c ≡ true
digit_goes_on base c h = rw h refl

pub decimal_number : (u : List ℕ) → is_digits 10 u ≡ true → is_number u ≡ true
decimal_number u h = rw h refl

based_number : (u : List ℕ) → is_based u ≡ true → is_number u ≡ true
based_number u h = rw h (or-true (is_digits 10 u))

-- a number with a base begins so
based_starts : (v w : List ℕ) → is_based v ≡ true → starts_based (v ++ w) ≡ true
based_starts [] w h = absurd cc
based_starts (z ∷ []) w h = absurd cc
based_starts (z ∷ l ∷ []) w h = let p = and_parts (eqb z 48) false h in absurd cc
based_starts (z ∷ l ∷ d ∷ v) w h =
    let p = and_parts (eqb z 48) (is_digits (base_named l) (d ∷ v)) h in
    let digit = (and_parts (is_digit_of (base_named l) d) (all_are (goes_on_in (base_named l)) v) p.1).0 in
    and_from (eqb z 48) (is_digit_of (base_named l) d) p.0 digit

-- decimal digits are no number with a base
pub decimal_not_based : (u : List ℕ) → is_digits 10 u ≡ true → is_based u ≡ true → ⊥
decimal_not_based [] h k = absurd cc
decimal_not_based (z ∷ []) h k = absurd cc
decimal_not_based (z ∷ l ∷ []) h k = let p = and_parts (eqb z 48) false k in absurd cc
decimal_not_based (z ∷ l ∷ d ∷ u) h k =
    let p = and_parts (eqb z 48) (is_digits (base_named l) (d ∷ u)) k in
    let digit = (and_parts (is_digit_of (base_named l) d) (all_are (goes_on_in (base_named l)) u) p.1).0 in
    let all = (and_parts (is_digit_of 10 z) (all_are (goes_on_in 10) (l ∷ d ∷ u)) h).1 in
    base_no_digit l d digit (all_are-head (goes_on_in 10) l (d ∷ u) all)

-- digits of a base reach no further than to what they don't go on with
digits_no_further : (base : ℕ) (u rest v w : List ℕ) → next_is (goes_on_in base) rest ≡ false → u ++ rest ≡ v ++ w → is_digits base v ≡ true → 0 < length u → length v ≤ length u
digits_no_further base u rest [] w stop e h some = omega arith
digits_no_further base [] rest (d ∷ v) w stop e h some = absurd (omega arith)
digits_no_further base (c ∷ u) rest (d ∷ v) w stop e h some =
    let others : u ++ rest ≡ v ++ w = cc in
    let le = no_further (goes_on_in base) u rest v w stop ((and_parts (is_digit_of base d) (all_are (goes_on_in base) v) h).1) others in
    omega (arith, le)

pub decimal_longest : (u rest : List ℕ) → is_digits 10 u ≡ true → next_is (goes_on_in 10) rest ≡ false → starts_based (u ++ rest) ≡ false → Longest u rest
decimal_longest u rest h stop not_based v w e token =
    elim (or_cases (is_digits 10 v) (is_based v) (of_sort Digital u rest v w e sorted token)) [
      | inl decimal ↦ digits_no_further 10 u rest v w stop e decimal sorted.some
      | inr based ↦ absurd (cc (not_based, ap starts_based e, based_starts v w based))
    ]
  where
    sorted : IsSort Digital u
    sorted = number_sort u (decimal_number u h)

pub based_longest : (u rest : List ℕ) → is_based u ≡ true → next_is (goes_on_in (base_named (get_or u 1 0))) rest ≡ false → Longest u rest
based_longest [] rest h stop v w e token = absurd cc
based_longest (z ∷ []) rest h stop v w e token = absurd cc
based_longest (z ∷ l ∷ []) rest h stop v w e token = let p = and_parts (eqb z 48) false h in absurd cc
based_longest (z ∷ l ∷ c ∷ cs) rest h stop v w e token = at v e (or_cases (is_digits 10 v) (is_based v) (of_sort Digital (z ∷ l ∷ c ∷ cs) rest v w e (number_sort (z ∷ l ∷ c ∷ cs) (based_number (z ∷ l ∷ c ∷ cs) h)) token))
  where
    digit : is_digit_of (base_named l) c ≡ true
    digit = (and_parts (is_digit_of (base_named l) c) (all_are (goes_on_in (base_named l)) cs) ((and_parts (eqb z 48) (is_digits (base_named l) (c ∷ cs)) h).1)).0

    at : (v : List ℕ) → z ∷ l ∷ c ∷ cs ++ rest ≡ v ++ w → (is_digits 10 v ≡ true) ⊎ (is_based v ≡ true) → length v ≤ length (z ∷ l ∷ c ∷ cs)
    at [] e k = omega arith
    at (y ∷ []) e k = omega arith
    at (y ∷ m ∷ v) e (inl decimal) =
        let same : l ≡ m = cc in
        let all = (and_parts (is_digit_of 10 y) (all_are (goes_on_in 10) (m ∷ v)) decimal).1 in
        absurd (base_no_digit l c digit (ap (goes_on_in 10) same ∙ all_are-head (goes_on_in 10) m v all))
    at (y ∷ m ∷ v) e (inr based) =
        let same : l ≡ m = cc in
        let others : c ∷ cs ++ rest ≡ v ++ w = cc in
        let digits : is_digits (base_named l) v ≡ true = ap (λ (x : ℕ). is_digits (base_named x) v) same ∙ (and_parts (eqb y 48) (is_digits (base_named m) v) based).1 in
        let le = digits_no_further (base_named l) (c ∷ cs) rest v w stop others digits (omega arith) in
        omega (arith, le)

-- ---- a number at the front

-- so many bytes at the front are a number, as long as it can be, and the digits have its value
pub record IsTaken (text digits : List ℕ) (base len : ℕ) : Type 0 where
  pub some : 0 < len
  pub number : is_number (take len text) ≡ true
  pub longest : Longest (take len text) (drop len text)
  pub value : number_value (take len text) ≡ value_after base 0 digits

not_based_value : (u : List ℕ) (b : Bool) → is_based u ≡ b → (is_based u ≡ true → ⊥) → number_value u ≡ value_after 10 0 u
not_based_value u true h never = absurd (never h)
not_based_value u false h never = rw h refl

decimal_taken : (text : List ℕ) (n : ℕ) → next_is is_digit text ≡ true → starts_based text ≡ false → all_are (goes_on_in 10) (take n text) ≡ true → next_is (goes_on_in 10) (drop n text) ≡ false → IsTaken text (take n text) 10 n
decimal_taken [] n digit not_based all ended = absurd cc
decimal_taken (c ∷ cs) zero digit not_based all ended = absurd (cc (ended, digit_goes_on 10 c (ten_of_digit c digit)))
decimal_taken (c ∷ cs) (suc n) digit not_based all ended =
    let u : List ℕ = c ∷ take n cs in
    let decimal : is_digits 10 u ≡ true = and_from (is_digit_of 10 c) (all_are (goes_on_in 10) (take n cs)) (ten_of_digit c digit) (all_are-tail (goes_on_in 10) c (take n cs) all) in
    let whole : u ++ drop n cs ≡ c ∷ cs = ap (λ (l : List ℕ). c ∷ l) (take-append-drop n cs) in
    record {
      some = omega arith;
      number = decimal_number u decimal;
      longest = decimal_longest u (drop n cs) decimal ended (ap starts_based whole ∙ not_based);
      value = not_based_value u (is_based u) refl (decimal_not_based u decimal);
    }

based_value : (z l : ℕ) (ds : List ℕ) → is_based (z ∷ l ∷ ds) ≡ true → number_value (z ∷ l ∷ ds) ≡ value_after (base_named l) 0 ds
based_value z l ds h = rw h refl

based_taken : (text : List ℕ) (n : ℕ) → starts_based text ≡ true → all_are (goes_on_in (base_named (get_or text 1 0))) (take n (drop 2 text)) ≡ true
    → next_is (goes_on_in (base_named (get_or text 1 0))) (drop n (drop 2 text)) ≡ false → IsTaken text (take n (drop 2 text)) (base_named (get_or text 1 0)) (suc (suc n))
based_taken [] n starts all ended = absurd cc
based_taken (z ∷ []) n starts all ended = absurd cc
based_taken (z ∷ l ∷ []) n starts all ended = absurd cc
based_taken (z ∷ l ∷ d ∷ cs) zero starts all ended =
    let p = and_parts (eqb z 48) (is_digit_of (base_named l) d) starts in
    absurd (cc (ended, digit_goes_on (base_named l) d p.1))
based_taken (z ∷ l ∷ d ∷ cs) (suc n) starts all ended =
    let base : ℕ = base_named l in
    let p = and_parts (eqb z 48) (is_digit_of base d) starts in
    let digits : is_digits base (d ∷ take n cs) ≡ true = and_from (is_digit_of base d) (all_are (goes_on_in base) (take n cs)) p.1 (all_are-tail (goes_on_in base) d (take n cs) all) in
    let based : is_based (z ∷ l ∷ d ∷ take n cs) ≡ true = and_from (eqb z 48) (is_digits base (d ∷ take n cs)) p.0 digits in
    record {
      some = omega arith;
      number = based_number (z ∷ l ∷ d ∷ take n cs) based;
      longest = based_longest (z ∷ l ∷ d ∷ take n cs) (drop n cs) based ended;
      value = based_value z l (d ∷ take n cs) based;
    }

-- the number at the front, by where its digits begin and end
pub number_taken : (text : List ℕ) (base skipped n : ℕ) → IsStart text base skipped → all_are (goes_on_in base) (take n (drop skipped text)) ≡ true → next_is (goes_on_in base) (drop n (drop skipped text)) ≡ false
    → IsTaken text (take n (drop skipped text)) base (skipped + n)
number_taken text base skipped n (inl (b, s, digit, not_based)) all ended =
    let len : skipped + n ≡ n = omega arith in
    rw (len, b, s) (decimal_taken text n digit not_based (rw (b, s) at all) (rw (b, s) at ended))
number_taken text base skipped n (inr (b, s, starts)) all ended =
    let len : skipped + n ≡ suc (suc n) = omega arith in
    rw (len, b, s) (based_taken text n starts (rw (b, s) at all) (rw (b, s) at ended))

-- ---- the value of digits

-- it only grows with each further digit
pub value_after-grows : (base n : ℕ) (cs : List ℕ) → 0 < base → n ≤ value_after base n cs
value_after-grows base n [] some = omega arith
value_after-grows zero n (c ∷ cs) some = absurd (omega arith)
value_after-grows (suc b) n (c ∷ cs) some = at (eqb c 95) refl (value_after-grows (suc b) n cs some) (value_after-grows (suc b) (n * suc b + digit_value c) cs some)
  where
    at : (low : Bool) → eqb c 95 ≡ low → n ≤ value_after (suc b) n cs → n * suc b + digit_value c ≤ value_after (suc b) (n * suc b + digit_value c) cs → n ≤ value_after (suc b) n (c ∷ cs)
    at true h same more = rw h same
    at false h same more = rw h (omega (arith, mul-suc n b, more))

-- one byte of a number: _ or a digit
pub low_line : (base n c : ℕ) (cs : List ℕ) → eqb c 95 ≡ true → value_after base n (c ∷ cs) ≡ value_after base n cs
low_line base n c cs h = rw h refl

pub one_digit : (base n c : ℕ) (cs : List ℕ) → eqb c 95 ≡ false → value_after base n (c ∷ cs) ≡ value_after base (n * base + digit_value c) cs
one_digit base n c cs h = rw h refl
