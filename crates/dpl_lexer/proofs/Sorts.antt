-- The sort of a token, by its first byte: words, numbers, texts in quotes and signs begin with different bytes.
use Rattle.std.proofs.Common.{◌≡◌, inl, inr, ℕ, ◌<◌, true, false, cond, List, [], ◌∷◌, ◌++◌, length, get_or, refl, sym, ap, subst, ◌∙◌, arith}
use Rattle.std.specs.Prelude.{eqb}
use Rattle.std.proofs.lemmas.Bool.{and_parts, eqb-true, or_cases}
use Rattle.std.proofs.lemmas.Bool.Decides.{nat_tests}
use Rattle.dpl_syntax.specs.Tokens.{sign_text}
use Rattle.dpl_syntax.specs.Gaps.{is_space, all_are, ends_there}
use Rattle.dpl_syntax.specs.Text.{is_letter, is_digit, is_quote, goes_on, is_word, is_digit_of, goes_on_in, is_digits, base_named, is_based, is_number, after_quote, is_quoted, IsToken}
use Rattle.dpl_syntax.specs.declared.token.Sign.{Sign}
use Rattle.dpl_lexer.proofs.ByteTests.{quote_no_letter, quote_no_digit, letter_no_space, digit_no_space, quote_no_space, digit_of_ten}
use Rattle.dpl_lexer.proofs.Signs.{is_sign_text}

pub data Beginning : Type 0 where
  Wordy : Beginning
  Digital : Beginning
  Quoting : Beginning
  Other : Beginning

-- the sort of what begins with a byte
abbrev pub sort : ℕ → Beginning
sort c = cond (is_letter c) Wordy (cond (is_digit c) Digital (cond (is_quote c) Quoting Other))

-- bytes of a sort: there is a first one, of that sort, and it is no white space
pub record IsSort (s : Beginning) (u : List ℕ) : Type 0 where
  pub some : 0 < length u
  pub is : sort (get_or u 0 0) ≡ s
  pub dark : is_space (get_or u 0 0) ≡ false

-- ---- the sorts of the four tokens

pub letter_sort : (c : ℕ) → is_letter c ≡ true → sort c ≡ Wordy
letter_sort c h = rw h refl

digit_no_letter : (c : ℕ) → is_digit c ≡ true → is_letter c ≡ false
digit_no_letter c h = grind (arith, nat_tests)

pub digit_sort : (c : ℕ) → is_digit c ≡ true → sort c ≡ Digital
digit_sort c h = let no = digit_no_letter c h in rw (no, h) refl

pub quote_sort : (c : ℕ) → is_quote c ≡ true → sort c ≡ Quoting
quote_sort c h = rw (quote_no_letter c h, quote_no_digit c h, h) refl

pub other_sort : (c : ℕ) → is_letter c ≡ false → is_digit c ≡ false → is_quote c ≡ false → sort c ≡ Other
other_sort c h k l = rw (h, k, l) refl

pub word_sort : (u : List ℕ) → is_word u ≡ true → IsSort Wordy u
word_sort [] h = absurd cc
word_sort (c ∷ cs) h =
    let letter = (and_parts (is_letter c) (all_are goes_on cs) h).0 in
    record { some = omega arith; is = letter_sort c letter; dark = letter_no_space c letter }

digit_first : (c : ℕ) (cs : List ℕ) → is_digit c ≡ true → IsSort Digital (c ∷ cs)
digit_first c cs digit = record { some = omega arith; is = digit_sort c digit; dark = digit_no_space c digit }

pub digits_sort : (u : List ℕ) → is_digits 10 u ≡ true → IsSort Digital u
digits_sort [] h = absurd cc
digits_sort (c ∷ cs) h = digit_first c cs (digit_of_ten c ((and_parts (is_digit_of 10 c) (all_are (goes_on_in 10) cs) h).0))

pub based_sort : (u : List ℕ) → is_based u ≡ true → IsSort Digital u
based_sort [] h = absurd cc
based_sort (z ∷ []) h = absurd cc
based_sort (z ∷ l ∷ cs) h =
    let zero : z ≡ 48 = eqb-true z 48 ((and_parts (eqb z 48) (is_digits (base_named l) cs) h).0) in
    digit_first z (l ∷ cs) (ap is_digit zero)

pub number_sort : (u : List ℕ) → is_number u ≡ true → IsSort Digital u
number_sort u h = elim (or_cases (is_digits 10 u) (is_based u) h) [ inl decimal ↦ digits_sort u decimal | inr based ↦ based_sort u based ]

pub quoted_sort : (u : List ℕ) → is_quoted u ≡ true → IsSort Quoting u
quoted_sort [] h = absurd cc
quoted_sort (q ∷ cs) h =
    let quote = (and_parts (is_quote q) (ends_there (after_quote q cs)) h).0 in
    record { some = omega arith; is = quote_sort q quote; dark = quote_no_space q quote }

pub sign_sort : (s : Sign) (u : List ℕ) → u ≡ sign_text s → IsSort Other u
sign_sort s u e = let t = is_sign_text s in subst (IsSort Other) (sym (e ∙ t.is)) (record { some = omega arith; is = other_sort t.first t.no_letter t.no_digit t.no_quote; dark = t.no_space })

-- ---- what stands at one place is of one sort

-- bytes behind the first don't matter
pub first-append : (u rest : List ℕ) → 0 < length u → get_or (u ++ rest) 0 0 ≡ get_or u 0 0
first-append [] rest some = absurd (omega arith)
first-append (c ∷ u) rest some = refl

pub one_sort : (s t : Beginning) (u rest v w : List ℕ) → u ++ rest ≡ v ++ w → IsSort s u → IsSort t v → s ≡ t
one_sort s t u rest v w e a b =
    sym a.is ∙ ap sort (sym (first-append u rest a.some) ∙ ap (λ (l : List ℕ). get_or l 0 0) e ∙ first-append v w b.some) ∙ b.is

-- ---- tokens of each sort

abbrev pub OfSort : Beginning → List ℕ → Type 0
OfSort Wordy u = is_word u ≡ true
OfSort Digital u = is_number u ≡ true
OfSort Quoting u = is_quoted u ≡ true
OfSort Other u = (s : Sign) × (u ≡ sign_text s)

pub record HasSort (u : List ℕ) : Type 0 where
  pub sort_of : Beginning
  pub is : IsSort sort_of u
  pub token : OfSort sort_of u

pub has_sort : (u : List ℕ) → IsToken u → HasSort u
has_sort u (inl h) = record { sort_of = Wordy; is = word_sort u h; token = h }
has_sort u (inr (inl h)) = record { sort_of = Digital; is = number_sort u h; token = h }
has_sort u (inr (inr (inl h))) = record { sort_of = Quoting; is = quoted_sort u h; token = h }
has_sort u (inr (inr (inr (s, e)))) = record { sort_of = Other; is = sign_sort s u e; token = (s, e) }

-- a token where something of a sort stands is of that sort
pub of_sort : (s : Beginning) (u rest v w : List ℕ) → u ++ rest ≡ v ++ w → IsSort s u → IsToken v → OfSort s v
of_sort s u rest v w e a token =
    let b = has_sort v token in
    subst (λ (t : Beginning). OfSort t v) (sym (one_sort s b.sort_of u rest v w e a b.is)) b.token
