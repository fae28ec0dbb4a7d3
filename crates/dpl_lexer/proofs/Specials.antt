-- Reserved and contextual words: each is a word, no two are spelled alike, and the lexer's table has them all.
use Rattle.std.proofs.Common.{◌≡◌, ◌≢◌, ℕ, zero, suc, ◌-◌, ◌+◌, ◌<◌, ◌≤◌, Bool, true, false, cond, ◌&&◌, List, [], ◌∷◌, length, get_or, refl, sym, ap, ◌∙◌, arith}
use Rattle.std.specs.Prelude.{bytes_eq, nat_le, nat_lt}
use Rattle.std.proofs.lemmas.Bool.{and_parts}
use Rattle.std.proofs.lemmas.Bool.Decides.{nat_tests}
use Rattle.dpl_syntax.specs.Tokens.{keyword_text, contextual_text}
use Rattle.dpl_syntax.specs.Gaps.{all_are}
use Rattle.dpl_syntax.specs.Text.{is_word}
use Rattle.dpl_lexer.specs.Scan.{special_text, specials_before, special_at}
use Rattle.dpl_lexer.specs.declared.keyword.Special.{Special}
use Rattle.dpl_lexer.specs.declared.keyword.Special.TheVariants.{Keyword, Contextual}
use Rattle.dpl_syntax.specs.declared.token.Keyword.TheVariants.{Bool as BoolWord, Writeln}
use Rattle.dpl_syntax.specs.declared.token.Contextual.TheVariants.{BlockDist as BlockDistWord}
use Rattle.dpl_lexer.specs.declared.keyword.TheConstants.{SPECIALS, BEFORE}
use Rattle.dpl_lexer.proofs.ByteTests.{bytes_eq-same}

-- each is a word
pub special_text-word : (s : Special) → is_word (special_text s) ≡ true
unfolding keyword_text contextual_text
special_text-word (Contextual BlockDistWord) = refl
special_text-word (Contextual _) = refl
special_text-word (Keyword BoolWord) = refl
special_text-word (Keyword _) = refl

-- the first of a list that is spelled so
abbrev pub first_of_text : List Special → List ℕ → Special
first_of_text [] u = Keyword Writeln
first_of_text (s ∷ ss) u = cond (bytes_eq (special_text s) u) s (first_of_text ss u)

pub read : (s : Special) → first_of_text SPECIALS (special_text s) ≡ s
unfolding keyword_text contextual_text
read (Contextual BlockDistWord) = refl
read (Contextual _) = refl
read (Keyword BoolWord) = refl
read (Keyword _) = refl

-- no two are spelled alike
pub special_text-injective : (r s : Special) → special_text r ≡ special_text s → r ≡ s
special_text-injective r s e = sym (read r) ∙ ap (first_of_text SPECIALS) e ∙ read s

-- a word is none of them where it isn't the one that is looked up for it
pub no_special : (u : List ℕ) → bytes_eq (special_text (first_of_text SPECIALS u)) u ≡ false → (s : Special) → u ≢ special_text s
no_special u other s e =
    let found : first_of_text SPECIALS u ≡ s = ap (first_of_text SPECIALS) e ∙ read s in
    let text : special_text (first_of_text SPECIALS u) ≡ u = ap special_text found ∙ sym e in
    let same : bytes_eq (special_text (first_of_text SPECIALS u)) u ≡ true = bytes_eq-same (special_text (first_of_text SPECIALS u)) u text in
    absurd (cc (other, same))

-- the place of a spelling in a table of words: how many stand before the first that is spelled so
abbrev place_of : List Special → List ℕ → ℕ
place_of [] u = 0
place_of (s ∷ ss) u = cond (bytes_eq (special_text s) u) 0 (suc (place_of ss u))

-- a word's place in the lexer's table. Since it computes, each word is shown to stand there, in the part where the lexer looks for it
index : Special → ℕ
index s = place_of SPECIALS (special_text s)

-- the table has the word at its place
at_index : (s d : Special) → get_or SPECIALS (index s) d ≡ s
unfolding index keyword_text contextual_text
at_index (Contextual BlockDistWord) d = refl
at_index (Contextual _) d = refl
at_index (Keyword BoolWord) d = refl
at_index (Keyword _) d = refl

-- each stands in the table's part for its first byte
abbrev is_between : ℕ → ℕ → Bool
is_between i letter = nat_le (get_or BEFORE letter 0) i && nat_lt i (get_or BEFORE (letter + 1) 0)

is_placed : (s : Special) → is_between (index s) (get_or (special_text s) 0 0 - 65) ≡ true
unfolding index keyword_text contextual_text
is_placed (Contextual BlockDistWord) = refl
is_placed (Contextual _) = refl
is_placed (Keyword BoolWord) = refl
is_placed (Keyword _) = refl

pub record IsListed (s : Special) (letter : ℕ) : Type 0 where
  pub index : ℕ
  pub from : specials_before letter ≤ index
  pub upto : index < specials_before (letter + 1)
  pub is : special_at index ≡ s

nat_le_is : (m n : ℕ) → nat_le m n ≡ true → m ≤ n
nat_le_is m n h = grind (arith, nat_tests)

nat_lt_is : (m n : ℕ) → nat_lt m n ≡ true → m < n
nat_lt_is m n h = grind (arith, nat_tests)

listed_between : (s : Special) (i letter : ℕ) → ((d : Special) → get_or SPECIALS i d ≡ s) → is_between i letter ≡ true → IsListed s letter
unfolding specials_before special_at
listed_between s i letter is h =
    let p = and_parts (nat_le (get_or BEFORE letter 0) i) (nat_lt i (get_or BEFORE (letter + 1) 0)) h in
    record { index = i; from = nat_le_is (get_or BEFORE letter 0) i p.0; upto = nat_lt_is i (get_or BEFORE (letter + 1) 0) p.1; is = is (Keyword Writeln) }

pub is_listed : (s : Special) → IsListed s (get_or (special_text s) 0 0 - 65)
is_listed s = listed_between s (index s) (get_or (special_text s) 0 0 - 65) (at_index s) (is_placed s)

-- no part reaches past the table's end
each_small : (n : ℕ) (l : List ℕ) (i : ℕ) → all_are (λ x. nat_le x n) l ≡ true → get_or l i 0 ≤ n
each_small n [] i h = omega arith
each_small n (x ∷ l) zero h = nat_le_is x n ((and_parts (nat_le x n) (all_are (λ y. nat_le y n) l) h).0)
each_small n (x ∷ l) (suc i) h = each_small n l i ((and_parts (nat_le x n) (all_are (λ y. nat_le y n) l) h).1)

pub before_small : (letter : ℕ) → specials_before letter ≤ length SPECIALS
unfolding specials_before
before_small letter = each_small (length SPECIALS) BEFORE letter refl
