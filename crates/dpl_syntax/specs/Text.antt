-- The tokens of a text. What stands between them is in Gaps.antt.
-- Read `IsToken`, `Ends` and `IsLexeme`, which speak of one token, and then `Begins` and `Lexes`, which speak of a whole text.
use Rattle.std.specs.Prelude.{◌≡◌, ◌≢◌, ◌⊎◌, ℕ, pos, ◌+◌, ◌-◌, ◌*◌, ◌≤◌, List, [], ◌∷◌, ◌++◌, length, take, drop, get_or, Bool, true, false, nat_le, nat_lt, ◌==◌, ◌&&◌, ◌||◌, if◌then◌else◌, Option, Some, None, IsUtf8}
use Rattle.std.specs.List.{AllByRecursion}
use Rattle.dpl_syntax.specs.Gaps.{all_are, next_is, ends_there, opens_comment, joined, IsGap}
use Rattle.dpl_syntax.specs.Tokens.{keyword_text, contextual_text, sign_text}
use Rattle.dpl_syntax.specs.declared.place.Place.{Place}
use Rattle.dpl_syntax.specs.declared.token.Keyword.{Keyword}
use Rattle.dpl_syntax.specs.declared.token.Contextual.{Contextual}
use Rattle.dpl_syntax.specs.declared.token.Sign.{Sign}
use Rattle.dpl_syntax.specs.declared.token.Kind.{Kind}
use Rattle.dpl_syntax.specs.declared.token.Kind.TheVariants.{Name, Contextual as ContextualKind, Number, Text, Keyword as Reserved, Sign as Signed, End}
use Rattle.dpl_syntax.specs.declared.token.Token.{Token}

-- ---- bytes

-- a to z, A to Z and _
abbrev pub is_letter : ℕ → Bool
is_letter c = (nat_le 97 c && nat_le c 122) || (nat_le 65 c && nat_le c 90) || (c == 95)

-- 0 to 9
abbrev pub is_digit : ℕ → Bool
is_digit c = nat_le 48 c && nat_le c 57

-- what a name goes on with: a letter, a digit, _ or $
abbrev pub goes_on : ℕ → Bool
goes_on c = is_letter c || is_digit c || (c == 36)

-- ---- words and numbers

-- a word: a letter, and then letters, digits, _ and $
abbrev pub is_word : List ℕ → Bool
is_word [] = false
is_word (c ∷ cs) = is_letter c && all_are goes_on cs

-- the value of a digit of any base; 16 for what is none
abbrev pub digit_value : ℕ → ℕ
digit_value c = if is_digit c then c - 48 else (if nat_le 97 c && nat_le c 102 then c - 87 else (if nat_le 65 c && nat_le c 70 then c - 55 else 16))

abbrev pub is_digit_of : ℕ → ℕ → Bool
is_digit_of base c = nat_lt (digit_value c) base

-- what digits go on with: a digit of their base, or _
abbrev pub goes_on_in : ℕ → ℕ → Bool
goes_on_in base c = is_digit_of base c || (c == 95)

-- a digit of the base, and then digits of it and _ in any mix
abbrev pub is_digits : ℕ → List ℕ → Bool
is_digits base [] = false
is_digits base (c ∷ cs) = is_digit_of base c && all_are (goes_on_in base) cs

-- the base that a letter after 0 stands for: 16 for x, 8 for o and 2 for b, of either case; no base for another byte
abbrev pub base_named : ℕ → ℕ
base_named c = if (c == 120) || (c == 88) then 16 else (if (c == 111) || (c == 79) then 8 else (if (c == 98) || (c == 66) then 2 else 0))

-- a number with a base: 0, the base's letter and digits of the base
abbrev pub is_based : List ℕ → Bool
is_based [] = false
is_based (z ∷ []) = false
is_based (z ∷ l ∷ cs) = (z == 48) && is_digits (base_named l) cs

-- a number: decimal digits, or one with a base
abbrev pub is_number : List ℕ → Bool
is_number u = is_digits 10 u || is_based u

-- the value of digits after others that have the value n; _ changes nothing
abbrev pub value_after : ℕ → ℕ → List ℕ → ℕ
value_after base n [] = n
value_after base n (c ∷ cs) = if c == 95 then value_after base n cs else value_after base (n * base + digit_value c) cs

-- the value of a number
abbrev pub number_value : List ℕ → ℕ
number_value u = if is_based u then value_after (base_named (get_or u 1 0)) 0 (drop 2 u) else value_after 10 0 u

-- the greatest number
abbrev pub greatest : ℕ
greatest = 9223372036854775807

-- what may not stand straight after a number: a letter or $
abbrev pub sticks : ℕ → Bool
sticks c = is_letter c || (c == 36)

-- ---- texts in quotes

-- " and '
abbrev pub is_quote : ℕ → Bool
is_quote c = (c == 34) || (c == 39)

-- What is left behind the quote q that ends a text, if one does on its line. A backslash takes the next byte with it.
abbrev mutual
  pub after_quote : ℕ → List ℕ → Option (List ℕ)
  after_quote q [] = None
  after_quote q (c ∷ cs) = if c == 10 then None else (if c == q then Some cs else (if c == 92 then after_escape q cs else after_quote q cs))

  pub after_escape : ℕ → List ℕ → Option (List ℕ)
  after_escape q [] = None
  after_escape q (c ∷ cs) = if c == 10 then None else after_quote q cs

-- a text in quotes, whatever its escapes: a quote, and all up to the same quote
abbrev pub is_quoted : List ℕ → Bool
is_quoted [] = false
is_quoted (q ∷ cs) = is_quote q && ends_there (after_quote q cs)

-- the bytes between the quotes
abbrev pub between : List ℕ → List ℕ
between u = take (length u - 2) (drop 1 u)

-- what may follow a backslash: n, t, ", ' and a backslash
abbrev pub is_escaped : ℕ → Bool
is_escaped c = (c == 110) || (c == 116) || is_quote c || (c == 92)

-- the bytes before the first bad escape, all of them where there is none
abbrev mutual
  pub well_escaped : List ℕ → List ℕ
  well_escaped [] = []
  well_escaped (c ∷ cs) = if c == 92 then well_escape cs else c ∷ well_escaped cs

  pub well_escape : List ℕ → List ℕ
  well_escape [] = []
  well_escape (c ∷ cs) = if is_escaped c then 92 ∷ c ∷ well_escaped cs else []

-- what an escape stands for: a newline, a tab, or the byte after the backslash
abbrev pub escaped : ℕ → ℕ
escaped c = if c == 110 then 10 else (if c == 116 then 9 else c)

-- what the bytes between quotes stand for
abbrev mutual
  pub text_value : List ℕ → List ℕ
  text_value [] = []
  text_value (c ∷ cs) = if c == 92 then escape_value cs else c ∷ text_value cs

  pub escape_value : List ℕ → List ℕ
  escape_value [] = []
  escape_value (c ∷ cs) = escaped c ∷ text_value cs

-- ---- tokens

-- what stands in a text as one token: a word, a number of any size, a text with any escapes, or a sign
abbrev pub IsToken : List ℕ → Type 0
IsToken u = (is_word u ≡ true) ⊎ ((is_number u ≡ true) ⊎ ((is_quoted u ≡ true) ⊎ ((s : Sign) × (u ≡ sign_text s))))

-- no token of the text here is longer
abbrev pub Longest : List ℕ → List ℕ → Type 0
Longest u rest = (v w : List ℕ) → u ++ rest ≡ v ++ w → IsToken v → length v ≤ length u

-- where a token ends: it is as long as it can be, no comment opens where it begins, and no letter or $ stands straight after a number
pub record Ends (u rest : List ℕ) : Type 0 where
  pub longest : Longest u rest
  pub plain : opens_comment (u ++ rest) ≡ false
  pub free : is_number u ≡ true → next_is sticks rest ≡ false

-- The bytes of a token. A name is a word that is neither reserved nor contextual; a number is at most the greatest one; a text's escapes are good.
abbrev pub IsLexeme : Kind → List ℕ → Type 0
IsLexeme (Name text) u = (text ≡ u) × (is_word u ≡ true) × ((k : Keyword) → u ≢ keyword_text k) × ((w : Contextual) → u ≢ contextual_text w)
IsLexeme (ContextualKind w) u = u ≡ contextual_text w
IsLexeme (Number n) u = (n ≡ pos (number_value u)) × (is_number u ≡ true) × (number_value u ≤ greatest)
IsLexeme (Text text) u = (text ≡ between u) × (is_quoted u ≡ true) × (well_escaped text ≡ text)
IsLexeme (Reserved k) u = u ≡ keyword_text k
IsLexeme (Signed s) u = u ≡ sign_text s
IsLexeme End u = ⊥

-- ---- a whole text

-- where a text begins
abbrev pub start : Place
start = record { line = 1; column = 1 }

-- the place after a byte: a newline begins a line
abbrev pub after_byte : Place → ℕ → Place
after_byte p c = if c == 10 then record { line = p.line + 1; column = 1 } else record { line = p.line; column = p.column + 1 }

-- the place after bytes
abbrev pub after : Place → List ℕ → Place
after p [] = p
after p (c ∷ cs) = after (after_byte p c) cs

-- From a place p on, the text is tokens with a gap before each, and one more gap, up to the place q; what is left there is `rest`.
abbrev pub Begins : Place → List ℕ → List Token → Place → List ℕ → Type 0
Begins p text [] q rest = (gap : List (List ℕ)) × (text ≡ joined gap ++ rest) × IsGap gap rest × (q ≡ after p (joined gap))
Begins p text (k ∷ ks) q rest =
    (gap : List (List ℕ)) × (u more : List ℕ) × (text ≡ joined gap ++ (u ++ more)) × IsGap gap (u ++ more) × (k.at ≡ after p (joined gap))
    × IsLexeme k.kind u × Ends u more × Begins (after p (joined gap ++ u)) more ks q rest

-- the greatest length of a text, in bytes
abbrev pub longest_text : ℕ
longest_text = 1048576

-- a text: UTF-8 of that length at the most
pub record IsText (text : List ℕ) : Type 0 where
  pub short : length text ≤ longest_text
  pub utf8 : IsUtf8 text

-- the token that ends a text
abbrev pub end_at : Place → Token
end_at q = record { kind = End; at = q }

-- The text is these tokens. The last one is its end, placed after its last byte.
pub record Lexes (text : List ℕ) (tokens : List Token) : Type 0 where
  pub is_text : IsText text
  pub front : List Token
  pub end : Place
  pub reads : Begins start text front end []
  pub tokens_are : tokens ≡ front ++ end_at end ∷ []

-- The last token is the end of a text, and no other one is.
pub record EndsOnce (tokens : List Token) : Type 0 where
  pub front : List Token
  pub end : Place
  pub is : tokens ≡ front ++ end_at end ∷ []
  pub no_other : AllByRecursion (λ k. k.kind ≢ End) front
