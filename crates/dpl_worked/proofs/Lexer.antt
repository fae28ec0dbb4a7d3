-- A lexer that computes, for rows by text.
-- It reads what rows have: words, decimal numbers, texts in quotes without escapes, and signs, with white space between them. Each token is
-- tested as it is found, so that what is read is what the definition of tokens says (`Lexed`).
use Rattle.std.specs.Prelude.{ℕ, zero, suc, pos, ◌+◌, ◌==◌, nat_le, nat_lt, not, ◌&&◌, Bool, true, false, bytes_eq, if◌then◌else◌, List, [], ◌∷◌, ◌++◌, length, take, drop, Option, Some, None}
use Rattle.dpl_syntax.specs.Gaps.{all_are, next_is, is_space, opens_comment}
use Rattle.dpl_syntax.specs.Text.{is_letter, is_digit, is_quote, goes_on, goes_on_in, sticks, is_word, is_digits, is_quoted, between, well_escaped, number_value, greatest, longest_text, start, after, after_byte, end_at}
use Rattle.dpl_syntax.specs.Tokens.{sign_text}
use Rattle.dpl_syntax.specs.declared.place.Place.{Place}
use Rattle.dpl_syntax.specs.declared.token.Sign.{Sign}
use Rattle.dpl_syntax.specs.declared.token.Kind.{Kind}
use Rattle.dpl_syntax.specs.declared.token.Kind.TheVariants.{Name, Contextual as ContextualKind, Number, Text, Keyword as Reserved, Sign as Signed}
use Rattle.dpl_syntax.specs.declared.token.Token.{Token}
use Rattle.dpl_lexer.specs.Scan.{special_text, special_at, starts_based}
use Rattle.dpl_lexer.specs.declared.keyword.Special.{Special}
use Rattle.dpl_lexer.specs.declared.keyword.Special.TheVariants.{Keyword, Contextual}
use Rattle.dpl_lexer.proofs.Signs.{all, each_sign, none_longer}

-- a token at the front of a text: its kind, and how many bytes it takes
pub record Found : Type 0 where
  pub kind : Kind
  pub len : ℕ

abbrev pub found : Kind → ℕ → Found
found k n = record { kind = k; len = n }

abbrev pub when : Bool → Found → Option Found
when true f = Some f
when false f = None

-- how many bytes at the front pass a test
abbrev pub span : (ℕ → Bool) → List ℕ → ℕ
span p [] = 0
span p (c ∷ cs) = if p c then suc (span p cs) else 0

-- ---- tokens of n bytes at the front of a text

abbrev pub special_kind : Special → Kind
special_kind (Keyword k) = Reserved k
special_kind (Contextual w) = ContextualKind w

abbrev pub kind_by : Option Special → List ℕ → Kind
kind_by None u = Name u
kind_by (Some s) u = special_kind s

-- the word with a meaning of its own that is spelled so, sought from the last of the lexer's table on
abbrev pub special_in : ℕ → List ℕ → Option Special
special_in zero u = None
special_in (suc n) u = if bytes_eq (special_text (special_at n)) u then Some (special_at n) else special_in n u

abbrev pub word_kind : List ℕ → Kind
word_kind u = kind_by (special_in 59 u) u

abbrev pub word_at : List ℕ → ℕ → Option Found
word_at text n = when (is_word (take n text) && not (next_is goes_on (drop n text))) (found (word_kind (take n text)) n)

abbrev pub is_decimal : List ℕ → List ℕ → Bool
is_decimal u rest =
    is_digits 10 u
    && (not (next_is (goes_on_in 10) rest)
    && (not (starts_based (u ++ rest)) && (not (next_is sticks rest) && nat_le (number_value u) greatest)))

abbrev pub number_at : List ℕ → ℕ → Option Found
number_at text n = when (is_decimal (take n text) (drop n text)) (found (Number (pos (number_value (take n text)))) n)

abbrev pub quoted_at : List ℕ → ℕ → Option Found
quoted_at text n =
    when (is_quoted (take n text) && bytes_eq (well_escaped (between (take n text))) (between (take n text)))
    (found (Text (between (take n text))) n)

abbrev pub is_sign : Sign → List ℕ → Bool
is_sign s rest =
    each_sign (none_longer (length (sign_text s)) (sign_text s ++ rest)) all && not (opens_comment (sign_text s ++ rest))

abbrev pub sign_at : Sign → List ℕ → ℕ → Option Found
sign_at s text n = when (bytes_eq (sign_text s) (take n text) && is_sign s (drop n text)) (found (Signed s) n)

-- the first sign of a list that is as long as it can be here
abbrev pub or_found : Option Found → Option Found → Option Found
or_found None other = other
or_found (Some f) other = Some f

abbrev pub sign_of : List Sign → List ℕ → Option Found
sign_of [] text = None
sign_of (s ∷ ss) text = or_found (sign_at s text (length (sign_text s))) (sign_of ss text)

abbrev pub quoted_or_sign : ℕ → List ℕ → Option Found
quoted_or_sign c cs = if is_quote c then quoted_at (c ∷ cs) (span (λ d. not (d == c)) cs + 2) else sign_of all (c ∷ cs)

abbrev pub number_or_other : ℕ → List ℕ → Option Found
number_or_other c cs = if is_digit c then number_at (c ∷ cs) (span (goes_on_in 10) (c ∷ cs)) else quoted_or_sign c cs

abbrev pub front : ℕ → List ℕ → Option Found
front c cs = if is_letter c then word_at (c ∷ cs) (span goes_on (c ∷ cs)) else number_or_other c cs

-- ---- a whole text

abbrev pub and_token : Token → Option (List Token) → Option (List Token)
and_token k None = None
and_token k (Some ks) = Some (k ∷ ks)

abbrev pub behind : (Place → List ℕ → Option (List Token)) → Place → List ℕ → Option Found → Option (List Token)
behind further p text None = None
behind further p text (Some f) =
    and_token (record { kind = f.kind; at = p }) (further (after p (take f.len text)) (drop f.len text))

-- the tokens from a place on, in at most so many steps
abbrev pub lexed : ℕ → Place → List ℕ → Option (List Token)
lexed fuel p [] = Some (end_at p ∷ [])
lexed zero p (c ∷ cs) = None
lexed (suc fuel) p (c ∷ cs) = if is_space c then lexed fuel (after_byte p c) cs else behind (lexed fuel) p (c ∷ cs) (front c cs)

abbrev pub is_plain : List ℕ → Bool
is_plain text = nat_le (length text) longest_text && all_are (λ c. nat_lt c 128) text

abbrev pub tokens_of : List ℕ → Option (List Token)
tokens_of text = if is_plain text then lexed (length text) start text else None
