-- What the lexer finds at the front of a text.
-- It finds a token's shape first, and then its kind.
use Rattle.std.specs.Prelude.{◌≡◌, ◌≢◌, ◌⊎◌, ℕ, pos, ◌<◌, ◌≤◌, List, [], ◌∷◌, ◌++◌, length, take, drop, get_or, Bool, true, false, ◌==◌, ◌&&◌, Option, Some, None}
use Rattle.dpl_syntax.specs.Gaps.{is_space, next_is, opens_line, opens_block, after_comments, IsPiece}
use Rattle.dpl_syntax.specs.Text.{is_letter, is_digit, is_quote, is_word, is_digit_of, base_named, is_number, is_quoted, between, well_escaped, number_value, greatest, Ends}
use Rattle.dpl_syntax.specs.Tokens.{keyword_text, contextual_text, sign_text}
use Rattle.dpl_syntax.specs.Refused.{IsFlaw}
use Rattle.dpl_syntax.specs.declared.token.Sign.{Sign}
use Rattle.dpl_lexer.specs.declared.keyword.Special.{Special}
use Rattle.dpl_lexer.specs.declared.keyword.Special.TheVariants.{Keyword, Contextual}
use Rattle.dpl_lexer.specs.declared.keyword.TheConstants.{SPECIALS, BEFORE}
use Rattle.dpl_syntax.specs.declared.token.Keyword.TheVariants.{Writeln}
use Rattle.dpl_lexer.specs.declared.scan.LexemeKind.{LexemeKind}
use Rattle.dpl_lexer.specs.declared.scan.LexemeKind.TheVariants.{Word, Number, Text, Sign as Signed}
use Rattle.dpl_lexer.specs.declared.scan.Lexeme.{Lexeme}
use Rattle.dpl_lexer.specs.declared.scan.Flaw.{Flaw}

-- so many bytes at the front are one piece of a gap
pub record IsPieceAt (text : List ℕ) (n : ℕ) : Type 0 where
  pub some : 0 < n
  pub within : n ≤ length text
  pub piece : IsPiece (take n text) (drop n text)

-- no piece of a gap stands here
pub record IsDark (text : List ℕ) : Type 0 where
  pub no_space : next_is is_space text ≡ false
  pub no_line : opens_line text ≡ false
  pub no_block : opens_block text ≡ true → after_comments 1 (drop 2 text) ≡ None

-- a byte stands here that begins no word, no number and no text in quotes
pub record IsBare (text : List ℕ) : Type 0 where
  pub some : 0 < length text
  pub no_letter : next_is is_letter text ≡ false
  pub no_digit : next_is is_digit text ≡ false
  pub no_quote : next_is is_quote text ≡ false

-- how a word with a meaning of its own is spelled
abbrev pub special_text : Special → List ℕ
special_text (Keyword k) = keyword_text k
special_text (Contextual w) = contextual_text w

-- how many of these words begin with a byte before a letter, which is counted from A; and one of them by its place
unfoldable pub specials_before : ℕ → ℕ
specials_before letter = get_or BEFORE letter 0

unfoldable pub special_at : ℕ → Special
special_at place = get_or SPECIALS place (Keyword Writeln)

-- 0 stands at the front, a base's letter and a digit of that base
abbrev pub starts_based : List ℕ → Bool
starts_based [] = false
starts_based (z ∷ []) = false
starts_based (z ∷ l ∷ []) = false
starts_based (z ∷ l ∷ d ∷ cs) = (z == 48) && is_digit_of (base_named l) d

-- the base of the number at the front, and how many bytes stand before its digits
abbrev pub IsStart : List ℕ → ℕ → ℕ → Type 0
IsStart text base skipped =
    ((base ≡ 10) × (skipped ≡ 0) × (next_is is_digit text ≡ true) × (starts_based text ≡ false))
    ⊎ ((base ≡ base_named (get_or text 1 0)) × (skipped ≡ 2) × (starts_based text ≡ true))

-- the bytes have this shape
abbrev pub IsOfKind : LexemeKind → List ℕ → Type 0
IsOfKind Word u = is_word u ≡ true
IsOfKind (Number n) u = (n ≡ pos (number_value u)) × (is_number u ≡ true) × (number_value u ≤ greatest)
IsOfKind Text u = (is_quoted u ≡ true) × (well_escaped (between u) ≡ between u)
IsOfKind (Signed s) u = u ≡ sign_text s

-- the token at the front
pub record IsLexemeAt (text : List ℕ) (found : Lexeme) : Type 0 where
  pub some : 0 < found.len
  pub within : found.len ≤ length text
  pub shape : IsOfKind found.shape (take found.len text)
  pub ends : Ends (take found.len text) (drop found.len text)

-- what keeps the text from being read on
pub record IsFlawAt (text : List ℕ) (flaw : Flaw) : Type 0 where
  pub within : flaw.offset ≤ length text
  pub flawed : IsFlaw text flaw.code (take flaw.offset text)

-- the longest sign at the front, if one stands there
abbrev pub IsSignAt : List ℕ → Option Sign → Type 0
IsSignAt text None = (s : Sign) (w : List ℕ) → text ≢ sign_text s ++ w
IsSignAt text (Some s) =
    (text ≡ sign_text s ++ drop (length (sign_text s)) text)
    × ((t : Sign) (w : List ℕ) → text ≡ sign_text t ++ w → length (sign_text t) ≤ length (sign_text s))
