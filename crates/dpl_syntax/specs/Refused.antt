-- The texts that have no tokens, each with its refusal.
-- A text is refused as too long, else as no UTF-8, else at the first place where it can't be read on.
use Rattle.std.specs.Prelude.{◌≡◌, ◌≢◌, ◌⊎◌, ℕ, ◌≤◌, ◌<◌, List, [], ◌∷◌, ◌++◌, length, take, drop, true, false, Some, None}
use Rattle.std.specs.Str.{IsValidUpTo}
use Rattle.dpl_syntax.specs.Gaps.{is_space, next_is, opens_block, after_comments}
use Rattle.dpl_syntax.specs.Text.{is_quote, is_number, is_quoted, sticks, after_quote, between, well_escaped, number_value, greatest, longest_text, IsToken, Longest, IsText, start, after, Begins}
use Rattle.dpl_syntax.specs.declared.place.Place.{Place}
use Rattle.dpl_syntax.specs.declared.token.Token.{Token}
use Rattle.dpl_syntax.specs.declared.refusal.Code.{Code}
use Rattle.dpl_syntax.specs.declared.refusal.Code.TheVariants.{NotText, BadCharacter, NumberTooLarge}
use Rattle.dpl_syntax.specs.declared.refusal.Refusal.{Refusal}

abbrev pub refusal_at : Code → Place → Refusal
refusal_at code at = record { code = code; place = Some at }

-- a bad character: a byte that is no white space and no quote, and that begins no token
pub record IsBadByte (text : List ℕ) : Type 0 where
  pub some : 0 < length text
  pub dark : next_is is_space text ≡ false
  pub no_quote : next_is is_quote text ≡ false
  pub none : (u rest : List ℕ) → text ≡ u ++ rest → IsToken u → ⊥

-- a /* or a quote that isn't ended
abbrev pub IsUnended : List ℕ → Type 0
IsUnended text =
    ((opens_block text ≡ true) × (after_comments 1 (drop 2 text) ≡ None))
    ⊎ ((q : ℕ) × (cs : List ℕ) × (text ≡ q ∷ cs) × (is_quote q ≡ true) × (after_quote q cs ≡ None))

-- a text with a bad escape, and the bytes before the first one's backslash
pub record IsBadEscape (text before : List ℕ) : Type 0 where
  pub u : List ℕ
  pub rest : List ℕ
  pub is : text ≡ u ++ rest
  pub quoted : is_quoted u ≡ true
  pub bad : well_escaped (between u) ≢ between u
  pub before_is : before ≡ take 1 u ++ well_escaped (between u)

-- a number at the front of the text, with all of its digits
pub record IsNumberAt (text u rest : List ℕ) : Type 0 where
  pub is : text ≡ u ++ rest
  pub number : is_number u ≡ true
  pub longest : Longest u rest

-- What keeps a text from being read on, by its code and by the bytes before its place.
abbrev pub IsFlaw : List ℕ → Code → List ℕ → Type 0
IsFlaw text code before =
    -- a bad character, at that byte
    ((code ≡ BadCharacter) × (before ≡ []) × IsBadByte text)
    -- a comment or a text that isn't ended, at its first byte
    ⊎ (((code ≡ BadCharacter) × (before ≡ []) × IsUnended text)
    -- a bad escape, at its backslash
    ⊎ (((code ≡ BadCharacter) × IsBadEscape text before)
    -- a letter or $ straight after a number, at that byte; so also the letter of a base that no digit of the base follows, for there the number is the 0
    ⊎ (((code ≡ BadCharacter) × ((rest : List ℕ) × IsNumberAt text before rest × (next_is sticks rest ≡ true) × (number_value before ≤ greatest)))
    -- a number past the greatest one, at its first digit
    ⊎ ((code ≡ NumberTooLarge) × (before ≡ []) × ((u rest : List ℕ) × IsNumberAt text u rest × (greatest < number_value u))))))

-- the text begins with tokens, and then it can't be read on
pub record IsUnread (text : List ℕ) (refusal : Refusal) : Type 0 where
  pub is_text : IsText text
  pub front : List Token
  pub at : Place
  pub rest : List ℕ
  pub reads : Begins start text front at rest
  pub code : Code
  pub before : List ℕ
  pub flaw : IsFlaw rest code before
  pub refusal_is : refusal ≡ refusal_at code (after at before)

-- the bytes are no UTF-8 from this one on: those before it are the longest front that is
pub record IsNoUtf8 (text : List ℕ) (refusal : Refusal) : Type 0 where
  pub short : length text ≤ longest_text
  pub valid : ℕ
  pub first : IsValidUpTo text valid
  pub refusal_is : refusal ≡ refusal_at NotText (after start (take valid text))

-- The text is refused so.
abbrev pub LexRefuses : List ℕ → Refusal → Type 0
LexRefuses text refusal =
    ((longest_text < length text) × (refusal ≡ refusal_at NotText start))
    ⊎ (IsNoUtf8 text refusal ⊎ IsUnread text refusal)
