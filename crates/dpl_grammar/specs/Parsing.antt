-- What a parse says of a list of tokens: the value that they spell, or the one refusal that they have.
-- L is a language for each number of levels of nesting, and at most so many levels are read.
use Rattle.std.specs.Prelude.{◌≡◌, ℕ, suc, List, [], ◌∷◌, ◌++◌, Option, Some, None}
use Rattle.dpl_syntax.specs.declared.place.Place.{Place}
use Rattle.dpl_syntax.specs.declared.token.Token.{Token}
use Rattle.dpl_syntax.specs.declared.refusal.Code.{Code}
use Rattle.dpl_syntax.specs.declared.refusal.Code.TheVariants.{Unexpected, TooDeep}
use Rattle.dpl_syntax.specs.declared.refusal.Refusal.{Refusal}
use Rattle.dpl_grammar.specs.Language.{Language}

-- the tokens, all of them, spell the value in at most d levels
abbrev pub Spells : {T : Type 0} → (ℕ → Language T) → ℕ → List Token → T → Type 0
Spells L d = (L d).Spells

-- the tokens are a front of a value of at most d levels
abbrev pub IsFront : {T : Type 0} → (ℕ → Language T) → ℕ → List Token → Type 0
IsFront L d = (L d).Front

-- a token at a place, before which the tokens are a front of no more levels than are read
pub record StopsAt {T : Type 0} (L : ℕ → Language T) (levels : ℕ) (tokens : List Token) (at : Place) : Type 0 where
  pub before : List Token
  pub token : Token
  pub after : List Token
  pub split : tokens ≡ before ++ token ∷ after
  pub place : at ≡ token.at
  pub begins : IsFront L levels before

-- P1 stands at the first token with which the tokens up to it are no front of a value, however deep.
pub record IsUnexpected {T : Type 0} (L : ℕ → Language T) (levels : ℕ) (tokens : List Token) (at : Place) : Type 0 where
  pub stop : StopsAt L levels tokens at
  pub no_front : (d : ℕ) → IsFront L d (stop.before ++ stop.token ∷ []) → ⊥

-- P2 stands at the first token that goes one level deeper than is read.
pub record IsTooDeep {T : Type 0} (L : ℕ → Language T) (levels : ℕ) (tokens : List Token) (at : Place) : Type 0 where
  pub stop : StopsAt L levels tokens at
  pub no_room : IsFront L levels (stop.before ++ stop.token ∷ []) → ⊥
  pub deeper : IsFront L (suc levels) (stop.before ++ stop.token ∷ [])

-- the tokens stop where a value would go on
pub record IsUnended {T : Type 0} (L : ℕ → Language T) (levels : ℕ) (tokens : List Token) : Type 0 where
  pub begins : IsFront L levels tokens
  pub not_spelled : (d : ℕ) (value : T) → Spells L d tokens value → ⊥

-- the refusal of tokens that spell no value of so many levels
abbrev pub RefusesBy : {T : Type 0} → (ℕ → Language T) → ℕ → List Token → Code → Option Place → Type 0
RefusesBy L levels tokens Unexpected (Some at) = IsUnexpected L levels tokens at
RefusesBy L levels tokens Unexpected None = IsUnended L levels tokens
RefusesBy L levels tokens TooDeep (Some at) = IsTooDeep L levels tokens at
RefusesBy L levels tokens _ place = ⊥

abbrev pub Refuses : {T : Type 0} → (ℕ → Language T) → ℕ → List Token → Refusal → Type 0
Refuses L levels tokens refusal = RefusesBy L levels tokens refusal.code refusal.place
