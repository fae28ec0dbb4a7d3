-- What a parse says of a list of tokens: the tree that they spell, or the one refusal that they have.
-- Nesting is at most 64 levels. What each line means for any language stands in dpl_grammar/specs/Parsing.antt.
use Rattle.std.specs.Prelude.{ℕ, List}
use Rattle.dpl_syntax.specs.declared.token.Token.{Token}
use Rattle.dpl_syntax.specs.declared.refusal.Refusal.{Refusal}
use Rattle.dpl_grammar.specs.Language.{Language}
use Rattle.dpl_grammar.specs.Rule.{spelled, deep}
use Rattle.dpl_grammar.specs.Parsing as parsing
use Rattle.dpl_spelling.specs.Grammar.{Program, program, grammar}

-- programs of at most d levels
abbrev pub programs : ℕ → Language Program
programs d = spelled program (deep grammar d)

-- the tokens, all of them, spell the program in at most d levels
abbrev pub Spells : ℕ → List Token → Program → Type 0
Spells = parsing.Spells programs

-- the tokens are a front of a program of at most d levels
abbrev pub IsFront : ℕ → List Token → Type 0
IsFront = parsing.IsFront programs

-- the refusal of tokens that spell no program of at most 64 levels
abbrev pub Refuses : List Token → Refusal → Type 0
Refuses = parsing.Refuses programs 64
