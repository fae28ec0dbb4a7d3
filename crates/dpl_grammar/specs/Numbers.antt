-- A number for each kind of token, whatever a name's text or a number's value. Signs and words are counted in the order of their enums.
-- By these numbers it computes whether a token is of a class.
use Rattle.std.specs.Prelude.{ℕ, ◌+◌}
use denote.Enum.Declared.{tag_of}
use Rattle.dpl_syntax.specs.declared.token.Keyword.{Keyword}
use Rattle.dpl_syntax.specs.declared.token.Sign.{Sign}
use Rattle.dpl_syntax.specs.declared.token.Contextual.{Contextual}
use Rattle.dpl_syntax.specs.declared.token.Kind.{Kind}
use Rattle.dpl_syntax.specs.declared.token.Kind.TheVariants.{Name, Contextual as ContextualKind, Number, Text, Keyword as KeywordKind, Sign as SignKind, End}
use Rattle.dpl_syntax.specs.contracts.token.Sign.{the_type as signs}
use Rattle.dpl_syntax.specs.contracts.token.Keyword.{the_type as words}
use Rattle.dpl_syntax.specs.contracts.token.Contextual.{the_type as contextuals}

-- the number of a sign, from 10 on
abbrev pub sign_number : Sign → ℕ
sign_number s = 10 + tag_of signs s

-- the number of a reserved word, from 100 on
abbrev pub keyword_number : Keyword → ℕ
keyword_number w = 100 + tag_of words w

-- the number of a contextual word, from 200 on
abbrev pub contextual_number : Contextual → ℕ
contextual_number w = 200 + tag_of contextuals w

-- the number of a kind
abbrev pub kind_number : Kind → ℕ
kind_number (Name text) = 0
kind_number (ContextualKind w) = contextual_number w
kind_number (Number n) = 1
kind_number End = 2
kind_number (Text text) = 3
kind_number (SignKind s) = sign_number s
kind_number (KeywordKind w) = keyword_number w
