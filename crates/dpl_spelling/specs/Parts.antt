-- Parts of declarations and statements as a parser's functions hand them on.
-- Nothing of the grammar is defined here.
use Rattle.std.specs.Prelude.{cond, bytes_eq, ◌++◌, ℕ, List, Option, Some, None}
use Rattle.dpl_syntax.specs.declared.place.Place.{Place}
use Rattle.dpl_syntax.specs.declared.token.Contextual.{Contextual}
use Rattle.dpl_syntax.specs.declared.token.Keyword.TheVariants.{Const, Var, Write, Writeln}
use Rattle.dpl_syntax.specs.declared.token.Sign.TheVariants.{Semicolon}
use Rattle.dpl_syntax.specs.Tokens.{contextual_text}
use Rattle.dpl_language.specs.Tree.{Placed, ArgumentTree, TextArgument}
use Rattle.dpl_grammar.specs.Classes.{Class, names, texts, sign, keyword}
use Rattle.dpl_grammar.specs.Rule.{token, ◌⟶◌, ◌∎}
use Rattle.dpl_spelling.specs.Nested.{Rule}
use Rattle.dpl_spelling.specs.Expressions.{bytes_of}

-- where a bare name stands, if its bytes are the word's
abbrev pub place_of_word : Contextual → Option (Placed (List ℕ)) → Option Place
place_of_word w None = None
place_of_word w (Some n) = cond (bytes_eq n.name (contextual_text w)) (Some n.at) None

-- a rule of functions, told what it goes on with
unfoldable pub told : {A B : Type 0} → A → Rule (A → B) → Rule B
told x a = a ∎ ⟶ λ make. make x

-- a text, handed to output
abbrev pub text_argument : Rule (ArgumentTree (List ℕ))
text_argument = token texts ∎ ⟶ λ k. TextArgument k.at (bytes_of k.kind)

-- what a statement that is no block and has no body begins with
abbrev pub begins_simple : Class
begins_simple = keyword Const ++ (keyword Var ++ (sign Semicolon ++ (names ++ (keyword Write ++ keyword Writeln))))
