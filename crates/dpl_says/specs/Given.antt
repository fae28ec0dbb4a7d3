-- What the command line gives to the `config const`s of a program: each word `name=value` a value of the declared kind.
-- Words that don't fit refuse the program (C14), and give nothing.
use Rattle.std.specs.Prelude.{ℕ, ◌==◌, ℤ, pos, neg_ℤ, bytes_eq, codes, if◌then◌else◌, List, [], ◌∷◌, ◌++◌, Option, Some, None, option_and_then}
use Rattle.dpl_rules.specs.Verdicts.{where_given}
use Rattle.dpl_syntax.specs.Text.{value_after}
use Rattle.dpl_language.specs.Tree.{Kind, IntKind, BoolKind, ProgramTree}
use Rattle.dpl_language.specs.Values.{Value, Int, Truth}
use Rattle.dpl_language.specs.Names.{Text}
use Rattle.dpl_rules.specs.Types.{scalar_of}
use Rattle.dpl_rules.specs.Sights.{Scopes, lookup, type_declared}
use Rattle.dpl_rules.specs.Breaches.{top}
use Rattle.dpl_rules.specs.Sound.{name_and_value, behind_all}

-- the number that decimal digits are, behind a minus or not
abbrev pub number_by : List ℕ → ℤ
number_by [] = pos 0
number_by (c ∷ cs) = if c == 45 then neg_ℤ (pos (value_after 10 0 cs)) else pos (value_after 10 0 (c ∷ cs))

abbrev pub value_by : Kind → List ℕ → Value
value_by IntKind text = Int (number_by text)
value_by BoolKind text = Truth (bytes_eq text (codes "true"))

-- the value of a name that is declared as an int or a bool
abbrev pub word_by : Scopes → Option (Text × List ℕ) → List (Text × Value)
word_by ss None = []
word_by ss (Some p) = where_given (option_and_then scalar_of (type_declared (lookup ss p.0))) (λ k. (p.0, value_by k p.1) ∷ [])

abbrev pub words_by : Scopes → List (List ℕ) → List (Text × Value)
words_by ss [] = []
words_by ss (w ∷ ws) = word_by ss (name_and_value w) ++ words_by ss ws

-- by the names of the program's top level
abbrev pub given : ProgramTree Text → List (List ℕ) → List (Text × Value)
given t sets = words_by (behind_all top t.stmts) sets
