-- Reading by a rule of the grammar, with a number of levels of nesting that are left.
-- Each private function of the parser gives what one of these reads.
use Rattle.std.specs.Prelude.{ℕ, Bool}
use Rattle.dpl_syntax.specs.declared.token.Token.{Token}
use Rattle.dpl_grammar.specs.Classes.{Class}
use Rattle.dpl_grammar.specs.Reader.{Reader}
use Rattle.dpl_grammar.specs.Reading.{read, read_late, deep_at, where_room_at}
use Rattle.dpl_spelling.specs.Nested.{Rule, Late}
use Rattle.dpl_spelling.specs.Grammar.{grammar}

-- what the rule reads
abbrev pub at : {T : Type 0} → Rule T → ℕ → Reader T
at rule room = read rule (deep_at grammar room)

abbrev pub late_at : {T : Type 0} {lets : T → Bool} → Late T lets → ℕ → Reader T
late_at rule room = read_late rule (deep_at grammar room)

-- a token that goes one level deeper
abbrev pub deeper_at : ℕ → Class → Reader Token
deeper_at room class = where_room_at (deep_at grammar room).room class
