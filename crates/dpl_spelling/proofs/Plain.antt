-- Statements that are no blocks, as bodies, one level of nesting deeper.
-- Each equation has a reader on its left side, and what it is there on its right.
use Rattle.std.proofs.Common.{◌≡◌, ℕ, ◌+◌, false, List, [], Err}
use Rattle.dpl_syntax.specs.declared.token.Token.{Token}
use Rattle.dpl_grammar.specs.Reader.{Unexpected, next_in, no_room}
use Rattle.dpl_grammar.specs.Rule.{below}
use Rattle.dpl_grammar.proofs.Deeper as deeper
use Rattle.dpl_spelling.specs.Nested.{begins_plain, PlainBelow}
use Rattle.dpl_spelling.specs.Statements.{plain_statement}
use Rattle.dpl_spelling.specs.Grammar.{grammar}
use Rattle.dpl_spelling.specs.Reading.{at, late_at}
use Rattle.dpl_spelling.proofs.Rules.{nested_right}

module _ (ts : List Token) where
  pub plain_with_room : (d e : ℕ) → e + 1 ≡ d → at (below PlainBelow) d ts ≡ late_at plain_statement e ts
  unfolding grammar
  plain_with_room d e h = deeper.below_with_room grammar ts PlainBelow d e h

  pub plain_without_room : (d : ℕ) → d ≡ 0 → at (below PlainBelow) d ts ≡ no_room begins_plain ts
  plain_without_room d h = deeper.below_without_room grammar ts PlainBelow d h

  pub plain_not_begun : (d : ℕ) → next_in begins_plain ts ≡ false → at (below PlainBelow) d ts ≡ Err (Unexpected, ts)
  plain_not_begun d h = deeper.below_refuses grammar [] (λ n. (nested_right n).0) PlainBelow ts h d
