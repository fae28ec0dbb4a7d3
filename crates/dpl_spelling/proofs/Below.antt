-- What stands one level of nesting deeper, with room for it and without.
-- Each equation has a reader at a nesting level on its left side, and what it is there on its right.
use Rattle.std.proofs.Common.{◌≡◌, ℕ, ◌+◌, ◌<◌, List}
use Rattle.dpl_syntax.specs.declared.token.Token.{Token}
use Rattle.dpl_grammar.specs.Classes.{Class}
use Rattle.dpl_grammar.specs.Reader.{token_at, no_room}
use Rattle.dpl_grammar.specs.Reading.{deep_at}
use Rattle.dpl_grammar.proofs.Deeper as deeper
use Rattle.dpl_spelling.specs.Nested.{ItemBelow, ExpressionBelow, NegBelow, NotBelow, RedBelow, StartBelow, InsideBelow, StatementBelow}
use Rattle.dpl_spelling.specs.Expressions.{base, red, not, neg, expression, item}
use Rattle.dpl_spelling.specs.Declarations.{start, inside}
use Rattle.dpl_spelling.specs.Statements.{statement}
use Rattle.dpl_spelling.specs.Grammar.{grammar}
use Rattle.dpl_spelling.specs.Reading.{at, late_at, deeper_at}

module _ (ts : List Token) where
  pub deeper_with_room : (d : ℕ) (class : Class) → 0 < d → deeper_at d class ts ≡ token_at class ts
  deeper_with_room d class h = deeper.deeper_with_room grammar ts d class h

  pub deeper_without_room : (d : ℕ) (class : Class) → d ≡ 0 → deeper_at d class ts ≡ no_room class ts
  deeper_without_room d class h = deeper.deeper_without_room grammar ts d class h

  -- a rule one level deeper, by the room that is left there

  pub below_neg : (d e : ℕ) → e + 1 ≡ d → (deep_at grammar d).rule NegBelow ts ≡ at (neg base) e ts
  unfolding grammar
  below_neg d e h = deeper.below_with_room grammar ts NegBelow d e h

  pub below_not : (d e : ℕ) → e + 1 ≡ d → (deep_at grammar d).rule NotBelow ts ≡ at (not base) e ts
  unfolding grammar
  below_not d e h = deeper.below_with_room grammar ts NotBelow d e h

  pub below_red : (d e : ℕ) → e + 1 ≡ d → (deep_at grammar d).rule RedBelow ts ≡ at (red base) e ts
  unfolding grammar
  below_red d e h = deeper.below_with_room grammar ts RedBelow d e h

  pub below_item : (d e : ℕ) → e + 1 ≡ d → (deep_at grammar d).rule ItemBelow ts ≡ at item e ts
  unfolding grammar
  below_item d e h = deeper.below_with_room grammar ts ItemBelow d e h

  pub below_expression : (d e : ℕ) → e + 1 ≡ d → (deep_at grammar d).rule ExpressionBelow ts ≡ at expression e ts
  unfolding grammar
  below_expression d e h = deeper.below_with_room grammar ts ExpressionBelow d e h

  pub below_start : (d e : ℕ) → e + 1 ≡ d → (deep_at grammar d).rule StartBelow ts ≡ at start e ts
  unfolding grammar
  below_start d e h = deeper.below_with_room grammar ts StartBelow d e h

  pub below_inside : (d e : ℕ) → e + 1 ≡ d → (deep_at grammar d).rule InsideBelow ts ≡ at inside e ts
  unfolding grammar
  below_inside d e h = deeper.below_with_room grammar ts InsideBelow d e h

  pub below_statement : (d e : ℕ) → e + 1 ≡ d → (deep_at grammar d).rule StatementBelow ts ≡ late_at statement e ts
  unfolding grammar
  below_statement d e h = deeper.below_with_room grammar ts StatementBelow d e h
