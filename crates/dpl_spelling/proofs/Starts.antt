-- An expression that begins with no round bracket, which is read alike whether its base may begin with one or not.
-- Each equation has the level's reader over the bases without brackets on its left side.
use Rattle.std.proofs.Common.{◌≡◌, ℕ, zero, suc, Bool, true, false, cond, List, [], ◌∷◌, Err, refl, sym, ◌∙◌}
use Rattle.dpl_syntax.specs.declared.token.Token.{Token}
use Rattle.dpl_syntax.specs.declared.token.Sign.TheVariants.{OpenRound}
use Rattle.dpl_grammar.specs.Classes.{sign}
use Rattle.dpl_grammar.specs.Reader.{Unexpected, next_in}
use Rattle.dpl_grammar.specs.Reading.{faults, first}
use Rattle.dpl_grammar.proofs.Deeper.{rule_refuses}
use Rattle.dpl_spelling.specs.Expressions.{after_comma, listed, items, domain_literal, grouped, simple_base, base, postfix, red, not, product, neg, sum, relation, equality, conjunction, expression_from, expression}
use Rattle.dpl_spelling.specs.Grammar.{grammar}
use Rattle.dpl_spelling.specs.Reading.{at}
use Rattle.dpl_spelling.proofs.Rules.{nested_right}

module _ (room : ℕ) (ts : List Token) (h : next_in (sign OpenRound) ts ≡ false) where
  grouped_refused : (d : ℕ) → at grouped d ts ≡ Err (Unexpected, ts)
  unfolding grouped
  grouped_refused zero = rw h refl
  grouped_refused (suc d) = at_token ts h
    where
      at_token : (us : List Token) → next_in (sign OpenRound) us ≡ false → at grouped (suc d) us ≡ Err (Unexpected, us)
      at_token [] e = refl
      at_token (k ∷ us) e = rw e refl

  simple_right : faults grammar [] false simple_base ≡ []
  unfolding after_comma listed items domain_literal simple_base
  simple_right = refl

  simple_refused : next_in (first simple_base) ts ≡ false → at simple_base room ts ≡ Err (Unexpected, ts)
  unfolding simple_base domain_literal
  simple_refused e = rule_refuses grammar [] (λ n. (nested_right n).0) room ts simple_base simple_right refl e

  base_unbracketed : at simple_base room ts ≡ at base room ts
  unfolding base
  base_unbracketed = by_first (next_in (first simple_base) ts) refl
    where
      by_first : (b : Bool) → next_in (first simple_base) ts ≡ b → at simple_base room ts ≡ cond b (at simple_base room ts) (at grouped room ts)
      by_first true e = refl
      by_first false e = simple_refused e ∙ sym (grouped_refused room)

  postfix_unbracketed : at (postfix simple_base) room ts ≡ at (postfix base) room ts
  unfolding postfix
  postfix_unbracketed = rw base_unbracketed refl

  red_unbracketed : at (red simple_base) room ts ≡ at (red base) room ts
  unfolding red
  red_unbracketed = rw postfix_unbracketed refl

  not_unbracketed : at (not simple_base) room ts ≡ at (not base) room ts
  unfolding not
  not_unbracketed = rw red_unbracketed refl

  product_unbracketed : at (product simple_base) room ts ≡ at (product base) room ts
  unfolding product
  product_unbracketed = rw not_unbracketed refl

  neg_unbracketed : at (neg simple_base) room ts ≡ at (neg base) room ts
  unfolding neg
  neg_unbracketed = rw product_unbracketed refl

  sum_unbracketed : at (sum simple_base) room ts ≡ at (sum base) room ts
  unfolding sum
  sum_unbracketed = rw neg_unbracketed refl

  relation_unbracketed : at (relation simple_base) room ts ≡ at (relation base) room ts
  unfolding relation
  relation_unbracketed = rw sum_unbracketed refl

  equality_unbracketed : at (equality simple_base) room ts ≡ at (equality base) room ts
  unfolding equality
  equality_unbracketed = rw relation_unbracketed refl

  conjunction_unbracketed : at (conjunction simple_base) room ts ≡ at (conjunction base) room ts
  unfolding conjunction
  conjunction_unbracketed = rw equality_unbracketed refl

  pub expression_unbracketed : at (expression_from simple_base) room ts ≡ at expression room ts
  unfolding expression_from
  expression_unbracketed = rw conjunction_unbracketed refl
