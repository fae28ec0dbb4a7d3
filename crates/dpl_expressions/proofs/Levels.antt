-- The levels of operators in the order of calls, and what a level reads; and what a product reads, and a base with what stands behind it.
-- The equations have a rule's reader on their left side, and its parts' on their right.
use Rattle.std.proofs.Common.{◌≡◌, ℕ, false, List, [], Ok, refl, ap, ◌∙◌}
use Rattle.std.specs.Prelude as Bool
use Rattle.dpl_syntax.specs.declared.token.Token.{Token}
use Rattle.dpl_grammar.specs.Reader as reader
use Rattle.dpl_grammar.specs.Reader.{Reader, done_at, next_in}
use Rattle.dpl_grammar.specs.Reading.{first, first_late}
use Rattle.dpl_grammar.specs.Rule.{many, run}
use Rattle.dpl_grammar.proofs.Turns.{begins, ends}
use Rattle.dpl_grammar.proofs.RunTurns.{run_begins, run_ends}
use Rattle.dpl_expressions.specs.declared.level.Level.{Level}
use Rattle.dpl_expressions.specs.declared.level.Level.TheVariants.{Sum, Relation, Equality, And, Or}
use Rattle.dpl_spelling.specs.Nested.{Expression, Rule}
use Rattle.dpl_spelling.specs.Expressions.{Further, chain_of, sum, relation, equality, conjunction, expression_from, not, product, is_negated, further_factor, post, postfix, postfixed}
use Rattle.dpl_expressions.specs.Levels.{level_rule, operand_rule, further_rule}
use Rattle.dpl_spelling.specs.Reading.{at, late_at}

-- a function for the chains of a level calls those for the levels before it
abbrev pub rank : Level → ℕ
rank Sum = 16
rank Relation = 24
rank Equality = 32
rank And = 40
rank Or = 48

-- what a level reads: its operands and the operators between them
pub at_level : (level : Level) (b : Rule Expression) (room : ℕ) → at (level_rule level b) room ≡ reader.◌>>=◌ (at (operand_rule level b) room) (λ x. reader.◌>>=◌ (at (many (further_rule level)) room) (λ xs. done_at (chain_of x xs)))
unfolding sum relation equality conjunction expression_from
at_level Sum b room = refl
at_level Relation b room = refl
at_level Equality b room = refl
at_level And b room = refl
at_level Or b room = refl

at_product : (b : Rule Expression) (room : ℕ) → at (product b) room ≡ reader.◌>>=◌ (at (not b) room) (λ x. reader.◌>>=◌ (at (run (λ f. is_negated f.right) further_factor) room) (λ xs. done_at (chain_of x xs)))
unfolding product
at_product b room = refl

at_postfix : (b : Rule Expression) (room : ℕ) → at (postfix b) room ≡ reader.◌>>=◌ (at b room) (λ x. reader.◌>>=◌ (at (many post) room) (λ ps. done_at (postfixed x ps)))
unfolding postfix
at_postfix b room = refl

-- Where no operator is next, the first operand is all that is read; and so is a base, where nothing stands behind it.
module _ (b : Rule Expression) (room : ℕ) (ts : List Token) (e : Expression) (rest : List Token) where
  pub operand_alone : (level : Level) → at (operand_rule level b) room ts ≡ Ok (e, rest) → next_in (first (further_rule level)) rest ≡ false → at (level_rule level b) room ts ≡ Ok (e, rest)
  unfolding chain_of
  operand_alone level is none =
      let class = first (further_rule level) in
      let one = at (further_rule level) room in
      ap (λ (read : Reader Expression). read ts) (at_level level b room) ∙ rw (is, ends class one rest [] rest (begins class one rest) none) refl

  pub factor_alone : at (not b) room ts ≡ Ok (e, rest) → next_in (first_late further_factor) rest ≡ false → at (product b) room ts ≡ Ok (e, rest)
  unfolding chain_of
  factor_alone is none =
      let class = first_late further_factor in
      let more = λ (f : Further). Bool.not (is_negated f.right) in
      let one = late_at further_factor room in
      ap (λ (read : Reader Expression). read ts) (at_product b room) ∙ rw (is, run_ends class more one rest [] rest (run_begins class more one rest) none) refl

  pub base_alone : at b room ts ≡ Ok (e, rest) → next_in (first post) rest ≡ false → at (postfix b) room ts ≡ Ok (e, rest)
  unfolding postfixed
  base_alone is none =
      let class = first post in
      let one = at post room in
      ap (λ (read : Reader Expression). read ts) (at_postfix b room) ∙ rw (is, ends class one rest [] rest (begins class one rest) none) refl
