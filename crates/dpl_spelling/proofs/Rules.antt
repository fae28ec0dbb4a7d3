-- Every rule of the grammar is read by its reader, for no rule has a fault, which computes:
-- one token of look-ahead tells the ways apart.
use Rattle.std.proofs.Common.{◌≡◌, ℕ, false, [], refl}
use Rattle.dpl_grammar.specs.Classes.{end}
use Rattle.dpl_grammar.specs.Reading.{faults, below_faults}
use Rattle.dpl_grammar.proofs.Grammars.{ReadsRule, reads}
use Rattle.dpl_spelling.specs.Nested.{Nested, ItemBelow}
use Rattle.dpl_spelling.specs.Grammar.{tops, program, grammar}
use Rattle.dpl_spelling.proofs.AllRules.{all_rules}

pub nested_right : (n : Nested) → (below_faults grammar [] n ≡ []) × (below_faults grammar end n ≡ [])
unfolding all_rules
nested_right ItemBelow = (refl, refl)
nested_right _ = (refl, refl)

-- a program, whose last token is END
pub program_right : faults grammar [] false program ≡ []
unfolding all_rules
program_right = refl

-- no front of what stands before it has END in it
pub tops_right : faults grammar end false tops ≡ []
unfolding all_rules
tops_right = refl

module _ (d : ℕ) where
  pub program_reads : ReadsRule grammar [] d program
  program_reads = reads grammar [] (λ n. (nested_right n).0) program program_right d

  pub tops_read : ReadsRule grammar end d tops
  tops_read = reads grammar end (λ n. (nested_right n).1) tops tops_right d
