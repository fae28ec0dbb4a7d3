-- A word that is neither reserved nor contextual is a name.
use Rattle.dpl_lexer.specs.declared.keyword.Special.TheVariants.{Keyword, Contextual}
use Rattle.dpl_lexer.proofs.lexer.word_kind.Goals as goal

pub returns-in-None : goal.returns-in-None
returns-in-None c = (c.new.ensures, c.requires, λ k. c.in-None.ensures.none (Keyword k), λ w. c.in-None.ensures.none (Contextual w))
