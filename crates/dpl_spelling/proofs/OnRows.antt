-- What a proof unfolds to read a row of tokens: the reader, and every rule of the grammar.
-- `unfolding parser_on_rows` stands under its signature.
use Rattle.std.specs.Prelude.{⊤}
use Rattle.dpl_syntax.specs.Tokens.{contextual_text}
use Rattle.dpl_grammar.specs.Reader.{each_at, run_turns_at}
use Rattle.dpl_spelling.proofs.AllRules.{all_rules}

unfoldable pub parser_on_rows : ⊤
unfolding each_at run_turns_at contextual_text all_rules
parser_on_rows = tt
