use Rattle.std.proofs.Common.{length, map}
use Rattle.dpl_syntax.specs.declared.token.Keyword.TheVariants.{Use}
use Rattle.dpl_grammar.specs.Classes.{keyword}
use Rattle.dpl_tree.specs.Statements.{use_view}
use Rattle.dpl_grammar.proofs.Turns.{IsSoFar}
use Rattle.dpl_spelling.specs.Grammar.{use_line}
use Rattle.dpl_spelling.specs.Reading.{at}
use Rattle.dpl_parser.proofs.program.use_lines.Given as goal

abbrev pub invariant-each : goal.invariant-each
invariant-each l = IsSoFar (keyword Use) (at use_line 0) l.tokens (map use_view l.lines.items) l.rest

abbrev pub decreases-each : goal.decreases-each
decreases-each l = length l.rest
