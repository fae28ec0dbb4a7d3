use Rattle.std.proofs.Common.{◌++◌, length, map}
use Rattle.dpl_syntax.specs.declared.token.Keyword.TheVariants.{Config}
use Rattle.dpl_grammar.specs.Classes.{keyword}
use Rattle.dpl_spelling.specs.Nested.{begins, StatementBelow}
use Rattle.dpl_tree.specs.Statements.{stmt_view}
use Rattle.dpl_grammar.proofs.Turns.{IsSoFar}
use Rattle.dpl_spelling.specs.Grammar.{top}
use Rattle.dpl_spelling.specs.Reading.{at}
use Rattle.dpl_parser.proofs.program.tops.Given as goal

abbrev pub invariant-each : goal.invariant-each
invariant-each l = IsSoFar (begins StatementBelow ++ keyword Config) (at top l.room) l.tokens (map stmt_view l.stmts.items) l.rest

abbrev pub decreases-each : goal.decreases-each
decreases-each l = length l.rest
