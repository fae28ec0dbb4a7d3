use Rattle.std.proofs.Common.{◌+◌, length, map}
use Rattle.dpl_syntax.specs.declared.token.Sign.TheVariants.{Comma}
use Rattle.dpl_grammar.specs.Classes.{sign}
use Rattle.dpl_grammar.proofs.Turns.{IsSoFar}
use Rattle.dpl_tree.specs.Statements.{next_argument_view}
use Rattle.dpl_spelling.specs.Expressions.{after_comma}
use Rattle.dpl_spelling.specs.Statements.{argument}
use Rattle.dpl_spelling.specs.Reading.{at}
use Rattle.dpl_statements.proofs.output.other_arguments.Given as goal

abbrev pub invariant-each : goal.invariant-each
invariant-each l = IsSoFar (sign Comma) (at (after_comma argument) (l.room + 1)) l.tokens (map next_argument_view l.others.items) l.rest

abbrev pub decreases-each : goal.decreases-each
decreases-each l = length l.rest
