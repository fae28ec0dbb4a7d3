use Rattle.std.proofs.Common.{◌+◌, ◌*◌, length, map}
use Rattle.dpl_tree.specs.Statements.{stmt_view}
use Rattle.dpl_grammar.specs.Rule.{below}
use Rattle.dpl_grammar.proofs.Turns.{IsSoFar}
use Rattle.dpl_spelling.specs.Nested.{begins, StatementBelow}
use Rattle.dpl_spelling.specs.Reading.{at}
use Rattle.dpl_statements.proofs.statement.+statement.Given as goal

abbrev pub decreases-block : goal.decreases-block
decreases-block l = l.room * 8

abbrev pub decreases-part : goal.decreases-part
decreases-part l = l.room * 8 + 1

abbrev pub decreases-body : goal.decreases-body
decreases-body l = l.room * 8 + 2

abbrev pub decreases-if_else : goal.decreases-if_else
decreases-if_else l = l.room * 8 + 3

abbrev pub decreases-headed : goal.decreases-headed
decreases-headed l = l.room * 8 + 3

abbrev pub decreases-for_loop : goal.decreases-for_loop
decreases-for_loop l = l.room * 8 + 3

abbrev pub decreases-parallel_loop : goal.decreases-parallel_loop
decreases-parallel_loop l = l.room * 8 + 3

abbrev pub decreases-plain_statement : goal.decreases-plain_statement
decreases-plain_statement l = l.room * 8 + 4

abbrev pub decreases-statement : goal.decreases-statement
decreases-statement l = l.room * 8 + 5

abbrev pub decreases-statements : goal.decreases-statements
decreases-statements l = l.room * 8 + 6

abbrev pub invariant-statements-each : goal.invariant-statements-each
invariant-statements-each l = IsSoFar (begins StatementBelow) (at (below StatementBelow) (l.room + 1)) l.tokens (map stmt_view l.stmts.items) l.rest

abbrev pub decreases-statements-each : goal.decreases-statements-each
decreases-statements-each l = length l.rest
