use Rattle.std.proofs.Common.{length, map}
use Rattle.dpl_syntax.specs.declared.token.Sign.TheVariants.{Comma}
use Rattle.dpl_grammar.specs.Classes.{sign}
use Rattle.dpl_grammar.proofs.Turns.{IsSoFar}
use Rattle.dpl_tree.specs.Statements.{next_intent_view}
use Rattle.dpl_spelling.specs.Expressions.{after_comma}
use Rattle.dpl_spelling.specs.Statements.{intent}
use Rattle.dpl_spelling.specs.Reading.{at}
use Rattle.dpl_statements.proofs.head.other_intents.Given as goal

abbrev pub invariant-each : goal.invariant-each
invariant-each l = IsSoFar (sign Comma) (at (after_comma intent) 0) l.tokens (map next_intent_view l.others.items) l.rest

abbrev pub decreases-each : goal.decreases-each
decreases-each l = length l.rest
