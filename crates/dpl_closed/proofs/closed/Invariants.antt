-- The first of the tokens that are left is the first of all: none of those before them is a word of tasks.
-- That holds at each turn.
use Rattle.std.proofs.Common.{◌≡◌, drop}
use Rattle.dpl_grammar.specs.Classes.{task_words, first_of}
use Rattle.dpl_closed.proofs.closed.Given as goal

abbrev pub invariant-loop-token : goal.invariant-loop-token
invariant-loop-token l = first_of task_words (drop l.token-index l.tokens) ≡ first_of task_words l.tokens
