-- What stands before a body, as the parser's functions hand it on, and what it stands for.
-- Nothing of the grammar is defined here.
use Rattle.std.specs.Prelude.{Option}
use Rattle.dpl_tree.specs.View.{expr_view, item_view}
use Rattle.dpl_tree.specs.Declarations.{optional}
use Rattle.dpl_tree.specs.Statements.{variables_view, with_view}
use Rattle.dpl_tree.specs.declared.statement.With.{With}
use Rattle.dpl_statements.specs.declared.head.Guard.{Guard}
use Rattle.dpl_statements.specs.declared.head.Head.{Head}
use Rattle.dpl_spelling.specs.Statements.{Condition, LoopHead, ParallelHead}

abbrev pub guard_view : Guard → Condition
guard_view c = record { at = c.at; value = expr_view c.value.now }

abbrev pub head_view : Head → LoopHead
head_view h = record { at = h.at; variables = variables_view h.variables; within = h.within; over = item_view h.over }

-- a loop's head with its intents, if it has any
abbrev pub parallel_view : Head → Option With → ParallelHead
parallel_view h w = record { loop = head_view h; with = optional with_view w }
