use Rattle.std.proofs.Common.{rules}
use Rattle.dpl_spelling.proofs.Told.{read_assignment}
use Rattle.dpl_statements.proofs.assignment.assignment_end.Goals as goal

pub returns-in_err-op-clause-gives : goal.returns-in_err-op-clause-gives
returns-in_err-op-clause-gives c = rw (read_assignment, c.in_ok-target.ensures.gives) (search rules)

pub returns-in_err-value-clause-gives : goal.returns-in_err-value-clause-gives
returns-in_err-value-clause-gives c = rw (read_assignment, c.in_ok-target.ensures.gives, c.in_ok-op.ensures.gives) (search rules)

pub returns-in_err-semicolon-clause-gives : goal.returns-in_err-semicolon-clause-gives
returns-in_err-semicolon-clause-gives c = rw (read_assignment, c.in_ok-target.ensures.gives, c.in_ok-op.ensures.gives, c.in_ok-value.ensures.gives) (search rules)

pub returns-clause-gives : goal.returns-clause-gives
returns-clause-gives c = rw (read_assignment, c.in_ok-target.ensures.gives, c.in_ok-op.ensures.gives, c.in_ok-value.ensures.gives, c.in_ok-semicolon.ensures.gives) (search rules)
