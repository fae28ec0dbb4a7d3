-- The program that was checked is this one.
use Rattle.std.proofs.Common.{subst}
use Rattle.dpl_typed.proofs.Standing.{if_ok}
use Rattle.dpl_run.specs.Programs.{Runs}
use Rattle.dpl_outcome.specs.Settings.{limits_of}
use Rattle.dpl_run.proofs.text.run_spelled.Goals as goal

pub returns-clause-runs : goal.returns-clause-runs
returns-clause-runs g c =
    if_ok c.run_to_end.result (λ ended runs. subst (λ p. Runs p (limits_of c.args.config.now) ended.outcome ended.text.items) c.in_ok-checked.ensures.taken runs) c.run_to_end.ensures.runs
