-- What is delivered is what the program comes to.
use Rattle.std.proofs.Common.{◌≡◌, true, subst}
use Rattle.std.specs.Prelude.{OnErr}
use Rattle.dpl_outcome.specs.Writers.{Partly}
use Rattle.dpl_run.specs.Elaborated.{program_of}
use Rattle.dpl_run.specs.Programs.{Runs}
use Rattle.dpl_outcome.specs.Settings.{limits_of}
use Rattle.dpl_run.proofs.Stages.{delivered}
use Rattle.dpl_run.proofs.run.run_checked.Goals as goal

pub returns-clause-written : goal.returns-clause-written
returns-clause-written g c =
    delivered (Runs (program_of c.args.checked.now) (limits_of c.args.config.now)) c.deliver.result c.in_ok-ended.ended.outcome c.in_ok-ended.ended.text.items
    (g.W.Out.contents c.args.out.now) (g.W.Out.contents c.deliver.new.out) c.in_ok-ended.ensures.runs c.deliver.ensures.outcome c.deliver.ensures.written

pub returns-clause-writer : goal.returns-clause-writer
returns-clause-writer g c e = (
  subst (λ r. OnErr r (g.W.Out.has_failed c.deliver.new.out ≡ true)) e c.deliver.ensures.failed,
  (
    c.in_ok-ended.ended.outcome,
    c.in_ok-ended.ended.text.items,
    c.in_ok-ended.ensures.runs,
    subst (λ r. OnErr r (Partly (g.W.Out.contents c.args.out.now) (g.W.Out.contents c.deliver.new.out) c.in_ok-ended.ended.text.items)) e c.deliver.ensures.partly,
  ),
)
