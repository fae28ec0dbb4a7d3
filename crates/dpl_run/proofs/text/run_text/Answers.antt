-- What is delivered is what the text comes to, which is a program or has a refusal.
use Rattle.std.proofs.Common.{◌≡◌, true, map, subst}
use Rattle.std.specs.Prelude.{OnErr}
use Rattle.dpl_outcome.specs.Writers.{Partly}
use Rattle.dpl_outcome.specs.Settings.{limits_of}
use Rattle.dpl_grammar.specs.Classes.{task_words}
use Rattle.dpl_says.proofs.OneSaying.{is_read}
use Rattle.dpl_says.proofs.Anywhere.{says}
use Rattle.dpl_run.specs.Headline.{ending, Says}
use Rattle.dpl_run.proofs.Stages.{delivered}
use Rattle.dpl_run.proofs.text.run_text.Goals as goal

pub returns-clause-written : goal.returns-clause-written
returns-clause-written g c =
    let text = c.args.text.now in
    let sets = map (λ set. set.now) c.args.sets.now in
    let limits = limits_of c.args.config.now in
    let o = c.in_ok-ended.ended.outcome in
    let said = c.in_ok-ended.ended.text.items in
    delivered (Says text sets limits) c.deliver.result o said (g.W.Out.contents c.args.out.now) (g.W.Out.contents c.deliver.new.out)
    (says task_words text sets limits (ending o) said c.in_ok-ended.ensures.comes) c.deliver.ensures.outcome c.deliver.ensures.written

pub returns-clause-read : goal.returns-clause-read
returns-clause-read g c = is_read task_words c.args.text.now (map (λ set. set.now) c.args.sets.now)

pub returns-in_err-ended-clause-read : goal.returns-in_err-ended-clause-read
returns-in_err-ended-clause-read g c = is_read task_words c.args.text.now (map (λ set. set.now) c.args.sets.now)

pub returns-clause-writer : goal.returns-clause-writer
returns-clause-writer g c e = (
  subst (λ r. OnErr r (g.W.Out.has_failed c.deliver.new.out ≡ true)) e c.deliver.ensures.failed,
  (
    c.in_ok-ended.ended.outcome,
    c.in_ok-ended.ended.text.items,
    says task_words c.args.text.now (map (λ set. set.now) c.args.sets.now) (limits_of c.args.config.now) (ending c.in_ok-ended.ended.outcome) c.in_ok-ended.ended.text.items
        c.in_ok-ended.ensures.comes,
    subst (λ r. OnErr r (Partly (g.W.Out.contents c.args.out.now) (g.W.Out.contents c.deliver.new.out) c.in_ok-ended.ended.text.items)) e c.deliver.ensures.partly,
  ),
)
