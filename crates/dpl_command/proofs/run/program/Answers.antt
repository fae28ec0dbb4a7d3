-- What was read was run, and told.
use Rattle.std.specs.IoError.{error_kind}
use Rattle.dpl_command.specs.Asked.{settings_of}
use Rattle.dpl_command.proofs.Reading.{HasRun-of}
use Rattle.dpl_command.proofs.run.program.Goals as goal

pub returns : goal.returns
returns g c = record {
  ended = c.run_read-ended.result;
  run = HasRun-of (λ text. text.items) error_kind c.args.read.now _ (settings_of c.args.asked.now) _ _ _ c.run_read-ended.ensures.run c.run_read-ended.ensures.unread;
  told = c.tell_all-told.result;
  lines = c.tell_all-told.ensures;
  by = c.status_of.ensures;
}
