-- The line that tells that a text can't be read was written in part.
use Rattle.std.proofs.Common.{sym, subst}
use Rattle.std.specs.Prelude.{IfErr}
use Rattle.dpl_command.specs.declared.ended.Ended.TheVariants.{Unread}
use Rattle.dpl_command.specs.Ending.{IsCutBy}
use Rattle.dpl_command.specs.Statuses.{told_of}
use Rattle.dpl_command.proofs.Writing.{cut_all}
use Rattle.dpl_command.proofs.tell.tell.Goals as goal

pub returns-in-Unread-clause-cut : goal.returns-in-Unread-clause-cut
returns-in-Unread-clause-cut g c =
    let w = c.write_all-in-Unread in
    subst (λ e. IfErr w.result (IsCutBy (told_of c.args.dumps e) (g.E.Out.contents c.args.errors.now) (g.E.Out.contents w.new.out) (g.E.Out.has_failed w.new.out)))
    (sym c.in-Unread.is) (cut_all (told_of c.args.dumps Unread) _ _ _ w.result w.ensures.partly w.ensures.failed w.ensures.writer)
