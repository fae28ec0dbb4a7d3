use Rattle.std.proofs.Common.{◌∙◌, rules}
use Rattle.dpl_outcome.proofs.Taking.{taken_more}
use Rattle.dpl_outcome.proofs.writer.write_all.Goals as goal

pub all-preserved : goal.all-preserved
all-preserved g c =
    let t = c.all.invariant.taken in
    let more = taken_more _ _ _ c.args.bytes.now c.all.rest.now t.0 c.in-Ok.count t.1 t.2 c.in-Ok.ensures.bound t.3 c.in-Ok.ensures.contents in
    record { taken = (more.0, more.1, c.split_at.ensures.back ∙ more.2, more.3); unfailed = search (rules, c.in-Ok.ensures.failed, c.all.invariant.unfailed) }
