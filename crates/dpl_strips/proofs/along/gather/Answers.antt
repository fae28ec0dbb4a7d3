-- The words of one piece more stand along the rest of the row.
-- These are the answers to the goals of `gather`.
use Rattle.std.proofs.Common.{◌∙◌, arith}
use Rattle.dpl_memory.specs.Memory.{array_at}
use Rattle.dpl_strips.proofs.RowParts.{both-stand}
use Rattle.dpl_strips.proofs.along.gather.Goals as goal

pub loop-size-preserved : goal.loop-size-preserved
loop-size-preserved g c =
    let before = c.loop-size.invariant in
    let more = c.append-more.result in
    record {
      row = c.append-more.ensures.row ∙ before.row;
      within = omega (arith, before.within, c.append-more.ensures.most, c.loop-size-test.true);
      stand = both-stand c.args.at c.in-Some.rest (array_at c.args.slot c.args.frame.now.memory) c.loop-size.size more c.run.result.now
          c.loop-size.strip.words c.append-more.new.strip.words c.in-Some.ensures before.stand c.run.ensures c.append-more.ensures.before c.append-more.ensures.words;
    }
