-- `count_up`: a readFE and a writeEF are one round more.
-- By `CountingLemmas`.
use Rattle.dpl_cell_tests.proofs.CountingLemmas.{HasCounted-suc}
use Rattle.dpl_cell.proofs.Telling.{KeepsNumbers-trans}
use Rattle.dpl_cell_tests.proofs.counting.count_up.Goals as goal

pub loop-made-preserved : goal.loop-made-preserved
loop-made-preserved c = let i = c.loop-made.invariant in let read = c.in_ok-value.ensures in let wrote = c.in_ok-op.ensures in
    let v = c.args.seat.now in let u = c.loop-made.seat in let x = c.op.new.seat in let w = c.op-in-loop-made.new.seat in record {
      own = wrote.own;
      numbers = KeepsNumbers-trans v x w (KeepsNumbers-trans v u x i.numbers read.numbers) wrote.numbers;
      counted = HasCounted-suc c.loop-made.made _ v u x w c.in-Value.value c.in_ok-value.field-0 c.in_ok-op.field-0 c.requires.alone i.numbers i.counted read.numbers read.done c.in-Value.is wrote.done wrote.reply;
    }
