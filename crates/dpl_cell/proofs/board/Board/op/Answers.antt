-- `op`: a try that misses is one miss more.
-- By `Telling`.
use Rattle.dpl_cell.proofs.Telling.{KeepsNumbers-trans, Waited-suc}
use Rattle.dpl_cell.proofs.board.Board.op.Goals as goal

pub loop-made-preserved : goal.loop-made-preserved
loop-made-preserved c = let i = c.loop-made.invariant in let told = c.in-Missed.ensures in
    let v = c.args.seat.now in let u = c.loop-made.seat in let w = c.try_op.new.seat in record {
      own = told.own;
      numbers = KeepsNumbers-trans v u w i.numbers told.numbers;
      legal = λ _. told.legal;
      ours = λ _. told.ours;
      waited = Waited-suc _ v u w _ _ _ i.waited i.numbers told.missed;
    }
