-- Where no turn is made, nothing has changed.
-- These are the answers to the goals of `make_row`.
use Rattle.std.proofs.Common.{arith, refl}
use Rattle.dpl_loop.proofs.turns.Turns.make_row.Goals as goal

pub returns-clause-done : goal.returns-clause-done
returns-clause-done g c = record {
  between = λ k. c.args.frame.now.memory;
  begins = refl;
  ends = refl;
  each = λ k below done. absurd (omega (arith, below));
}
