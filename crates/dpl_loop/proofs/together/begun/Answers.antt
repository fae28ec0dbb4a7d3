-- The turns from the first place on are all turns.
-- These are the answers to the goals of `begun`.
use Rattle.std.proofs.Common.{◌≡◌, ◌+◌, arith}
use Rattle.dpl_loop.proofs.Order.{ok-then}
use Rattle.dpl_loop.proofs.together.begun.Goals as goal

pub returns-in-Some-clause-goes : goal.returns-in-Some-clause-goes
returns-in-Some-clause-goes g c done =
    ok-then c.row.result (c.row.ensures.goes done) (λ made goes. let first : 0 + made ≡ made = omega arith in rw first at goes)
