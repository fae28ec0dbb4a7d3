-- A progression that begins with its step has gone one step already; at n itself every one meets a multiple of n.
use Rattle.std.proofs.Common.{◌-◌, arith}
use Rattle.std.proofs.Math.Nat.{mul-mod_right}
use Rattle.dpl_range.proofs.Multiples.{step-before}
use Rattle.dpl_range.proofs.progression.period.Goals as goal

pub returns-in-Some-clause-least : goal.returns-in-Some-clause-least
returns-in-Some-clause-least c = λ j some before meets. c.in-Some.ensures.least (j - 1) (omega arith) (step-before c.args.step c.args.n j some meets)

pub returns-in-None-clause-meets : goal.returns-in-None-clause-meets
returns-in-None-clause-meets c = mul-mod_right c.args.n c.args.step

pub returns-in-None-clause-least : goal.returns-in-None-clause-least
returns-in-None-clause-least c = λ j some before meets. c.in-None.ensures.none (j - 1) (omega arith) (step-before c.args.step c.args.n j some meets)
