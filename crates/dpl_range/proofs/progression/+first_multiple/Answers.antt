-- The rounds that are sought are of smaller numbers, and their answer is the answer in steps.
use Rattle.std.proofs.Common.{◌∙◌, sym, arith, ◌-◌}
use Rattle.dpl_range.proofs.Multiples.{rounds-reduced, steps-meet, steps-least, steps-never}
use Rattle.dpl_range.proofs.progression.+first_multiple.Goals as goal

pub returns-in_err-rounds-clause-none : goal.returns-in_err-rounds-clause-none
returns-in_err-rounds-clause-none t c =
    rw c.from_residual.ensures
    (λ j short meets. steps-never c.args.gap c.args.step c.args.n (omega arith) c.requires.gap (omega arith) (c.in_err-rounds.ensures.none) j meets)

pub steps-requires-clause-whole : goal.steps-requires-clause-whole
steps-requires-clause-whole t c =
    sym (rounds-reduced c.args.step (c.args.n - c.args.gap) c.args.n c.in_ok-rounds.rounds) ∙ c.in_ok-rounds.ensures.meets

pub returns-clause-meets : goal.returns-clause-meets
returns-clause-meets t c = steps-meet c.args.gap c.args.step c.args.n (omega arith) c.requires.gap c.steps.result c.in_ok-rounds.rounds c.steps.ensures.exact

pub returns-clause-least : goal.returns-clause-least
returns-clause-least t c =
    steps-least c.args.gap c.args.step c.args.n (omega arith) c.requires.gap c.steps.result c.in_ok-rounds.rounds (omega arith) c.steps.ensures.exact c.in_ok-rounds.ensures.least
