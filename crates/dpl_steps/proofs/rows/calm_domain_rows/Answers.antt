-- Turns of a calm body go over to those that are left, whatever is noted and to come.
use Rattle.std.proofs.Common.{drop}
use Rattle.dpl_sets.specs.Indices.{indices}
use Rattle.dpl_readings.specs.Readings.{steps_in}
use Rattle.dpl_coming.proofs.Walking.{goes-nothing}
use Rattle.dpl_steps.proofs.Walked.{ok-every, goes-domain_rows}
use Rattle.dpl_steps.proofs.rows.calm_domain_rows.Goals as goal

pub returns-then-not-are_calm-clause-goes : goal.returns-then-not-are_calm-clause-goes
returns-then-not-are_calm-clause-goes g c w note site o = goes-nothing site o c.args.frame.now.memory _

pub returns-clause-goes : goal.returns-clause-goes
returns-clause-goes g c w note site o =
    let ts = indices c.args.domain.now in
    ok-every c.domain_rows.result (λ done. c.domain_rows.ensures.goes w done)
    (λ made same. goes-domain_rows c.args.frame.now.limits note site o (steps_in w c.args.body.now) c.args.frame.now.memory c.domain_rows.new.frame.memory (c.are_calm.ensures c.if-not-are_calm.false w)
    c.args.names.now ts (drop made ts) same)
