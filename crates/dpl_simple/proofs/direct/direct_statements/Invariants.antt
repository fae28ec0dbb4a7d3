-- What was to be done at first goes over to what is left to do, from here.
use Rattle.std.proofs.Common.{◌≡◌, drop}
use Rattle.dpl_language.specs.Statements.{exec_all}
use Rattle.dpl_standing.specs.Standing.{Standing}
use Rattle.dpl_readings.specs.Readings.{steps_in}
use Rattle.dpl_coming.specs.Noting.{Note, noting}
use Rattle.dpl_coming.specs.Walks.{Site, Known, Goes}
use Rattle.dpl_simple.proofs.direct.direct_statements.Given as goal

abbrev pub invariant-loop-k : goal.invariant-loop-k
invariant-loop-k g l = record {
  goes : (w : Standing) (note : Note) (site : Site) (o : Known) →
      Goes site o o l.initial.frame.memory l.frame.memory
      (exec_all l.initial.frame.limits (noting note) (steps_in w l.steps)) (exec_all l.initial.frame.limits (noting note) (steps_in w (drop l.k l.steps)));
  limits : l.frame.limits ≡ l.initial.frame.limits;
}
