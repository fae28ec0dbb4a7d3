-- Lists of statements that may stand in each turn.
use Rattle.std.proofs.Common.{◌≡◌, ℕ, ◌+◌, ◌<◌, ◌≤◌, List, length, drop, get_or, sym, subst}
use Rattle.dpl_syntax.proofs.Walks.{drop-at, drop-end}
use Rattle.dpl_standing.specs.Standing.{InTurn}
use Rattle.dpl_nodes.specs.declared.step.Step.{Step}
use Rattle.dpl_readings.specs.Readings.{step_in, steps_in}
use Rattle.dpl_dependence.specs.declared.turn.TurnRules.{TurnRules}
use Rattle.dpl_dependence.specs.Turns.{MayStand, AllMayStand}

module _ (rules : TurnRules) where
  abbrev pub StepsMay : List Step → Type 0
  StepsMay ss = AllMayStand rules (steps_in InTurn ss)

  pub steps-next : (ss : List Step) (k : ℕ) (s : Step) → k < length ss → s ≡ get_or ss k s → MayStand rules (step_in InTurn s) → StepsMay (drop (k + 1) ss) → StepsMay (drop k ss)
  steps-next ss k s within is may all = subst StepsMay (sym (drop-at ss k s within is)) (λ t. (((may t).0, (all t).0), ((may t).1, (all t).1)))

  pub steps-end : (ss : List Step) (k : ℕ) → length ss ≤ k → StepsMay (drop k ss)
  steps-end ss k past = subst StepsMay (sym (drop-end ss k past)) (λ t. (tt, tt))
