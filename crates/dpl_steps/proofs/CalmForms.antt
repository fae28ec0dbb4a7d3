-- A statement of a form that holds no other is calm, wherever it stands.
use Rattle.std.proofs.Common.{◌≡◌, sym, subst}
use Rattle.dpl_standing.specs.Standing.{Standing}
use Rattle.dpl_nodes.specs.declared.step.Step.{Step}
use Rattle.dpl_readings.specs.Readings.{step_in}
use Rattle.dpl_coming.specs.Calm.{IsCalm}
use Rattle.dpl_coming.proofs.CalmSteps.{HoldsNone, simple-calm}

pub form-calm : (w : Standing) (s form : Step) → s ≡ form → HoldsNone form → IsCalm (step_in w s)
form-calm w s form is none = subst (λ s. IsCalm (step_in w s)) (sym is) (simple-calm ⊥ w form none)
