-- A fault that is told is what the meaning stops with.
use Rattle.std.proofs.Common.{◌≡◌, Result, Ok, Err, sym, ap, ◌∙◌}
use Rattle.dpl_language.specs.Values.{Fault}
use Rattle.dpl_language.specs.Outcome.{Deeds, Outcome, Stop}
use Rattle.dpl_memory.specs.Memory.{Memory}
use Rattle.dpl_loop.specs.declared.stop.RunStop.{RunStop}
use Rattle.dpl_loop.specs.declared.stop.RunStop.TheVariants as stop
use Rattle.dpl_loop.specs.Runs.{RunsTo}
use Rattle.dpl_loop.specs.Tells.{TellsSame}

pub told-fault : (may : Type 0) (f : Fault) (h : Result (Unit {0}) RunStop) (s : Memory) (done : Deeds) (o : Outcome Memory) → TellsSame (Err f) h → o ≡ Stop f done → RunsTo may h s done o
told-fault may f (Ok w) s done o t e = absurd t
told-fault may f (Err (stop.Fault g)) s done o t e = e ∙ ap (λ f. Stop f done) (sym t)
told-fault may f (Err _) s done o t e = absurd t
