-- Runs that end early, and what would follow them; and one meaning in the place of another that it equals.
-- Where a gate may refuse is the same for all of a run.
use Rattle.std.proofs.Common.{◌≡◌, Result, Ok, Err, ap, sym, subst, ◌∙◌}
use Rattle.dpl_language.specs.Values.{Index, Fault}
use Rattle.dpl_language.specs.Outcome.{Deeds, Outcome, Stop, Run, then_do, naming}
use Rattle.dpl_memory.specs.Memory.{Memory}
use Rattle.dpl_loop.specs.declared.stop.RunStop.{RunStop}
use Rattle.dpl_loop.specs.declared.stop.RunStop.TheVariants as stop
use Rattle.dpl_loop.specs.Runs.{RunsTo, RunEnds}
use Rattle.dpl_loop.specs.Tells.{IsFault, NamesTurn}

-- a run that ended early ends what would follow it
pub then_do-halts : (may : Type 0) (h : RunStop) (s next : Memory) (done : Deeds) (o : Outcome Memory) (go : Run Memory) → RunsTo may (Err h) s done o → RunsTo may (Err h) next done (then_do o go)
then_do-halts may (stop.Fault f) s next done o go e = ap (λ o. then_do o go) e
then_do-halts may stop.Memory s next done o go e = tt
then_do-halts may stop.Thread s next done o go e = tt
then_do-halts may stop.Gate s next done o go e = e

-- how a run ended early is said of no memory
pub halts-alike : (may : Type 0) (h : RunStop) (s next : Memory) (done : Deeds) (o p : Outcome Memory) → p ≡ o → RunsTo may (Err h) s done o → RunsTo may (Err h) next done p
halts-alike may (stop.Fault f) s next done o p e ends = e ∙ ends
halts-alike may stop.Memory s next done o p e ends = tt
halts-alike may stop.Thread s next done o p e ends = tt
halts-alike may stop.Gate s next done o p e ends = ends

pub ends-alike : (may : Type 0) (r : Result (Unit {0}) RunStop) (s : Memory) (done : Deeds) (o p : Outcome Memory) → p ≡ o → RunsTo may r s done o → RunsTo may r s done p
ends-alike may (Ok v) s done o p e ends = e ∙ ends
ends-alike may (Err h) s done o p e ends = halts-alike may h s s done o p e ends

-- what asks no gate and is named after a turn is no refused entry
pub named-asked : (t : Index) (h named : RunStop) (s : Memory) (done : Deeds) (o : Outcome Memory) → RunEnds (Err h) s done o → NamesTurn t h named → named ≡ stop.Gate → ⊥
named-asked t (stop.Fault f) named s done o ends names is = subst (IsFault _) is names
named-asked t stop.Memory named s done o ends names is = let e : stop.Memory ≡ stop.Gate = sym names ∙ is in absurd cc
named-asked t stop.Thread named s done o ends names is = let e : stop.Thread ≡ stop.Gate = sym names ∙ is in absurd cc
named-asked t stop.Gate named s done o ends names is = ends

-- where more may be refused
pub halts-where : (may more : Type 0) (h : RunStop) (s : Memory) (done : Deeds) (o : Outcome Memory) → (may → more) → RunsTo may (Err h) s done o → RunsTo more (Err h) s done o
halts-where may more (stop.Fault f) s done o go ends = ends
halts-where may more stop.Memory s done o go ends = tt
halts-where may more stop.Thread s done o go ends = tt
halts-where may more stop.Gate s done o go ends = go ends

pub ends-where : (may more : Type 0) (r : Result (Unit {0}) RunStop) (s : Memory) (done : Deeds) (o : Outcome Memory) → (may → more) → RunsTo may r s done o → RunsTo more r s done o
ends-where may more (Ok v) s done o go ends = ends
ends-where may more (Err h) s done o go ends = halts-where may more h s done o go ends

-- what asks no gate, by a meaning that equals its own
pub ends-within : (may : Type 0) (r : Result (Unit {0}) RunStop) (s : Memory) (done : Deeds) (o p : Outcome Memory) → p ≡ o → RunEnds r s done o → RunsTo may r s done p
ends-within may r s done o p e ends = ends-where ⊥ may r s done p absurd (ends-alike ⊥ r s done o p e ends)

-- a fault that is told
pub fault-ends : (may : Type 0) (f : Fault) (h : RunStop) (s : Memory) (done : Deeds) (o : Outcome Memory) → IsFault f h → o ≡ Stop f done → RunsTo may (Err h) s done o
fault-ends may f (stop.Fault g) s done o is e = e ∙ ap (λ f. Stop f done) (sym is)
fault-ends may f stop.Memory s done o is e = absurd is
fault-ends may f stop.Thread s done o is e = absurd is
fault-ends may f stop.Gate s done o is e = absurd is

-- a fault in a named turn names it
pub naming-halts : (may : Type 0) (t : Index) (h g : RunStop) (s : Memory) (done : Deeds) (o : Outcome Memory) → NamesTurn t h g → RunsTo ⊥ (Err h) s done o → RunsTo may (Err g) s done (naming t o)
naming-halts may t (stop.Fault f) (stop.Fault g) s done o names ends = ap (naming t) ends ∙ ap (λ f. Stop f done) (sym names)
naming-halts may t (stop.Fault f) stop.Memory s done o names ends = absurd names
naming-halts may t (stop.Fault f) stop.Thread s done o names ends = absurd names
naming-halts may t (stop.Fault f) stop.Gate s done o names ends = absurd names
naming-halts may t stop.Memory (stop.Fault g) s done o names ends = absurd (let no : stop.Fault g ≡ stop.Memory = names in cc)
naming-halts may t stop.Memory stop.Memory s done o names ends = tt
naming-halts may t stop.Memory stop.Thread s done o names ends = tt
naming-halts may t stop.Memory stop.Gate s done o names ends = absurd (let no : stop.Gate ≡ stop.Memory = names in cc)
naming-halts may t stop.Thread (stop.Fault g) s done o names ends = absurd (let no : stop.Fault g ≡ stop.Thread = names in cc)
naming-halts may t stop.Thread stop.Memory s done o names ends = tt
naming-halts may t stop.Thread stop.Thread s done o names ends = tt
naming-halts may t stop.Thread stop.Gate s done o names ends = absurd (let no : stop.Gate ≡ stop.Thread = names in cc)
naming-halts may t stop.Gate g s done o names ends = absurd ends
