use Rattle.std.proofs.Common.{◌≡◌, map, drop}
use Rattle.dpl_rules.specs.Deeds.{each}
use Rattle.dpl_rules.specs.Breaches.{least_from}
use Rattle.dpl_deeds.specs.View.{deed_view}
use Rattle.dpl_rules.specs.Bodies.{deed_breaches as deed_breaches_of}
use Rattle.dpl_bodies.specs.View.{scope_view}
use Rattle.dpl_bodies.proofs.forall.each_breaches.Given as goal

-- what is left to tell from here is what was to tell at first
abbrev pub invariant-loop-deed : goal.invariant-loop-deed
invariant-loop-deed l =
    least_from l.first (each (deed_breaches_of (scope_view l.turns) l.written) (map deed_view (drop l.deed-index l.deeds))) ≡ least_from l.initial.first (each (deed_breaches_of (scope_view l.turns) l.written) (map deed_view l.deeds))
