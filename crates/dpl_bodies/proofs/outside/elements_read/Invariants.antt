use Rattle.std.proofs.Common.{◌≡◌, map, drop}
use Rattle.dpl_rules.specs.Deeds.{each}
use Rattle.dpl_rules.specs.Breaches.{least_from}
use Rattle.dpl_deeds.specs.View.{deed_view}
use Rattle.dpl_scopes.specs.Types.{origin_view}
use Rattle.dpl_rules.specs.Bodies.{element_read as element_read_of}
use Rattle.dpl_bodies.proofs.outside.elements_read.Given as goal

-- what is left to tell from here is what was to tell at first
abbrev pub invariant-loop-deed : goal.invariant-loop-deed
invariant-loop-deed l =
    least_from l.first (each (element_read_of (origin_view l.target)) (map deed_view (drop l.deed-index l.deeds))) ≡ least_from l.initial.first (each (element_read_of (origin_view l.target)) (map deed_view l.deeds))
