use Rattle.std.proofs.Common.{◌≡◌, map, drop}
use Rattle.dpl_rules.specs.Breaches.{least_from}
use Rattle.dpl_deeds.specs.View.{deed_view}
use Rattle.dpl_rules.specs.Deeds.{inner_reductions as inner_reductions_of}
use Rattle.dpl_deeds.proofs.inner.inner_reductions.Given as goal

-- what is left to tell from here is what was to tell at first
abbrev pub invariant-loop-deed : goal.invariant-loop-deed
invariant-loop-deed l =
    least_from l.first (inner_reductions_of (map deed_view (drop l.deed-index l.deeds))) ≡ least_from l.initial.first (inner_reductions_of (map deed_view l.deeds))
