use Rattle.std.proofs.Common.{◌≡◌, [], map, drop}
use Rattle.dpl_deeds.specs.View.{deed_view}
use Rattle.dpl_bodies.specs.View.{scope_view}
use Rattle.dpl_bodies.specs.Written.{all_written as all_written_of}
use Rattle.dpl_bodies.proofs.forall.all_written.Given as goal

-- with what is left they are all
abbrev pub invariant-loop-deed : goal.invariant-loop-deed
invariant-loop-deed l =
    all_written_of (scope_view l.turns) l.written (map deed_view (drop l.deed-index l.deeds))
    ≡ all_written_of (scope_view l.turns) [] (map deed_view l.deeds)
