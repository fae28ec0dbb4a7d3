-- The axes that a map does not have are idle.
use Rattle.std.proofs.Common.{length}
use Rattle.dpl_map.proofs.AxesLemmas.{IsMap-filled}
use Rattle.dpl_map.proofs.map.Map.axes.Goals as goal

pub returns-clause-limits : goal.returns-clause-limits
returns-clause-limits c =
    rw (← c.self.view_is) (IsMap-filled c.self.inside.axes (length c.self.inside.axes) _ _ _ c.places.ensures.places c.places.ensures.unused c.self.invariant)
