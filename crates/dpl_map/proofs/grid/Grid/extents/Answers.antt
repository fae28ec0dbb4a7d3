-- An extent is no more than the locales of the grid.
use Rattle.std.proofs.Common.{◌*◌, subst, length}
use Rattle.dpl_map.specs.Grids.{IsGridSize}
use Rattle.dpl_map.proofs.StartLemmas.{extents-small, size-filled}
use Rattle.dpl_map.proofs.grid.Grid.extents.Goals as goal
use Rattle.dpl_map.proofs.grid.Grid.extents.Goals.{After-places}

sized : (c : After-places) → IsGridSize (c.places.result.0 * c.places.result.1 * c.places.result.2)
sized c = subst IsGridSize (size-filled c.self.inside.extents (length c.self.inside.extents) _ _ _ c.places.ensures.places c.places.ensures.unused) c.self.invariant.size

pub returns-clause-size : goal.returns-clause-size
returns-clause-size c = sized (goal.at.returns-clause-size c).After-places

pub returns-clause-outer : goal.returns-clause-outer
returns-clause-outer c = (extents-small _ _ _ (sized (goal.at.returns-clause-outer c).After-places)).0

pub returns-clause-middle : goal.returns-clause-middle
returns-clause-middle c = (extents-small _ _ _ (sized (goal.at.returns-clause-middle c).After-places)).1
