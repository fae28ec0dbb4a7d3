-- An axis of one coordinate gives it to each index.
-- These are the answers to the goals of `Axis::coordinate`.
use Rattle.std.proofs.Common.{ap, sym, ◌∙◌}
use Rattle.dpl_map.specs.Maps.{axis_coordinate}
use Rattle.dpl_map.specs.AxisFields.{axis_of}
use Rattle.dpl_map.proofs.SteadyLemmas.{axis-one}
use Rattle.dpl_map.proofs.axis.Axis.coordinate.Goals as goal

pub returns-then-self-eq1-clause-coordinate : goal.returns-then-self-eq1-clause-coordinate
returns-then-self-eq1-clause-coordinate c = sym (axis-one (axis_of c.self.inside) c.args.i c.self.invariant c.if-self-eq1.true) ∙ ap (λ a. axis_coordinate a c.args.i) c.self.view_is
