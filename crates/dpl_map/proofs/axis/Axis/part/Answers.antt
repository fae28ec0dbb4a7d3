-- The members of a congruence class go to one coordinate.
use Rattle.std.proofs.Common.{rules, ap, arith, ◌∙◌, pos, FitsSigned, w64, ◌==◌, ◌<◌, ◌+ℤ◌}
use Rattle.std.proofs.lemmas.Int.{to_z-of_z}
use Rattle.dpl_range.specs.Congruence.{is_congruent}
use Rattle.dpl_sets.specs.Ranges.{members_of}
use Rattle.dpl_map.specs.Maps.{AxisValue}
use Rattle.dpl_map.specs.Places.{cyclic_place}
use Rattle.dpl_map.proofs.AxisLemmas.{class-cyclic}
use Rattle.dpl_range.proofs.Lists.{filter-alike}
use Rattle.dpl_map.proofs.axis.Axis.part.Goals as goal

pub returns-in-Cyclic-clause-members : goal.returns-in-Cyclic-clause-members
returns-in-Cyclic-clause-members c =
    let start_fits : FitsSigned w64 c.in-Cyclic.start = search rules in
    let below : c.args.coordinate < c.self.inside.extent = omega (arith, ap (λ (a : AxisValue). a.extent) c.self.view_is, c.requires.coordinate) in
    let members = simp to_z-of_z at c.class.ensures.members in
    rw (← c.self.view_is, c.in-Cyclic.is)
    (members
    ∙ filter-alike (is_congruent c.self.inside.extent (c.in-Cyclic.start +ℤ pos c.args.coordinate)) (λ i. cyclic_place c.in-Cyclic.start c.self.inside.extent i == c.args.coordinate) (members_of c.args.range.now)
    (λ k i at. class-cyclic c.in-Cyclic.start c.self.inside.extent c.args.coordinate i below))
