-- An integer from the low bound on lies past the origin.
use Rattle.std.proofs.Common.{rules, arith, ◌-ℤ◌, FitsSigned, w64}
use Rattle.std.specs.Int.{w128}
use Rattle.std.proofs.lemmas.Int.{ints, to_z-of_z}
use Rattle.dpl_map.proofs.DealLemmas.{size-natural, way-near}
use Rattle.dpl_map.proofs.blocks.Deal.way.Goals as goal

pub returns-clause-way : goal.returns-clause-way
returns-clause-way c =
    let d = c.args.self.now in
    let near = way-near d.range d.origin d.size d.extent d.coordinate d.deal c.args.i c.requires.low c.requires.high in
    let i_fits : FitsSigned w64 c.args.i = c.ranges.i in
    let origin_fits : FitsSigned w128 d.origin = search rules in
    let i_wide : FitsSigned w128 c.args.i = search (rules, ints) in
    let way_fits : FitsSigned w128 (c.args.i -ℤ d.origin) = search (rules, ints) in
    simp to_z-of_z (size-natural (c.args.i -ℤ d.origin) (omega (arith, ints, near)))

pub overflow_cast-result-2 : goal.overflow_cast-result-2
overflow_cast-result-2 c =
    let d = c.args.self.now in
    let near = way-near d.range d.origin d.size d.extent d.coordinate d.deal c.args.i c.requires.low c.requires.high in
    let i_fits : FitsSigned w64 c.args.i = c.ranges.i in
    let origin_fits : FitsSigned w128 d.origin = search rules in
    let i_wide : FitsSigned w128 c.args.i = search (rules, ints) in
    search (rules, ints)
