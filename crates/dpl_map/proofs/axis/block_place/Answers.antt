-- The coordinate by cases: below the box, above it and within.
use Rattle.std.proofs.Common.{rules, sym, arith, ◌-ℤ◌, ◌≤ℤ◌, FitsSigned, w64}
use Rattle.std.proofs.lemmas.Int.{ints, to_z-of_z}
use Rattle.dpl_map.proofs.PlaceLemmas.{block-below, block-above, block-within, block-below-extent}
use Rattle.dpl_map.proofs.axis.block_place.Goals as goal
use Rattle.dpl_map.proofs.axis.block_place.Goals.{Else-high-i}

pub returns-then-i-low-clause-coordinate : goal.returns-then-i-low-clause-coordinate
returns-then-i-low-clause-coordinate c = sym (block-below c.args.low c.args.high c.args.extent c.args.i (omega (arith, ints)))

pub returns-then-high-i-clause-coordinate : goal.returns-then-high-i-clause-coordinate
returns-then-high-i-clause-coordinate c = sym (block-above c.args.low c.args.high c.args.extent c.args.i c.requires.ordered (omega (arith, ints)))

offset-fits : (c : Else-high-i) → FitsSigned w64 (c.args.i -ℤ c.args.low)
offset-fits c = search (rules, ints)

size-fits : (c : Else-high-i) → FitsSigned w64 (c.args.high -ℤ c.args.low)
size-fits c = search (rules, ints)

from : (c : Else-high-i) → c.args.low ≤ℤ c.args.i
from c = omega (arith, ints)

to : (c : Else-high-i) → c.args.i ≤ℤ c.args.high
to c = omega (arith, ints)

pub returns-clause-below : goal.returns-clause-below
returns-clause-below c =
    let i_fits : FitsSigned w64 c.args.i = c.ranges.i in
    let low_fits : FitsSigned w64 c.args.low = c.ranges.low in
    let high_fits : FitsSigned w64 c.args.high = c.ranges.high in
    let offset_fits = offset-fits c in
    let size_fits = size-fits c in
    simp to_z-of_z (block-below-extent c.args.low c.args.high c.args.extent c.args.i (from c) (to c) c.requires.extent.0)

pub overflow_cast-result-2 : goal.overflow_cast-result-2
overflow_cast-result-2 c = let below = returns-clause-below c in record { fits = omega (arith, below) }

pub returns-clause-coordinate : goal.returns-clause-coordinate
returns-clause-coordinate c =
    let i_fits : FitsSigned w64 c.args.i = c.ranges.i in
    let low_fits : FitsSigned w64 c.args.low = c.ranges.low in
    let high_fits : FitsSigned w64 c.args.high = c.ranges.high in
    let offset_fits = offset-fits c in
    let size_fits = size-fits c in
    simp to_z-of_z (sym (block-within c.args.low c.args.high c.args.extent c.args.i (from c) (to c)))
