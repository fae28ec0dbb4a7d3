-- The start of the domain that has the index, and the place of the index there.
-- These are the answers to the goals of `place_in`.
use Rattle.std.proofs.Common.{arith}
use Rattle.dpl_array.proofs.RowLemmas.{row-none, row-some, found-below}
use Rattle.dpl_array.proofs.place.place_in.Goals as goal

pub returns-in_err-number : goal.returns-in_err-number
returns-in_err-number c = row-none c.args.parts.now c.args.index c.in_err-number.ensures c.from_residual-in_err-number.result c.from_residual-in_err-number.ensures

pub bounds-starts-number : goal.bounds-starts-number
bounds-starts-number c =
    let below = found-below c.args.parts.now c.args.index c.in_ok-number.number c.in_ok-number.place c.in_ok-number.ensures in
    omega (arith, below.0, c.requires.starts.long)

pub overflow_add-result : goal.overflow_add-result
overflow_add-result c =
    let below = found-below c.args.parts.now c.args.index c.in_ok-number.number c.in_ok-number.place c.in_ok-number.ensures in
    let start = c.requires.starts.each c.in_ok-number.number below.0 in
    record { fits = omega (arith, below.1, start, c.requires.small) }

pub returns : goal.returns
returns c =
    let below = found-below c.args.parts.now c.args.index c.in_ok-number.number c.in_ok-number.place c.in_ok-number.ensures in
    row-some c.args.parts.now c.args.index c.in_ok-number.number c.in_ok-number.place c.in_ok-number.ensures _ (c.requires.starts.each c.in_ok-number.number below.0)

pub offset_bounds-starts-number : goal.offset_bounds-starts-number
offset_bounds-starts-number c =
    let below = found-below c.args.parts.now c.args.index c.in_ok-number.number c.in_ok-number.place c.in_ok-number.ensures in
    record { fits = omega (arith, below.0, c.requires.starts.long) }
