-- The row of one domain has its indices in their order.
-- These are the answers to the goals of `place_alone`.
use Rattle.std.proofs.Common.{◌<◌, length, refl, arith}
use Rattle.std.proofs.lemmas.Option.{slice_get_read}
use Rattle.dpl_array.proofs.RowLemmas.{row-first}
use Rattle.dpl_array.proofs.place.place_alone.Goals as goal

pub returns : goal.returns
returns c =
    let parts = c.args.parts.now in
    let within : 0 < length parts = omega (arith, c.in-len1.len_at_least) in
    row-first parts c.part-item.result (slice_get_read parts _ 0 c.part-item.result refl within c.part-item.is) c.in_ok-place.field-0 c.args.index ((c.place.ensures c.in_ok-place.field-0).0 c.in_ok-place.was)
