-- Each domain's indices end where those of the next begin.
-- These are the answers to the goals of `starts_of`.
use Rattle.std.proofs.Common.{◌≡◌, ◌+◌, length, arith, refl, ap, ◌∙◌}
use Rattle.std.proofs.lemmas.List.{length_push}
use Rattle.std.proofs.lemmas.Option.{slice_get_read}
use Rattle.dpl_array.specs.Rows.{start_of}
use Rattle.dpl_array.proofs.RowLemmas.{start-next, start-within, start-end, starts-push}
use Rattle.dpl_array.proofs.place.starts_of.Goals as goal

pub overflow_add-size : goal.overflow_add-size
overflow_add-size c =
    let ds = c.args.parts.now in
    let k = c.loop-part.part-index in
    let found = slice_get_read ds _ k c.part-item.result refl c.loop-part-test.true c.part-item.is in
    let next = start-next ds k c.part-item.result found in
    let within = start-within ds (k + 1) in
    let here = c.loop-part.invariant.1 in
    record { fits = omega (arith, next, within, here, c.requires.small, c.size.ensures.size) }

pub loop-part-preserved : goal.loop-part-preserved
loop-part-preserved c =
    let ds = c.args.parts.now in
    let k = c.loop-part.part-index in
    let found = slice_get_read ds _ k c.part-item.result refl c.loop-part-test.true c.part-item.is in
    let next = start-next ds k c.part-item.result found in
    let long = c.loop-part.invariant.0 in
    let here = c.loop-part.invariant.1 in
    (ap length c.in_ok-push.ensures.items ∙ length_push c.loop-part.starts.items c.loop-part.size ∙ ap (λ n. n + 1) long, omega (arith, next, here, c.size.ensures.size), rw c.in_ok-push.ensures.items (starts-push ds c.loop-part.starts.items k c.loop-part.size long here c.loop-part.invariant.2))

pub returns-clause-size : goal.returns-clause-size
returns-clause-size c =
    let end : c.loop-part.part-index ≡ length c.args.parts.now = omega arith in
    c.loop-part.invariant.1 ∙ ap (start_of c.args.parts.now) end ∙ start-end c.args.parts.now
