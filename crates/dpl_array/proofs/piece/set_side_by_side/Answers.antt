-- The value at the next place is written.
-- These are the answers to the goals of `set_side_by_side`.
use Rattle.std.proofs.Common.{◌≡◌, ◌+◌, ◌<◌, Some, length, suc, slice_get, slice_set, arith, refl, sym, ap, ◌∙◌}
use Rattle.std.proofs.lemmas.Option.{slice_get_read}
use Rattle.dpl_array.specs.Rows.{set_each, set_some, side_by_side}
use Rattle.dpl_array.proofs.piece.set_side_by_side.Goals as goal

pub offset_bounds-row-place : goal.offset_bounds-row-place
offset_bounds-row-place g c =
    let within = c.requires.within c.loop-k.k c.loop-k-test.true in
    let inside : c.args.place + c.loop-k.k < length c.loop-k.row = omega (arith, within, c.loop-k.auto.row) in
    grind arith

pub bounds-row-place : goal.bounds-row-place
bounds-row-place g c = let within = c.requires.within c.loop-k.k c.loop-k-test.true in omega (arith, within, c.loop-k.auto.row)

pub loop-k-init : goal.loop-k-init
loop-k-init g c = refl

pub loop-k-preserved : goal.loop-k-preserved
loop-k-preserved g c =
    let k = c.loop-k.k in
    let values = c.args.values.now in
    let found : slice_get values k ≡ Some c.index-values-k.result = slice_get_read values _ k c.index-values-k.result refl (omega (arith, c.loop-k-test.true, c.requires.most)) c.index-values-k.is in
    let next : suc k ≡ k + 1 = omega arith in
    ap (λ row. slice_set row (c.args.place + k) c.index-values-k.result) c.loop-k.invariant
    ∙ ap (λ o. set_some (c.args.place + k) o (set_each (side_by_side c.args.place) values k c.args.row.now)) (sym found)
    ∙ ap (λ n. set_each (side_by_side c.args.place) values n c.args.row.now) next

pub returns : goal.returns
returns g c =
    let end : c.loop-k.k ≡ c.args.size = omega (arith, c.loop-k-test.false, c.loop-k.auto.k-end) in
    c.loop-k.invariant ∙ ap (λ n. set_each (side_by_side c.args.place) c.args.values.now n c.args.row.now) end
