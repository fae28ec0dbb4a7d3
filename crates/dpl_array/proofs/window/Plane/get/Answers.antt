-- A place in the plane lies among its values.
-- These are the answers to the goals of `Plane::get`.
use Rattle.std.proofs.Common.{◌<◌, length, rules, sym, subst, w64, ◌∙◌}
use Rattle.std.proofs.lemmas.Int.{to_z-of_z}
use Rattle.std.proofs.lemmas.Option.{slice_get-get_or}
use Rattle.dpl_array.proofs.WindowLemmas.{plane-below}
use Rattle.dpl_array.proofs.window.Plane.get.Goals as goal

pub offset_bounds-self-place : goal.offset_bounds-self-place
offset_bounds-self-place g c =
    let p = c.args.self.now in
    let on = c.in_ok-place.ensures in
    let below : c.in_ok-place.place < length p.values.now = subst (λ k. k < length p.values.now) (sym on.place_is) (plane-below on.row on.column p.grid.rows.size p.grid.columns.size (length p.values.now) on.row_below on.column_below p.long) in
    search rules

pub returns : goal.returns
returns g c =
    let p = c.args.self.now in
    let on = c.in_ok-place.ensures in
    let below : c.in_ok-place.place < length p.values.now = subst (λ k. k < length p.values.now) (sym on.place_is) (plane-below on.row on.column p.grid.rows.size p.grid.columns.size (length p.values.now) on.row_below on.column_below p.long) in
    record {
      place = c.in_ok-place.place;
      on = record {
        row = on.row;
        column = on.column;
        row_below = on.row_below;
        column_below = on.column_below;
        row_at = sym (to_z-of_z w64 c.args.i c.ranges.i) ∙ on.row_at;
        column_at = sym (to_z-of_z w64 c.args.j c.ranges.j) ∙ on.column_at;
        place_is = on.place_is;
      };
      value = slice_get-get_or p.values.now c.in_ok-place.place c.index-self-place.result below;
    }
